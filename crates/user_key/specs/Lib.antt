pub mod Derivation
pub mod Passphrase
pub mod Refusals
