pub mod Hmac
pub mod Codes
pub mod Pbkdf2
pub mod Hashers
pub mod Bytes
