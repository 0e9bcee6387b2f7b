-- What a contract sees of a hasher: the key and the message that it holds.
use Rattle.std.specs.Prelude.{ℕ, List, ◌++◌}
use Rattle.hmac_kdf.specs.Hmac.{key_block, masked}
use Rattle.hmac_kdf.specs.declared.mac.Hmac.{Hmac}

-- the hasher holds this message under this key, over a hash function of which `holds` says what its own hashers hold
pub record HoldsUnder {H : Type 0} {size long : ℕ} (holds : H → List ℕ → Type 0) (hash : List ℕ → List ℕ)
    (hasher : Hmac H size long) (key message : List ℕ) : Type 0 where
  pub inner : holds hasher.inner (masked 0x36 (key_block hash size key) ++ message)
  pub outer : holds hasher.outer (masked 0x5C (key_block hash size key))
