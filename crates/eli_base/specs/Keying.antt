-- What the bytes of a sealed sector depend on.
use Rattle.std.specs.Prelude.{ℕ, List}
use Rattle.eli_base.specs.declared.algorithms.Auth.{Auth}
use Rattle.eli_base.specs.declared.algorithms.Cipher.{Cipher}
use Rattle.eli_base.specs.declared.parameters.Params.{Params}
use Rattle.eli_base.specs.declared.parameters.MasterKey.{MasterKey}

-- All that the bytes of a sealed sector depend on, beside its number and its plaintext. The size of the provider and
-- whether it is read-only are no part of it.
pub record Keying : Type 0 where
  pub version : ℕ
  pub auth : Auth
  pub cipher : Cipher
  pub keylen : ℕ
  pub sectorsize : ℕ
  pub master : List ℕ

-- the keying of a provider with these parameters and this master key
abbrev pub keying_of : Params → MasterKey → Keying
keying_of params key = record {
  version = params.version;
  auth = params.auth;
  cipher = params.cipher;
  keylen = params.keylen;
  sectorsize = params.sectorsize;
  master = key.bytes;
}
