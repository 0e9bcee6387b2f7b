-- What is reported of a tag that differs.
use Rattle.std.specs.Prelude.{◌≡◌, ◌≢◌, ℕ, ◌-◌, List, ◌++◌, length, replicate}
use Rattle.eli_base.specs.Keying.{Keying}
use Rattle.eli_base.specs.Units.{tag_bytes}
use Rattle.sealing.specs.TaggedUnits.{cipher_text_in, kept_tag, tag_of}
use Rattle.auth_sectors.specs.declared.Mismatch.{Mismatch}

-- bytes with so many zeros after them that there are 64
abbrev pub padded : List ℕ → List ℕ
padded bytes = bytes ++ replicate (64 - length bytes) 0

-- the mismatch has the tag that the device sector has, and that of its ciphertext of so many bytes, which is another
pub record ShowsMismatch (k : Keying) (offset size : ℕ) (sector : List ℕ) (mismatch : Mismatch) : Type 0 where
  pub bytes : mismatch.length ≡ tag_bytes k.auth
  pub kept : mismatch.kept ≡ padded (kept_tag k sector)
  pub computed : mismatch.computed ≡ padded (tag_of k offset (cipher_text_in k size sector))
  pub differ : kept_tag k sector ≢ tag_of k offset (cipher_text_in k size sector)
