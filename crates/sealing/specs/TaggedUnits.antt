-- An authenticated device sector: a tag, ciphertext, and zeros (geli(8), "DATA AUTHENTICATION"; g_eli_integrity.c).
-- Each stands under the keys of its own byte offset.
use Rattle.std.specs.Prelude.{ℕ, ◌-◌, List, [], ◌++◌, length, take, drop, replicate, Result, Ok, Err, if◌then◌else◌}
use Rattle.std.specs.Str.{bytes_eq}
use Rattle.eli_base.specs.declared.algorithms.Auth.{Auth}
use Rattle.eli_base.specs.declared.algorithms.Auth.TheVariants.{Off, Sha256, Sha384, Sha512}
use Rattle.eli_base.specs.Keying.{Keying}
use Rattle.eli_base.specs.Units.{tag_bytes, unit_bytes_of}
use Rattle.hmac_kdf.specs.Hmac.{hmac256, hmac384, hmac512}
use Rattle.range_keys.specs.Keys.{tag_key}
use Rattle.sealing.specs.Runs.{sealed_run, opened_run}

-- the code that authenticates a message under a key; without authentication there is none
abbrev pub hmac_of : Auth → List ℕ → List ℕ → List ℕ
hmac_of Off key message = []
hmac_of Sha256 key message = hmac256 key message
hmac_of Sha384 key message = hmac384 key message
hmac_of Sha512 key message = hmac512 key message

-- the tag of ciphertext at this byte offset
abbrev pub tag_of : Keying → ℕ → List ℕ → List ℕ
tag_of k offset cipher_text = hmac_of k.auth (tag_key k offset) cipher_text

-- the device sector with this ciphertext
abbrev pub tagged : Keying → ℕ → List ℕ → List ℕ
tagged k offset cipher_text = tag_of k offset cipher_text ++ cipher_text ++ replicate (unit_bytes_of k.auth - length cipher_text) 0

-- the device sector of a unit's plain bytes
abbrev pub sealed_tagged : Keying → ℕ → List ℕ → List ℕ
sealed_tagged k offset plain = tagged k offset (sealed_run k offset plain)

-- the tag that a device sector has
abbrev pub kept_tag : Keying → List ℕ → List ℕ
kept_tag k sector = take (tag_bytes k.auth) sector

-- the ciphertext of so many bytes that a device sector has; what is after it isn't looked at
abbrev pub cipher_text_in : Keying → ℕ → List ℕ → List ℕ
cipher_text_in k size sector = take size (drop (tag_bytes k.auth) sector)

-- the plain bytes of a unit of this size, or if the tag isn't that of its ciphertext, a fault at its byte offset
abbrev pub opened_tagged : Keying → ℕ → ℕ → List ℕ → Result (List ℕ) ℕ
opened_tagged k offset size sector =
    (if bytes_eq (kept_tag k sector) (tag_of k offset (cipher_text_in k size sector)) then Ok (opened_run k offset (cipher_text_in k size sector))
    else Err offset)
