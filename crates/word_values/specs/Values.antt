-- The values of words: numbers, names and hexadecimal digits.
use Rattle.std.specs.Prelude.{ℕ, ◌+◌, ◌-◌, ◌*◌, ◌%◌, ◌^◌, List, [], ◌∷◌, length, Bool, ◌&&◌, ◌==◌, nat_le, if◌then◌else◌, Option, None, Some, codes}
use Rattle.std.specs.List.{list_all}
use Rattle.std.specs.Char.{is_ascii_digit, is_ascii_hexdigit}
use Rattle.std.specs.Str.{str_eq_ignore_ascii_case}
use Rattle.eli_base.specs.declared.algorithms.Auth.{Auth}
use Rattle.eli_base.specs.declared.algorithms.Auth.TheVariants.{Sha256, Sha384, Sha512}
use Rattle.eli_base.specs.declared.algorithms.Cipher.{Cipher}
use Rattle.eli_base.specs.declared.algorithms.Cipher.TheVariants.{AesCbc, AesXts}

-- the value of decimal digits, the first one most significant
abbrev pub decimal : List ℕ → ℕ
decimal [] = 0
decimal (digit ∷ digits) = (digit - 48) * 10 ^ length digits + decimal digits

-- whether the bytes are one to twenty decimal digits
abbrev pub is_numeral : List ℕ → Bool
is_numeral bytes = nat_le 1 (length bytes) && nat_le (length bytes) 20 && list_all is_ascii_digit bytes

-- a number: one to twenty decimal digits whose value lies within its bounds
abbrev pub number_within : ℕ → ℕ → List ℕ → Option ℕ
number_within low high bytes =
    if is_numeral bytes && nat_le low (decimal bytes) && nat_le (decimal bytes) high then Some (decimal bytes) else None

-- the authentication of a name, in any case of ASCII letters
abbrev pub auth_named : List ℕ → Option Auth
auth_named name =
    if str_eq_ignore_ascii_case name (codes "HMAC/SHA256") then Some Sha256
    else (if str_eq_ignore_ascii_case name (codes "HMAC/SHA384") then Some Sha384
    else (if str_eq_ignore_ascii_case name (codes "HMAC/SHA512") then Some Sha512 else None))

-- the cipher of a name, in any case of ASCII letters
abbrev pub cipher_named : List ℕ → Option Cipher
cipher_named name =
    if str_eq_ignore_ascii_case name (codes "AES-XTS") then Some AesXts
    else (if str_eq_ignore_ascii_case name (codes "AES-CBC") then Some AesCbc else None)

-- the size of an image before it grew: a multiple of 512 from two device sectors to below 2^53
abbrev pub old_size_named : List ℕ → Option ℕ
old_size_named bytes = if decimal bytes % 512 == 0 then number_within 1024 9007199254740480 bytes else None

-- whether the bytes are hexadecimal: an even number of digits in either case, from 2 to 262,144
abbrev pub is_hexadecimal : List ℕ → Bool
is_hexadecimal bytes = nat_le 2 (length bytes) && nat_le (length bytes) 262144 && (length bytes % 2 == 0) && list_all is_ascii_hexdigit bytes
