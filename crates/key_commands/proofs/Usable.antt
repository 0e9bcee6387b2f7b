-- The metadata of a new provider are accepted, and slot 0 of them opens.
use Rattle.std.proofs.Common.{◌≡◌, ◌==◌, ◌≤◌, ℕ, zero, suc, ℤ, ◌+◌, ◌*◌, ◌^◌, ◌<◌, [], ◌∷◌, List, ◌++◌, length, take, refl, ap, ◌∙◌, arith, bit_and, cond, true, false, Bool, not, Option, Some, None, Result, Ok, nat_le, length-append}
use Rattle.std.proofs.lemmas.Bool.Decides.{Decides-eqb}
use Rattle.std.proofs.lemmas.Grind.{common_steps}
use Rattle.std.specs.Option.{option_or}
use Rattle.eli_base.specs.Algorithms.{allows_length}
use Rattle.eli_base.specs.SectorSize.{is_sector_size}
use Rattle.eli_base.specs.Units.{media_sectors}
use Rattle.eli_base.specs.declared.algorithms.Auth.{Auth}
use Rattle.eli_base.specs.declared.algorithms.Auth.TheVariants.{Off, Sha256, Sha384, Sha512}
use Rattle.eli_base.specs.declared.algorithms.Cipher.{Cipher}
use Rattle.eli_base.specs.declared.algorithms.Cipher.TheVariants.{AesCbc, AesXts}
use Rattle.eli_base.specs.declared.parameters.MasterKey.{MasterKey}
use Rattle.eli_base.specs.declared.refusals.Refusal.{Refusal}
use Rattle.eli_base.specs.declared.refusals.Refusal.TheVariants as refusals
use Rattle.eli_metadata.specs.Checks.{Settings, supported, unless}
use Rattle.eli_metadata.specs.declared.metadata.MetaFault.{MetaFault}
use Rattle.eli_metadata.specs.declared.metadata.Metadata.{Metadata}
use Rattle.hmac_kdf.specs.Hmac.{hmac512}
use Rattle.hmac_kdf.proofs.Lengths.{length-hmac512}
use Rattle.key_slots.specs.Slots.{IsSlotOf, Opens, check_code, deciphered_slot, master_in, numbered, slot_bytes, unwrapped}
use Rattle.key_slots.proofs.Parts.{take_front}
use Rattle.key_slots.proofs.Texts.{master_of_text}
use Rattle.user_key.specs.Derivation.{user_key}
use Rattle.user_key.specs.declared.components.Components.{Components}
use Rattle.key_commands.specs.NewMetadata.{metadata_of}
use Rattle.key_commands.specs.Options.{early_refusal, key_refusal}
use Rattle.key_commands.specs.Usable.{IsAccepted, OpensFirst, settings_for}
use Rattle.key_commands.specs.declared.options.InitOptions.{InitOptions}

-- if the key length and the sector size are allowed, and the size isn't too large, none of three refusals holds
three_hold : (a b c : Bool) (x : Settings) (p q r : MetaFault) → a ≡ true → b ≡ true → c ≡ false
    → unless (cond (not a) (Some p) (cond (not b) (Some q) (cond c (Some r) None))) x ≡ Ok x
three_hold a b c x p q r e f g = rw (e, f, g) refl

-- the settings, for each cipher, each authentication, and whether the provider is to grow
settings : (cipher : Cipher) (auth : Auth) (autoresize : Bool) (keylen sectorsize sectors : ℕ) (iterations : ℤ) (salt slot0 slot1 : List ℕ)
    → allows_length cipher keylen ≡ true → is_sector_size sectorsize ≡ true → nat_le (2 ^ 53) (512 * sectors) ≡ false
    → supported (metadata_of (record { cipher = cipher; auth = auth; keylen = keylen; sectorsize = sectorsize; iterations = iterations; autoresize = autoresize }) sectors salt slot0 slot1)
    ≡ Ok (settings_for (record { cipher = cipher; auth = auth; keylen = keylen; sectorsize = sectorsize; iterations = iterations; autoresize = autoresize }) sectors)
unfolding supported
settings AesCbc Off false keylen sectorsize sectors iterations salt slot0 slot1 a b c =
    three_hold (allows_length AesCbc keylen) (is_sector_size sectorsize) (nat_le (2 ^ 53) (512 * sectors)) _ _ _ _ a b c
settings AesCbc Off true keylen sectorsize sectors iterations salt slot0 slot1 a b c =
    three_hold (allows_length AesCbc keylen) (is_sector_size sectorsize) (nat_le (2 ^ 53) (512 * sectors)) _ _ _ _ a b c
settings AesCbc Sha256 false keylen sectorsize sectors iterations salt slot0 slot1 a b c =
    three_hold (allows_length AesCbc keylen) (is_sector_size sectorsize) (nat_le (2 ^ 53) (512 * sectors)) _ _ _ _ a b c
settings AesCbc Sha256 true keylen sectorsize sectors iterations salt slot0 slot1 a b c =
    three_hold (allows_length AesCbc keylen) (is_sector_size sectorsize) (nat_le (2 ^ 53) (512 * sectors)) _ _ _ _ a b c
settings AesCbc Sha384 false keylen sectorsize sectors iterations salt slot0 slot1 a b c =
    three_hold (allows_length AesCbc keylen) (is_sector_size sectorsize) (nat_le (2 ^ 53) (512 * sectors)) _ _ _ _ a b c
settings AesCbc Sha384 true keylen sectorsize sectors iterations salt slot0 slot1 a b c =
    three_hold (allows_length AesCbc keylen) (is_sector_size sectorsize) (nat_le (2 ^ 53) (512 * sectors)) _ _ _ _ a b c
settings AesCbc Sha512 false keylen sectorsize sectors iterations salt slot0 slot1 a b c =
    three_hold (allows_length AesCbc keylen) (is_sector_size sectorsize) (nat_le (2 ^ 53) (512 * sectors)) _ _ _ _ a b c
settings AesCbc Sha512 true keylen sectorsize sectors iterations salt slot0 slot1 a b c =
    three_hold (allows_length AesCbc keylen) (is_sector_size sectorsize) (nat_le (2 ^ 53) (512 * sectors)) _ _ _ _ a b c
settings AesXts Off false keylen sectorsize sectors iterations salt slot0 slot1 a b c =
    three_hold (allows_length AesXts keylen) (is_sector_size sectorsize) (nat_le (2 ^ 53) (512 * sectors)) _ _ _ _ a b c
settings AesXts Off true keylen sectorsize sectors iterations salt slot0 slot1 a b c =
    three_hold (allows_length AesXts keylen) (is_sector_size sectorsize) (nat_le (2 ^ 53) (512 * sectors)) _ _ _ _ a b c
settings AesXts Sha256 false keylen sectorsize sectors iterations salt slot0 slot1 a b c =
    three_hold (allows_length AesXts keylen) (is_sector_size sectorsize) (nat_le (2 ^ 53) (512 * sectors)) _ _ _ _ a b c
settings AesXts Sha256 true keylen sectorsize sectors iterations salt slot0 slot1 a b c =
    three_hold (allows_length AesXts keylen) (is_sector_size sectorsize) (nat_le (2 ^ 53) (512 * sectors)) _ _ _ _ a b c
settings AesXts Sha384 false keylen sectorsize sectors iterations salt slot0 slot1 a b c =
    three_hold (allows_length AesXts keylen) (is_sector_size sectorsize) (nat_le (2 ^ 53) (512 * sectors)) _ _ _ _ a b c
settings AesXts Sha384 true keylen sectorsize sectors iterations salt slot0 slot1 a b c =
    three_hold (allows_length AesXts keylen) (is_sector_size sectorsize) (nat_le (2 ^ 53) (512 * sectors)) _ _ _ _ a b c
settings AesXts Sha512 false keylen sectorsize sectors iterations salt slot0 slot1 a b c =
    three_hold (allows_length AesXts keylen) (is_sector_size sectorsize) (nat_le (2 ^ 53) (512 * sectors)) _ _ _ _ a b c
settings AesXts Sha512 true keylen sectorsize sectors iterations salt slot0 slot1 a b c =
    three_hold (allows_length AesXts keylen) (is_sector_size sectorsize) (nat_le (2 ^ 53) (512 * sectors)) _ _ _ _ a b c

is_below : (n bound : ℕ) → n < bound → nat_le bound n ≡ false
is_below n bound lt = grind (arith, common_steps)

same_number : (n : ℕ) (x p : Result (Unit {0}) MetaFault) → cond (n == n) x p ≡ x
same_number n x p = let same : (n == n) ≡ true = (Decides-eqb n n).1 refl in rw same refl

-- metadata with options that aren't refused are accepted, whatever stands in the salt and the slots
pub IsAccepted-metadata_of : (options : InitOptions) (sectors : ℕ) (salt slot0 slot1 : List ℕ)
    → allows_length options.cipher options.keylen ≡ true → is_sector_size options.sectorsize ≡ true → sectors < 2 ^ 44
    → IsAccepted options sectors (metadata_of options sectors salt slot0 slot1)
IsAccepted-metadata_of options sectors salt slot0 slot1 allowed sized small =
    let below : nat_le (2 ^ 53) (512 * sectors) ≡ false = is_below (512 * sectors) (2 ^ 53) (omega arith) in
    record {
      settings = settings options.cipher options.auth options.autoresize options.keylen options.sectorsize sectors options.iterations salt slot0 slot1 allowed sized below;
      size = same_number (512 * sectors) _ _;
      any_slot = refl;
      slot_0 = refl;
    }

-- if slot 0 alone is set, and its bytes wrap the master key, it opens to the master key
pub Opens-slot_0 : (m : Metadata) (slot filler u master : List ℕ) → m.keys ≡ 1 → m.mkeys ≡ slot ++ filler
    → length slot ≡ 192 → IsSlotOf slot u m.keylen master → Opens m u 0 master
Opens-slot_0 m slot filler u master keys slots long held =
    let bytes : slot_bytes m 0 ≡ slot = ap (take 192) slots ∙ take_front 192 slot filler long in
    record {
      set = ap (λ (k : ℕ). not (bit_and k 1 == 0)) keys;
      slot = record { text = ap (λ (xs : List ℕ). deciphered_slot xs u m.keylen) bytes ∙ held.text };
    }

-- if slot 0 opens to a master key, unwrapping slot 0 gives this key, and so does unwrapping the first slot that opens
pub OpensFirst-Opens : (m : Metadata) (u master : List ℕ) → length master ≡ 128 → Opens m u 0 master → OpensFirst m u master
OpensFirst-Opens m u master long held =
    let text : List ℕ = deciphered_slot (slot_bytes m 0) u m.keylen in
    let code_long = length-hmac512 (hmac512 u (0x00 ∷ [])) master in
    let sum : length text ≡ length master + length (check_code u master) = ap length held.slot.text ∙ length-append master (check_code u master) in
    let text_long : length text ≡ 192 = omega arith in
    let opens : unwrapped m u 0 ≡ Some (record { bytes = master }) =
    ap (λ (b : Bool). cond b (master_in u text) None) held.set ∙ master_of_text u text master text_long held.slot.text in
    record { slot_0 = opens; any_slot = ap (λ (o : Option MasterKey). option_or (numbered o 0) (numbered (unwrapped m u 1) 1)) opens }

none_refused : (a b c : Bool) (x y z : Refusal) (w : Option Refusal) → cond (not a) (Some x) (cond (not b) (Some y) (cond c (Some z) w)) ≡ None
    → (a ≡ true) × (b ≡ true) × (c ≡ false)
none_refused true true false x y z w e = (refl, refl, refl)
none_refused true true true x y z w e = absurd (cc)
none_refused true false c x y z w e = absurd (cc)
none_refused false b c x y z w e = absurd (cc)

some_left : (n : ℕ) → (n == 0) ≡ false → 1 ≤ n
some_left zero e = absurd (cc)
some_left (suc n) e = omega arith

-- what holds for options that aren't refused
pub record IsServed (options : InitOptions) (sectors : ℕ) : Type 0 where
  pub allowed : allows_length options.cipher options.keylen ≡ true
  pub sized : is_sector_size options.sectorsize ≡ true
  pub room : 1 ≤ media_sectors options.auth options.sectorsize (512 * sectors)

pub IsServed-early_refusal : (options : InitOptions) (parts : Components) (sectors : ℕ) → early_refusal options parts sectors ≡ None → IsServed options sectors
IsServed-early_refusal options parts sectors served =
    let media : ℕ = media_sectors options.auth options.sectorsize (512 * sectors) in
    let tests = none_refused (allows_length options.cipher options.keylen) (is_sector_size options.sectorsize) (media == 0)
    (refusals.BadKeyLength options.keylen) (refusals.BadSectorSize options.sectorsize) (refusals.TooSmall (512 * sectors))
    (key_refusal (user_key parts [] options.iterations)) served in
    record { allowed = tests.0; sized = tests.1; room = some_left media tests.2 }
