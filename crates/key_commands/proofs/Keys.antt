-- What is refused before anything is done.
use Rattle.std.proofs.Common.{◌≡◌, ◌==◌, ℕ, ◌*◌, [], arith, refl, cond, true, false, Bool, not, Option, Some, None, Result, Ok, Err, subst}
use Rattle.std.specs.Result.{result_err}
use Rattle.eli_base.specs.Algorithms.{allows_length}
use Rattle.eli_base.specs.SectorSize.{is_sector_size}
use Rattle.eli_base.specs.Units.{media_sectors}
use Rattle.eli_base.specs.declared.refusals.Refusal.{Refusal}
use Rattle.eli_base.specs.declared.refusals.Refusal.TheVariants as refusals
use Rattle.key_commands.specs.Options.{early_refusal, key_refusal}
use Rattle.key_commands.specs.declared.options.InitOptions.{InitOptions}
use Rattle.user_key.specs.Derivation.{user_key}
use Rattle.user_key.specs.Refusals.{key_refusal_of}
use Rattle.user_key.specs.declared.components.Components.{Components}
use Rattle.user_key.specs.declared.components.KeyFault.{KeyFault}
use Rattle.user_key.specs.declared.components.KeyFault.TheVariants.{PassphraseNotSet, PassphraseNeeded, NoKeyComponents}
use Rattle.user_key.specs.declared.components.UserKey.{UserKey}

-- none of three conditions holds
none_of_three : (a b c : Bool) (x y z w : Option Refusal) → a ≡ true → b ≡ true → c ≡ false → cond (not a) x (cond (not b) y (cond c z w)) ≡ w
none_of_three a b c x y z w p q r = rw (p, q, r) refl

-- if the options and the size aren't refused, the components decide
pub early_refusal-key : (options : InitOptions) (parts : Components) (sectors : ℕ) → allows_length options.cipher options.keylen ≡ true → is_sector_size options.sectorsize ≡ true
    → (media_sectors options.auth options.sectorsize (512 * sectors) == 0) ≡ false
    → early_refusal options parts sectors ≡ key_refusal (user_key parts [] options.iterations)
early_refusal-key options parts sectors a b c =
    none_of_three (allows_length options.cipher options.keylen) (is_sector_size options.sectorsize) (media_sectors options.auth options.sectorsize (512 * sectors) == 0)
    (Some (refusals.BadKeyLength options.keylen)) (Some (refusals.BadSectorSize options.sectorsize)) (Some (refusals.TooSmall (512 * sectors)))
    (key_refusal (user_key parts [] options.iterations)) a b c

-- a fault of the components is the refusal
pub key_refusal-fault : (key : Result UserKey KeyFault) (fault : KeyFault) → result_err key ≡ Some fault → key_refusal key ≡ Some (key_refusal_of fault)
key_refusal-fault (Ok key) fault is = grind arith
key_refusal-fault (Err found) fault is = grind arith

-- whether the refusal says that the device or the entropy failed, which no check of the arguments finds
abbrev is_outside : Refusal → Bool
is_outside refusals.DeviceFault = true
is_outside refusals.EntropyFault = true
is_outside _ = false

abbrev IsInside : Option Refusal → Type 0
IsInside None = Unit {0}
IsInside (Some refusal) = is_outside refusal ≡ false

IsInside-cond : (b : Bool) (x y : Option Refusal) → IsInside x → IsInside y → IsInside (cond b x y)
IsInside-cond true x y a b = a
IsInside-cond false x y a b = b

IsInside-key : (answer : Result UserKey KeyFault) → IsInside (key_refusal answer)
IsInside-key (Ok key) = tt
IsInside-key (Err PassphraseNotSet) = refl
IsInside-key (Err PassphraseNeeded) = refl
IsInside-key (Err NoKeyComponents) = refl

IsInside-early_refusal : (options : InitOptions) (parts : Components) (sectors : ℕ) → IsInside (early_refusal options parts sectors)
IsInside-early_refusal options parts sectors =
    let key : Option Refusal = key_refusal (user_key parts [] options.iterations) in
    let small : Option Refusal = cond (media_sectors options.auth options.sectorsize (512 * sectors) == 0) (Some (refusals.TooSmall (512 * sectors))) key in
    let sized : Option Refusal = cond (not (is_sector_size options.sectorsize)) (Some (refusals.BadSectorSize options.sectorsize)) small in
    IsInside-cond (not (allows_length options.cipher options.keylen)) (Some (refusals.BadKeyLength options.keylen)) sized refl
    (IsInside-cond (not (is_sector_size options.sectorsize)) (Some (refusals.BadSectorSize options.sectorsize)) small refl
    (IsInside-cond (media_sectors options.auth options.sectorsize (512 * sectors) == 0) (Some (refusals.TooSmall (512 * sectors))) key refl
    (IsInside-key (user_key parts [] options.iterations))))

pub inside-early_refusal : (options : InitOptions) (parts : Components) (sectors : ℕ) (refusal : Refusal) → early_refusal options parts sectors ≡ Some refusal → is_outside refusal ≡ false
inside-early_refusal options parts sectors refusal e = subst IsInside e (IsInside-early_refusal options parts sectors)
