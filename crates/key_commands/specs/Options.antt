-- What `geli init` refuses before anything is done (geli(8)).
use Rattle.std.specs.Prelude.{ℕ, ◌*◌, ◌==◌, Bool, List, [], ◌∷◌, not, Option, Some, None, Result, Ok, Err, if◌then◌else◌}
use Rattle.eli_base.specs.Algorithms.{allows_length}
use Rattle.eli_base.specs.SectorSize.{is_sector_size}
use Rattle.eli_base.specs.Units.{media_sectors}
use Rattle.eli_base.specs.declared.refusals.Refusal.{Refusal}
use Rattle.eli_base.specs.declared.refusals.Refusal.TheVariants as refusals
use Rattle.user_key.specs.Refusals.{key_refusal_of}
use Rattle.user_key.specs.Derivation.{user_key}
use Rattle.user_key.specs.declared.components.Components.{Components}
use Rattle.user_key.specs.declared.components.UserKey.{UserKey}
use Rattle.user_key.specs.declared.components.KeyFault.{KeyFault}
use Rattle.key_commands.specs.declared.options.InitOptions.{InitOptions}

-- the refusal of components that make no user key
abbrev pub key_refusal : Result UserKey KeyFault → Option Refusal
key_refusal (Ok key) = None
key_refusal (Err fault) = Some (key_refusal_of fault)

-- the first refusal of a list whose condition holds, or else the refusal of the key
abbrev pub first_or_key : List (Bool × Refusal) → Result UserKey KeyFault → Option Refusal
first_or_key [] key = key_refusal key
first_or_key ((holds, refusal) ∷ others) key = if holds then Some refusal else first_or_key others key

-- The first refusal that holds for an image of so many device sectors. An image of fewer than two has no logical
-- sector. Whether components make a key doesn't depend on the salt, so the empty salt decides it here.
abbrev pub early_refusal : InitOptions → Components → ℕ → Option Refusal
early_refusal options parts sectors = first_or_key (
    (not (allows_length options.cipher options.keylen), refusals.BadKeyLength options.keylen)
    ∷ (not (is_sector_size options.sectorsize), refusals.BadSectorSize options.sectorsize)
    ∷ (media_sectors options.auth options.sectorsize (512 * sectors) == 0, refusals.TooSmall (512 * sectors))
    ∷ []) (user_key parts [] options.iterations)
