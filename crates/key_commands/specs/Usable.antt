-- That the metadata of a new provider can be used: they are read back, a provider with them is accepted, and a user key
-- opens them (g_eli.h, eli_metadata_decode and eli_metadata_crypto_supported; geli(8), init and attach).
use Rattle.std.specs.Prelude.{◌≡◌, ◌≤◌, ℕ, ◌*◌, List, false, None, Some, Ok}
use Rattle.eli_base.specs.Units.{media_sectors}
use Rattle.eli_metadata.specs.Checks.{Settings, supported, size_matches, slot_matches}
use Rattle.eli_metadata.specs.Format.{encoded, metadata_in}
use Rattle.eli_metadata.specs.declared.metadata.Metadata.{Metadata}
use Rattle.key_slots.specs.Slots.{unwrapped, unwrapped_any}
use Rattle.user_key.specs.Derivation.{user_key}
use Rattle.user_key.specs.declared.components.Components.{Components}
use Rattle.user_key.specs.declared.components.UserKey.{UserKey}
use Rattle.key_commands.specs.declared.options.InitOptions.{InitOptions}

-- what metadata with these options say about the data of an image of so many device sectors
abbrev pub settings_for : InitOptions → ℕ → Settings
settings_for options sectors = record {
  version = 7;
  auth = options.auth;
  cipher = options.cipher;
  keylen = options.keylen;
  sectorsize = options.sectorsize;
  provsize = 512 * sectors;
  readonly = false;
}

-- nothing in the metadata is refused: they have the settings of the options, the size of the image, and a key in slot 0
pub record IsAccepted (options : InitOptions) (sectors : ℕ) (m : Metadata) : Type 0 where
  pub settings : supported m ≡ Ok (settings_for options sectors)
  pub size : size_matches m sectors ≡ Ok tt
  pub any_slot : slot_matches m None ≡ Ok tt
  pub slot_0 : slot_matches m (Some 0) ≡ Ok tt

-- the user key u opens slot 0 to this master key, and slot 0 is the first slot that it opens
pub record OpensFirst (m : Metadata) (u master : List ℕ) : Type 0 where
  pub slot_0 : unwrapped m u 0 ≡ Some (record { bytes = master })
  pub any_slot : unwrapped_any m u ≡ Some (record { bytes = master }, 0)

-- the metadata are read back from their sector, they are accepted, the image has a whole logical sector beside them,
-- and the user key that the components make under the salt and iterations in them opens them to this master key
pub record IsUsable (options : InitOptions) (parts : Components) (sectors : ℕ) (m : Metadata) (key : UserKey) (master : List ℕ) : Type 0 where
  pub read : metadata_in (encoded m) ≡ Ok m
  pub accepted : IsAccepted options sectors m
  pub room : 1 ≤ media_sectors options.auth options.sectorsize (512 * sectors)
  pub derived : user_key parts m.salt m.iterations ≡ Ok key
  pub opens : OpensFirst m key.bytes master
