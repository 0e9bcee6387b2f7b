-- The metadata of a new provider (g_eli.h, struct g_eli_metadata; geli(8), init).
use Rattle.std.specs.Prelude.{ℕ, ◌+◌, ◌*◌, List, ◌++◌, Bool, true, false}
use Rattle.eli_base.specs.Algorithms.{auth_number, cipher_number}
use Rattle.eli_base.specs.declared.algorithms.Auth.{Auth}
use Rattle.eli_base.specs.declared.algorithms.Auth.TheVariants.{Off}
use Rattle.eli_metadata.specs.declared.metadata.Metadata.{Metadata}
use Rattle.key_slots.specs.Slots.{wrapped}
use Rattle.key_commands.specs.declared.options.InitOptions.{InitOptions}
use Rattle.key_commands.specs.Random.{salt_in, master_key_in, filler_in}

-- G_ELI_FLAG_AUTH
abbrev pub auth_flag : Auth → ℕ
auth_flag Off = 0
auth_flag _ = 0x10

-- G_ELI_FLAG_AUTORESIZE
abbrev pub autoresize_flag : Bool → ℕ
autoresize_flag false = 0
autoresize_flag true = 0x200

-- the metadata of an image of so many device sectors, with this salt, slot 0 and slot 1; slot 0 alone is set
abbrev pub metadata_of : InitOptions → ℕ → List ℕ → List ℕ → List ℕ → Metadata
metadata_of options sectors salt slot0 slot1 = record {
  version = 7;
  flags = auth_flag options.auth + autoresize_flag options.autoresize;
  ealgo = cipher_number options.cipher;
  keylen = options.keylen;
  aalgo = auth_number options.auth;
  provsize = 512 * sectors;
  sectorsize = options.sectorsize;
  keys = 1;
  iterations = options.iterations;
  salt = salt;
  mkeys = slot0 ++ slot1;
}

-- the metadata from the random bytes and the user key u: the master key among the random bytes is wrapped in slot 0,
-- and slot 1 has filler
abbrev pub new_metadata : InitOptions → ℕ → List ℕ → List ℕ → Metadata
new_metadata options sectors random u =
    metadata_of options sectors (salt_in random) (wrapped (master_key_in random) u options.keylen) (filler_in random)
