-- What is known of metadata of which nothing is refused.
use Rattle.std.proofs.Common.{◌≡◌, ◌^◌, ◌==◌, Bool, true, false, not, cond, nat_le, is_none, Some, None, Result, Ok, Err, refl, ap, subst}
use Rattle.eli_base.specs.Algorithms.{allows_length}
use Rattle.eli_base.specs.SectorSize.{is_sector_size}
use Rattle.eli_metadata.specs.Checks.{Settings, auth_of, cipher_in, cipher_of, is_readonly, settings_in, supported, unless, unsupported_flags}
use Rattle.eli_metadata.specs.declared.metadata.Metadata.{Metadata}
use Rattle.eli_metadata.specs.declared.metadata.MetaFault.{MetaFault}

-- what settings of which nothing is refused have of the metadata
pub record IsSaid (m : Metadata) (s : Settings) : Type 0 where
  pub keylen : m.keylen ≡ s.keylen
  pub provsize : m.provsize ≡ s.provsize
  pub readonly : is_readonly m ≡ s.readonly
  pub allowed : allows_length s.cipher s.keylen ≡ true
  pub sized : is_sector_size s.sectorsize ≡ true

-- of six refusals none holds, so it is the value
none_of_six : {T : Type 0} (flags cipher allowed auth sized large : Bool) (p q r t u v : MetaFault) (x y : T)
    → unless (cond flags (Some p) (cond cipher (Some q) (cond (not allowed) (Some r) (cond auth (Some t) (cond (not sized) (Some u) (cond large (Some v) None)))))) x ≡ Ok y
    → (allowed ≡ true) × (sized ≡ true) × (unless None x ≡ Ok y)
none_of_six false false true false true false p q r t u v x y h = (refl, refl, h)
none_of_six true cipher allowed auth sized large p q r t u v x y h = absurd cc
none_of_six false true allowed auth sized large p q r t u v x y h = absurd cc
none_of_six false false false auth sized large p q r t u v x y h = absurd cc
none_of_six false false true true sized large p q r t u v x y h = absurd cc
none_of_six false false true false false large p q r t u v x y h = absurd cc
none_of_six false false true false true true p q r t u v x y h = absurd cc

value : (other : Settings) → Result Settings MetaFault → Settings
value other (Ok s) = s
value other (Err fault) = other

same_value : (s t : Settings) → unless None s ≡ Ok t → s ≡ t
unfolding value
same_value s t h = ap (value t) h

pub said : (m : Metadata) (s : Settings) → supported m ≡ Ok s → IsSaid m s
unfolding supported
said m s h =
    let all = none_of_six (not (unsupported_flags m.flags == 0)) (is_none (cipher_of m.ealgo)) (allows_length (cipher_in m) m.keylen)
    (is_none (auth_of m)) (is_sector_size m.sectorsize) (nat_le (2 ^ 53) m.provsize) _ _ _ _ _ _ (settings_in m) s h in
    subst (IsSaid m) (same_value (settings_in m) s all.2) (record { keylen = refl; provsize = refl; readonly = refl; allowed = all.0; sized = all.1 })
