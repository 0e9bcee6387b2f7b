-- What an attached provider reports of itself in numbers, beside its disk.
use Rattle.std.specs.Prelude.{ℕ, Bool, true, false, List, ◌∷◌}
use Rattle.eli_base.specs.Algorithms.{auth_number, cipher_number}
use Rattle.eli_base.specs.Keying.{Keying}
use Rattle.provider.specs.Attached.{Attached}

abbrev pub truth_number : Bool → ℕ
truth_number false = 0
truth_number true = 1

-- read-only state, slot and keying, the bytes of the master key last
abbrev pub rest_numbers : Keying → ℕ → Bool → List ℕ
rest_numbers k slot readonly =
    truth_number readonly ∷ slot ∷ k.version ∷ auth_number k.auth ∷ cipher_number k.cipher ∷ k.keylen ∷ k.sectorsize ∷ k.master

abbrev pub rest_of : {D : Type 0} → Attached D → List ℕ
rest_of p = rest_numbers p.keying p.slot p.readonly
