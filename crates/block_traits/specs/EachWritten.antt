-- Sectors that are written one after another.
use Rattle.std.specs.Prelude.{◌≡◌, ◌⊎◌, ℕ, ◌+◌, List, [], ◌∷◌, Result, Ok, OnOk}
use Rattle.block_traits.specs.declared.disk.DiskFailed.{DiskFailed}

-- these sectors are written in ascending order, the first to number n, up to the first that fails, each as `Writes`
-- says
module _ {S : Type 0} (Writes : ℕ → List ℕ → S → S → Result (Unit {0}) DiskFailed → Type 0) where
  abbrev pub EachWritten : ℕ → List (List ℕ) → S → S → Result (Unit {0}) DiskFailed → Type 0
  EachWritten n [] old new result = (result ≡ Ok tt) × (new ≡ old)
  EachWritten n (bytes ∷ sectors) old new result =
      ((middle : S) × Writes n bytes old middle (Ok tt) × EachWritten (n + 1) sectors middle new result)
      ⊎ (OnOk result ⊥ × Writes n bytes old new result)
