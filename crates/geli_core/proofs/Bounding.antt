-- Each flush that failed at the end of a run is that of a drawer.
use Rattle.std.proofs.Common.{◌≡◌, ℕ, ◌+◌, List, [], ◌∷◌, refl, subst, arith, inl, inr, Bool, true, false, Option, None, Some, IfSome}
use Rattle.command_rows.specs.Rows.{DrawerState, World, is_idle}
use Rattle.geli_core.specs.Bounds.{ClosesWithFailures, FailedHeld, ManyFailed}
use Rattle.geli_core.specs.Trace.{ClosesBy, IsTrace, Trace, world_behind}
use Rattle.geli_core.specs.Vocabulary.{Closes, ClosesAs, Closing, failures}

failed_held : (idle : Bool) (old new : DrawerState) → is_idle old.holding ≡ idle → ClosesAs idle old true new → FailedHeld old new
failed_held true old new is h = absurd (let no : ⊥ = cc h.0 in no)
failed_held false old new is h = record { held = is; rose = h.0.rose }

one_closed : (failed : Bool) (old new : DrawerState) (others : ℕ) (olds news : List DrawerState) → Closes old failed new → ManyFailed others olds news → ManyFailed (failures failed + others) (old ∷ olds) (new ∷ news)
one_closed false old new others olds news h many = let p : others ≡ 0 + others = omega arith in inl (subst (λ (n : ℕ). ManyFailed n olds news) p many)
one_closed true old new others olds news h many = inr (record { behind = others; one_more = refl; failed = failed_held (is_idle old.holding) old new refl h; others = many })

closing_failed : (olds : List DrawerState) (count : ℕ) (news : List DrawerState) → Closing olds count news → ManyFailed count olds news
closing_failed [] count news h = rw h.1 h.0
closing_failed (old ∷ olds) count news h =
    rw (h.6, h.7) (one_closed h.0 old h.1 h.2 olds h.3 h.4 (closing_failed olds h.2 h.3 h.5))

many_failed : (closing : Option ℕ) (behind exit : World) → ClosesBy closing behind exit → IfSome closing (λ failed. ManyFailed failed behind.drawers exit.drawers)
many_failed None behind exit h = tt
many_failed (Some failed) behind exit h = closing_failed behind.drawers failed exit.drawers h.drawers

pub closes_with_failures : (entry exit : World) (trace : Trace) → IsTrace entry trace exit → ClosesWithFailures entry trace exit
closes_with_failures entry exit trace h = many_failed trace.closing (world_behind entry trace.lines) exit h.closes
