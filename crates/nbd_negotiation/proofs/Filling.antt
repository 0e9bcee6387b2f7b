-- Bytes that a source gave, one piece after another.
use Rattle.std.proofs.Common.{◌≡◌, ◌∙◌, ℕ, ◌+◌, ◌<◌, ◌≤◌, List, [], ◌++◌, length, take, Err, refl, ap, sym, subst, arith, append_assoc, append-nil, length-take-le, Option, None, Some}
use Rattle.std.proofs.Math.Seq.{take-append-add}
use Rattle.std.proofs.lemmas.List.{take-append-le}
use Rattle.std.specs.Io.KnownBytes.{prepend_known}
use Rattle.block_traits.specs.Streams.{SourceState}
use Rattle.nbd_negotiation.specs.Streams.{Fills, GavePart, SourceGave}
use Rattle.nbd_negotiation.specs.declared.streams.End.{End}
use Rattle.nbd_negotiation.specs.declared.streams.End.TheVariants.{Closed, ReadFault, WriteFault, Malformed}
use borrow.Rule.Slice.PartMut.{put_mid, post_of}

prepend_known-more : (first second : List ℕ) (known : Option (List ℕ)) → prepend_known first (prepend_known second known) ≡ prepend_known (first ++ second) known
prepend_known-more first second None = refl
prepend_known-more first second (Some bytes) = ap Some (sym (append_assoc first second bytes))

-- the first bytes of a list in which a part was filled from the place a on
pub take-filled : (a k n : ℕ) (xs ys : List ℕ) → a ≤ length xs → n ≤ length ys → take (a + n) (put_mid a k xs ys) ≡ take a xs ++ take n ys
take-filled a k n xs ys inside few =
    ap (λ (m : ℕ). take (m + n) (put_mid a k xs ys)) (sym (length-take-le a xs inside))
    ∙ take-append-add (take a xs) (ys ++ post_of a k xs) n
    ∙ ap (λ (l : List ℕ). take a xs ++ l) (take-append-le n ys (post_of a k xs) few)

pub SourceGave-then : {xs ys : List ℕ} {old middle new : SourceState} → SourceGave xs old middle → SourceGave ys middle new → SourceGave (xs ++ ys) old new
SourceGave-then {xs} {ys} {old} {middle} {new} first second = record {
  left = first.left ∙ ap (prepend_known xs) second.left ∙ prepend_known-more xs ys new.left;
  later = omega (arith, first.later, second.later);
}

prepend_known-none : (known : Option (List ℕ)) → known ≡ prepend_known [] known
prepend_known-none None = refl
prepend_known-none (Some bytes) = refl

-- the source gave nothing
pub SourceGave-none : (s : SourceState) → SourceGave [] s s
SourceGave-none s = record { left = prepend_known-none s.left; later = omega arith }

-- the source gave these bytes and nothing more
pub SourceGave-bare : {xs : List ℕ} {source rest : SourceState} → SourceGave xs source rest → SourceGave (xs ++ []) source rest
SourceGave-bare {xs} {source} {rest} h = subst (λ (l : List ℕ). SourceGave l source rest) (sym (append-nil xs)) h

-- what came of bytes that didn't all come
pub part_filled : (end : End) (bytes : List ℕ) (old new : SourceState) → Fills bytes old (Err end) new → GavePart bytes old new
part_filled Closed bytes old new h = h.0
part_filled ReadFault bytes old new h = h.0
part_filled WriteFault bytes old new h = absurd h
part_filled Malformed bytes old new h = absurd h

-- the first of so many bytes, and not all, are fewer
pub fewer : (n count : ℕ) (bytes : List ℕ) → length bytes ≡ n → count < length bytes → length (take count bytes) < n
fewer n count bytes size within = omega (arith, length-take-le count bytes (omega (arith, within)), within, size)
