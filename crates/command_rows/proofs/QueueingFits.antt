-- That the open requests of a drawer refuse no request that fits them.
use Rattle.command_rows.specs.Rows.{Attachment, HasRequest}
use Rattle.command_rows.specs.Vocabulary.{DiskState, IsOf, Request, media, request_with}
use Rattle.std.proofs.Common.{Option, Some, subst, sym, ℕ, ◌≡◌, IsSomeAnd}

-- ---- `step` and `reap`

pub one_request : (found : Option Request) (r s : Request) → found ≡ Some r → found ≡ Some s → s ≡ r
one_request found r s is also = cc

pub is_served : (a : Attachment) (tag named : ℕ) (disk : DiskState) (r : Request) → tag ≡ named → request_with named a.queue ≡ Some r → IsOf a.keying (media a.keying disk) r → (¬ HasRequest a tag disk) → ⊥
is_served a tag named disk r same found of lacks =
    let has : HasRequest a named disk = subst (λ (o : Option Request). IsSomeAnd o (IsOf a.keying (media a.keying disk))) (sym found) of in
    lacks (subst (λ (t : ℕ). HasRequest a t disk) (sym same) has)
