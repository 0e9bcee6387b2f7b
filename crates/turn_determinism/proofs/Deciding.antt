-- Steps that change nothing, and those that change only what a drawer does with its disk.
use Rattle.std.proofs.Common.{◌≡◌, ◌∙◌, ℕ, refl, ap, sym, arith, Bool, true, false, Result, Ok, Err}
use Rattle.command_rows.specs.Rows.{Attaches, Attachment, Decides, DecidesBySize, Holding, Idle, IsAttached, Reach}
use Rattle.command_rows.specs.Vocabulary.{Refusal}
use Rattle.eli_base.specs.declared.refusals.Refusal.TheVariants as refusals
use Rattle.command_rows.specs.Turn.{AttachesUnless}
use Rattle.command_rows.specs.verbs.Kill.{Withdraws}
use Rattle.turn_determinism.proofs.Alike.{Alike}
use Rattle.turn_determinism.proofs.Steps.{Both, HasMemory, Later, Settled, Sure, settled, settled_still, still_later}

-- what is decided by what is reached, the same of reaches that are alike
decides_by : {A : Type 0} (decided : Reach → Result A Refusal) → ((r r' : Reach) → Alike r r' → decided r' ≡ decided r) → Sure (λ old answer new. Decides (decided old) old answer new)
decides_by decided same = record {
  goes = λ old answer new h. still_later old new h.1;
  settles = λ old old' answer answer' new new' both memory memory' h h'. settled_still old old' answer answer' new new' both (h'.0 ∙ same old old' both.same ∙ sym h.0) h.1 h'.1;
}

pub decides_sure : {A : Type 0} (decided : Result A Refusal) → Sure (Decides decided)
decides_sure decided = decides_by (λ r. decided) (λ r r' same. refl)

pub size_sure : {A : Type 0} (decided : ℕ → Result A Refusal) → Sure (DecidesBySize decided)
size_sure decided = decides_by (λ r. decided r.disk.size) (λ r r' same. ap decided same.disk.size)

-- ---- what a drawer does with its disk

attached_later : (a : Attachment) (old : Reach) (answer : Result (Unit {0}) Refusal) (new : Reach) → Attaches a old answer new → Later old new
attached_later a old (Ok done) new h = rw h (record { disk = omega arith; cabinet = omega arith; entropy = omega arith })
attached_later a old (Err refusals.NoMemory) new h = still_later old new h
attached_later a old (Err refusal) new h = absurd h

attached_is : (a : Attachment) (old : Reach) (answer : Result (Unit {0}) Refusal) (new : Reach) → HasMemory answer → Attaches a old answer new
    → (answer ≡ Ok tt) × (new ≡ record { disk = old.disk; holding = IsAttached a; cabinet = old.cabinet; entropy = old.entropy })
attached_is a old (Ok done) new memory h = (refl, h)
attached_is a old (Err refusals.NoMemory) new memory h = absurd (memory refl)
attached_is a old (Err refusal) new memory h = absurd h

-- the drawers come to do the same with their disks, and all else stays
pub held_settled : {A : Type 0} (holding : Holding) (old old' : Reach) (answer answer' : Result A Refusal) (new new' : Reach) → (both : Both old old' new new') → answer' ≡ answer
    → new ≡ record { disk = old.disk; holding = holding; cabinet = old.cabinet; entropy = old.entropy }
    → new' ≡ record { disk = old'.disk; holding = holding; cabinet = old'.cabinet; entropy = old'.entropy } → Settled both.counts answer answer' new new'
held_settled holding old old' answer answer' new new' both agrees is is' =
    let same : Alike new new' = rw (is, is') (record { disk = both.same.disk; holding = refl; cabinet = both.same.cabinet; entropy = both.same.entropy }) in
    settled both.counts answer answer' new new' agrees same (λ on. rw (is, is') (both.loads on))

pub attaches_sure : (a : Attachment) → Sure (Attaches a)
attaches_sure a = record {
  goes = attached_later a;
  settles = λ old old' answer answer' new new' both memory memory' h h'.
      let is = attached_is a old answer new memory h in
      let is' = attached_is a old' answer' new' memory' h' in
      held_settled (IsAttached a) old old' answer answer' new new' both (is'.0 ∙ sym is.0) is.1 is'.1;
}

pub unless_sure : (only_check : Bool) (a : Attachment) → Sure (AttachesUnless only_check a)
unless_sure true a = decides_sure (Ok tt)
unless_sure false a = attaches_sure a

pub withdraws_sure : Sure Withdraws
withdraws_sure = record {
  goes = λ old answer new h. rw h.1 (record { disk = omega arith; cabinet = omega arith; entropy = omega arith });
  settles = λ old old' answer answer' new new' both memory memory' h h'. held_settled Idle old old' answer answer' new new' both (h'.0 ∙ sym h.0) h.1 h'.1;
}
