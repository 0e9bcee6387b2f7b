-- What a line reaches in one of two turns and in the other: alike in all that is reported.
use Rattle.std.proofs.Common.{◌≡◌, ◌∙◌, ℕ, ◌≤◌, List, ◌++◌, length, take, drop, ap, sym, subst, arith, Option, None, Some}
use Rattle.std.specs.Io.KnownBytes.{prepend_known}
use Rattle.std.proofs.Math.Seq.{drop-append_seam, take-append_seam}
use Rattle.command_rows.specs.Rows.{Reach}
use Rattle.command_rows.specs.Vocabulary.{CabinetState, Content, Counted, DiskState, EntropyState, Event, Files, Gives, GivesFrom, Logs, Rose, Takes, logged, present, stored, with_events, with_file}
use Rattle.turn_determinism.specs.Same.{IsSameCount}

-- ---- counts

pub counted_same : (many : ℕ) {n m n' m' : ℕ} → IsSameCount n n' → Counted many n m → Counted many n' m' → IsSameCount m m'
counted_same many {n} {m} {n'} {m'} same c c' = omega (arith, same, c.least, c.most, c'.least, c'.most)

pub uncounted_same : {n m n' m' : ℕ} → IsSameCount n n' → m ≡ n → m' ≡ n' → IsSameCount m m'
uncounted_same same is is' = rw (is, is') same

-- a count that didn't rise is as it was
pub unrisen : (n m : ℕ) → n ≤ m → ¬ Rose n m → m ≡ n
unrisen n m later quiet = omega (arith, later, quiet)

-- ---- disks

-- both disks report the same content
pub record AlikeDisk (d d' : DiskState) : Type 0 where
  pub content : Content
  pub told : d.content ≡ Some content
  pub told' : d'.content ≡ Some content
  pub size : d'.size ≡ d.size
  pub shows : d'.shows ≡ d.shows
  pub reads : IsSameCount d.reads d'.reads

pub still_disk : (d d' e e' : DiskState) → AlikeDisk d d' → e ≡ d → e' ≡ d' → AlikeDisk e e'
still_disk d d' e e' same is is' = rw (is, is') same

told_after : (events : List Event) (c : Content) (before after : Option Content) → before ≡ Some c → after ≡ logged events before → after ≡ Some (with_events events c)
told_after events c before after told is = is ∙ ap (logged events) told

-- disks that log the same events stay alike
pub logs_alike : (events : List Event) (d d' e e' : DiskState) → AlikeDisk d d' → Logs events d e → Logs events d' e' → IsSameCount e.reads e'.reads → AlikeDisk e e'
logs_alike events d d' e e' same logs logs' reads = record {
  content = with_events events same.content;
  told = told_after events same.content d.content e.content same.told logs.content;
  told' = told_after events same.content d'.content e'.content same.told' logs'.content;
  size = logs'.size ∙ same.size ∙ sym logs.size;
  shows = logs'.shows ∙ same.shows ∙ sym logs.shows;
  reads = reads;
}

-- what is read of a disk that reports its content
pub given_by : (d : DiskState) (c : Content) (n : ℕ) (bytes : List ℕ) → d.content ≡ Some c → Gives d n bytes → bytes ≡ present c n
given_by d c n bytes told given = let P : Option Content → Type 0 = λ o. GivesFrom o n bytes in subst P told given

-- ---- the entropy

pub record AlikeEntropy (e e' : EntropyState) : Type 0 where
  pub left : List ℕ
  pub told : e.left ≡ Some left
  pub told' : e'.left ≡ Some left
  pub calls : IsSameCount e.calls e'.calls

pub still_entropy : (e e' f f' : EntropyState) → AlikeEntropy e e' → f ≡ e → f' ≡ e' → AlikeEntropy f f'
still_entropy e e' f f' same is is' = rw (is, is') same

drawn : (random left : List ℕ) (behind : Option (List ℕ)) → Some left ≡ prepend_known random behind → (random ≡ take (length random) left) × (behind ≡ Some (drop (length random) left))
drawn random left None h = absurd (let no : ⊥ = cc h in no)
drawn random left (Some rest) h =
    let is : left ≡ random ++ rest = cc h in
    (rw is (sym (take-append_seam random rest)), rw is (ap Some (sym (drop-append_seam random rest))))

taken_by : (size : ℕ) (random left : List ℕ) (e f : EntropyState) → e.left ≡ Some left → length random ≡ size → Takes random e f → (random ≡ take size left) × (f.left ≡ Some (drop size left))
taken_by size random left e f told long takes =
    let P : ℕ → Type 0 = λ n. (random ≡ take n left) × (f.left ≡ Some (drop n left)) in
    subst P long (drawn random left f.left (sym told ∙ takes.taken))

-- as many random bytes are taken, so they are the same
pub takes_same : (size : ℕ) (random random' : List ℕ) (e e' f f' : EntropyState) → AlikeEntropy e e' → length random ≡ size → length random' ≡ size → Takes random e f → Takes random' e' f' → random' ≡ random
takes_same size random random' e e' f f' same long long' takes takes' =
    (taken_by size random' same.left e' f' same.told' long' takes').0 ∙ sym (taken_by size random same.left e f same.told long takes).0

pub takes_alike : (size : ℕ) (random random' : List ℕ) (e e' f f' : EntropyState) → AlikeEntropy e e' → length random ≡ size → length random' ≡ size → Takes random e f → Takes random' e' f' → AlikeEntropy f f'
takes_alike size random random' e e' f f' same long long' takes takes' = record {
  left = drop size same.left;
  told = (taken_by size random same.left e f same.told long takes).1;
  told' = (taken_by size random' same.left e' f' same.told' long' takes').1;
  calls = counted_same 1 same.calls takes.asked takes'.asked;
}

-- ---- the cabinet

pub record AlikeCabinet (c c' : CabinetState) : Type 0 where
  pub files : Files
  pub told : c.files ≡ Some files
  pub told' : c'.files ≡ Some files
  pub stores : IsSameCount c.stores c'.stores

pub still_cabinet : (c c' b b' : CabinetState) → AlikeCabinet c c' → b ≡ c → b' ≡ c' → AlikeCabinet b b'
still_cabinet c c' b b' same is is' = rw (is, is') same

-- the files stay, and no store is made
pub keeps_alike : (c c' b b' : CabinetState) → AlikeCabinet c c' → b.files ≡ c.files → b'.files ≡ c'.files → b.stores ≡ c.stores → b'.stores ≡ c'.stores → AlikeCabinet b b'
keeps_alike c c' b b' same is is' unstored unstored' =
    record { files = same.files; told = is ∙ same.told; told' = is' ∙ same.told'; stores = uncounted_same same.stores unstored unstored' }

-- cabinets in which the same file is stored, in one store, stay alike
pub stored_alike : (name bytes : List ℕ) (c c' b b' : CabinetState) → AlikeCabinet c c' → b.files ≡ stored name bytes c.files → b'.files ≡ stored name bytes c'.files → Counted 1 c.stores b.stores → Counted 1 c'.stores b'.stores
    → AlikeCabinet b b'
stored_alike name bytes c c' b b' same is is' once once' = record {
  files = with_file name bytes same.files;
  told = is ∙ ap (stored name bytes) same.told;
  told' = is' ∙ ap (stored name bytes) same.told';
  stores = counted_same 1 same.stores once once';
}

-- ---- all that is reached

pub record Alike (r r' : Reach) : Type 0 where
  pub disk : AlikeDisk r.disk r'.disk
  pub holding : r'.holding ≡ r.holding
  pub cabinet : AlikeCabinet r.cabinet r'.cabinet
  pub entropy : AlikeEntropy r.entropy r'.entropy

pub still_alike : (r r' s s' : Reach) → Alike r r' → s ≡ r → s' ≡ r' → Alike s s'
still_alike r r' s s' same is is' = rw (is, is') same
