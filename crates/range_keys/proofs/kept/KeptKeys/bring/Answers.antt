use Rattle.std.proofs.Common.{◌≡◌, inl, inr, ℕ, List, false, Some, is_some, slice_get, nat_eq, sym, ap, ◌∙◌}
use Rattle.std.proofs.lemmas.Bool.{eqb-true}
use Rattle.std.specs.Map.{lookup}
use Rattle.eli_base.specs.declared.algorithms.Cipher.{Cipher}
use Rattle.lru.specs.LruCache.{LruCache, lru_cache, promoted, put_entries}
use Rattle.lru.proofs.CallerLemmas.{Contains-promoted, Contains-put_entries}
use Rattle.range_keys.specs.Kept.{AreKept, expanded_key}
use Rattle.range_keys.specs.declared.expanded.RangeKey.{RangeKey}
use Rattle.range_keys.proofs.Entries.{promoted-found, promoted-missed, put-missed, use-found, use-put, use-refused}
use Rattle.range_keys.proofs.KeptLemmas.{is-expanded}
use Rattle.range_keys.proofs.kept.KeptKeys.bring.Goals as goal

promoted-kept : (cipher : Cipher) (keylen : ℕ) (base : List ℕ) (n : ℕ) (old : LruCache ℕ RangeKey) → AreKept cipher keylen base old →
    AreKept cipher keylen base (lru_cache (promoted (nat_eq n) old.entries) old.cap)
promoted-kept cipher keylen base n old kept =
    record { room = kept.room; each = λ number key in_it. kept.each number key (Contains-promoted (nat_eq n) old.entries (number, key) in_it) }

put-kept : (cipher : Cipher) (keylen : ℕ) (base : List ℕ) (n : ℕ) (key : RangeKey) (old : LruCache ℕ RangeKey) → key ≡ expanded_key cipher keylen base n → AreKept cipher keylen base old →
    AreKept cipher keylen base (lru_cache (put_entries nat_eq old n key) old.cap)
put-kept cipher keylen base n key old right kept = record {
  room = kept.room;
  each = λ number key2 in_it. elim (Contains-put_entries nat_eq old n key (number, key2) in_it) [
    | inl was ↦ kept.each number key2 was
    | inr new ↦ elim new.1 [
      | inl e ↦ new.0 ∙ right ∙ ap (expanded_key cipher keylen base) (sym e)
      | inr e ↦ new.0 ∙ right ∙ ap (expanded_key cipher keylen base) (eqb-true n number e.2)
    ]
  ];
}

pub returns-then-promote-clause-keys : goal.returns-then-promote-clause-keys
returns-then-promote-clause-keys c =
    rw c.promote.ensures.entries (promoted-kept c.args.cipher c.args.keylen c.args.base.now c.args.number c.args.self.now.cache c.requires.keys)

pub returns-then-promote-clause-numbers : goal.returns-then-promote-clause-numbers
returns-then-promote-clause-numbers c =
    rw c.promote.ensures.entries (use-found c.args.number c.args.self.now.cache.entries (sym c.promote.ensures.value ∙ c.if-promote.true))

pub returns-then-promote-clause-front : goal.returns-then-promote-clause-front
returns-then-promote-clause-front c =
    let p = promoted-found c.args.number c.args.self.now.cache.entries (sym c.promote.ensures.value ∙ c.if-promote.true) in
    rw c.promote.ensures.entries (ap (λ es. slice_get es 0) p.2 ∙ ap (λ key. Some (c.args.number, key)) (c.requires.keys.each c.args.number p.0 p.1))

-- a look-up that finds nothing leaves the cache
left_alone : (n : ℕ) (old new : LruCache ℕ RangeKey) → new ≡ lru_cache (promoted (nat_eq n) old.entries) old.cap → is_some (lookup (nat_eq n) old.entries) ≡ false → new ≡ old
left_alone n old new promotes h = promotes ∙ ap (λ es. lru_cache es old.cap) (promoted-missed n old.entries h)

pub returns-in-Ok-clause-keys : goal.returns-in-Ok-clause-keys
returns-in-Ok-clause-keys c =
    let old = c.args.self.now.cache in
    let same = left_alone c.args.number old c.promote.new.self c.promote.ensures.entries (sym c.promote.ensures.value ∙ c.if-promote.false) in
    let right = is-expanded c.args.cipher c.args.keylen c.args.base.now c.range_key.result c.args.number c.expanded-key.result c.range_key.ensures c.expanded-key.ensures.first c.expanded-key.ensures.second in
    rw (c.in-Ok.ensures.entries, same) (put-kept c.args.cipher c.args.keylen c.args.base.now c.args.number c.expanded-key.result old right c.requires.keys)

pub returns-in-Ok-clause-numbers : goal.returns-in-Ok-clause-numbers
returns-in-Ok-clause-numbers c =
    let old = c.args.self.now.cache in
    let none = sym c.promote.ensures.value ∙ c.if-promote.false in
    let same = left_alone c.args.number old c.promote.new.self c.promote.ensures.entries none in
    rw (c.in-Ok.ensures.entries, same) (use-put c.args.number c.expanded-key.result old c.requires.keys.room none)

pub returns-in-Ok-clause-front : goal.returns-in-Ok-clause-front
returns-in-Ok-clause-front c =
    let old = c.args.self.now.cache in
    let none = sym c.promote.ensures.value ∙ c.if-promote.false in
    let same = left_alone c.args.number old c.promote.new.self c.promote.ensures.entries none in
    let right = is-expanded c.args.cipher c.args.keylen c.args.base.now c.range_key.result c.args.number c.expanded-key.result c.range_key.ensures c.expanded-key.ensures.first c.expanded-key.ensures.second in
    rw (c.in-Ok.ensures.entries, same) (ap (λ es. slice_get es 0) (put-missed c.args.number c.expanded-key.result old none) ∙ ap (λ key. Some (c.args.number, key)) right)

pub returns-in-Err-clause-keys : goal.returns-in-Err-clause-keys
returns-in-Err-clause-keys c =
    let old = c.args.self.now.cache in
    let same = left_alone c.args.number old c.promote.new.self c.promote.ensures.entries (sym c.promote.ensures.value ∙ c.if-promote.false) in
    rw (c.in-Err.ensures.err, same) c.requires.keys

pub returns-in-Err-clause-numbers : goal.returns-in-Err-clause-numbers
returns-in-Err-clause-numbers c =
    let old = c.args.self.now.cache in
    let none = sym c.promote.ensures.value ∙ c.if-promote.false in
    let same = left_alone c.args.number old c.promote.new.self c.promote.ensures.entries none in
    rw (c.in-Err.ensures.err, same) (use-refused c.args.number old.entries none)
