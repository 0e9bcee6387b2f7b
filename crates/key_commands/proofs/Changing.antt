-- What a new key changes in the metadata, and what it keeps.
use Rattle.std.proofs.Common.{◌≡◌, ◌≢◌, ◌==◌, ◌&&◌, ◌||◌, ℕ, ℤ, pos, negsuc, zero, suc, ◌^◌, ◌<◌, refl, sym, ap, subst, ◌∙◌, arith, cond, true, false, not, Bool, IsTrue, is_some, nat_le, bit_and, inl, inr, ◌⊎◌, List, length, Option, Some, None, Result, Ok, Err}
use Rattle.std.proofs.lemmas.Bool.{eqb-true}
use Rattle.std.proofs.lemmas.Bool.Decides.{nat_tests}
use Rattle.std.proofs.lemmas.Nat.{and_assoc, pow_apart}
use Rattle.std.specs.Int.{is_negative}
use Rattle.std.specs.Prelude.{IsOk}
use Rattle.eli_base.specs.Algorithms.{allows_length}
use Rattle.eli_base.specs.declared.algorithms.Cipher.{Cipher}
use Rattle.eli_base.specs.declared.algorithms.Cipher.TheVariants.{AesCbc, AesXts}
use Rattle.eli_base.specs.declared.refusals.Refusal.{Refusal}
use Rattle.eli_base.specs.declared.refusals.Refusal.TheVariants as refusals
use Rattle.eli_metadata.specs.Format.{IsWhole}
use Rattle.eli_metadata.proofs.Laws.{metadata_in-encoded}
use Rattle.eli_metadata.proofs.Supported.{said}
use Rattle.eli_metadata.specs.Checks.{Settings, are_clear, is_set, named_slot_opens, slot_matches, supported}
use Rattle.eli_metadata.specs.declared.metadata.Metadata.{Metadata}
use Rattle.eli_metadata.specs.declared.metadata.MetaFault.{MetaFault}
use Rattle.eli_metadata.specs.declared.metadata.MetaFault.TheVariants.{NoValidKeys}
use Rattle.key_slots.specs.Slots.{IsKeyBits, IsSlotOf, Opens, SameSlot, deciphered_slot, with_slot, wrapped}
use Rattle.key_slots.proofs.Changes.{OpensAsBefore-same, bytes_other, bytes_same, set_other, set_same}
use Rattle.key_slots.proofs.Wrapped.{IsSlotOf-wrapped, length-wrapped}
use Rattle.user_key.specs.Derivation.{user_key}
use Rattle.user_key.specs.declared.components.Components.{Components}
use Rattle.user_key.specs.declared.components.KeyFault.{KeyFault}
use Rattle.user_key.specs.declared.components.KeyFault.TheVariants.{PassphraseNotSet}
use Rattle.user_key.specs.declared.components.PassPart.{PassPart}
use Rattle.user_key.specs.declared.components.PassPart.TheVariants.{Without, Missing, Given}
use Rattle.user_key.specs.declared.components.UserKey.{UserKey}
use Rattle.key_commands.specs.NewKey.{HasNewKey, IsAcceptedAs, IsAskedFor, KeepsSlot, KeyChange, MakesKey, change_refusal, is_only_key, changed_iterations, new_iterations, new_user_key, with_key}
use Rattle.key_commands.specs.Options.{key_refusal}

-- ---- metadata that are checked have an allowed key length

one_holds : (a b : Bool) → (a || b) ≡ true → (a ≡ true) ⊎ (b ≡ true)
one_holds true b e = inl refl
one_holds false b e = inr e

pub IsKeyBits-allowed : (cipher : Cipher) (keylen : ℕ) → allows_length cipher keylen ≡ true → IsKeyBits keylen
IsKeyBits-allowed AesCbc keylen e = elim (one_holds ((keylen == 128) || (keylen == 192)) (keylen == 256) e) [
  | inl first ↦ elim (one_holds (keylen == 128) (keylen == 192) first) [
    | inl h ↦ inl (eqb-true keylen 128 h)
    | inr h ↦ inr (inl (eqb-true keylen 192 h))
  ]
  | inr h ↦ inr (inr (eqb-true keylen 256 h))
]
IsKeyBits-allowed AesXts keylen e = elim (one_holds (keylen == 128) (keylen == 256) e) [
  | inl h ↦ inl (eqb-true keylen 128 h)
  | inr h ↦ inr (inr (eqb-true keylen 256 h))
]

bits_of : (m : Metadata) (answer : Result Settings MetaFault) → supported m ≡ answer → IsOk answer → IsKeyBits m.keylen
bits_of m (Ok s) same ok = let is = said m s same in subst IsKeyBits (sym is.keylen) (IsKeyBits-allowed s.cipher s.keylen is.allowed)
bits_of m (Err fault) same ok = absurd (cc)

pub IsKeyBits-supported : (m : Metadata) → IsOk (supported m) → IsKeyBits m.keylen
IsKeyBits-supported m ok = bits_of m (supported m) refl ok

-- ---- iterations are given for one key alone

three_has : (s : ℕ) → s < 2 → bit_and 3 (2 ^ s) ≡ 2 ^ s
three_has zero lt = refl
three_has (suc zero) lt = refl
three_has (suc (suc s)) lt = absurd (omega arith)

-- if one slot alone holds a key, the bit of the other slot is clear
other_clear : (keys slot s : ℕ) → s < 2 → s ≢ slot → bit_and keys 3 ≡ 2 ^ slot → bit_and keys (2 ^ s) ≡ 0
other_clear keys slot s lt ne e =
    ap (bit_and keys) (sym (three_has s lt)) ∙ sym (and_assoc (2 ^ s) keys 3) ∙ ap (λ (k : ℕ). bit_and k (2 ^ s)) e ∙ pow_apart slot s (λ h. ne (sym h))

is_false : (b : Bool) → ((b ≡ true) → ⊥) → b ≡ false
is_false true never = absurd (never refl)
is_false false never = refl

not_only : (m : Metadata) (slot s : ℕ) → s < 2 → s ≢ slot → is_set m s ≡ true → is_only_key m slot ≡ false
not_only m slot s lt ne set =
    is_false (is_only_key m slot) (λ only.
    let clear = other_clear m.keys slot s lt ne (eqb-true (bit_and m.keys 3) (2 ^ slot) only) in
    let unset : is_set m s ≡ false = ap (λ (k : ℕ). not (k == 0)) clear in
    cc)

none_given : (given : Option ℤ) (only : Bool) (refusal : Refusal) (rest : Option Refusal) → cond (is_some given && not only) (Some refusal) rest ≡ None → only ≡ false → given ≡ None
none_given None only refusal rest e not_only = refl
none_given (Some count) true refusal rest e not_only = absurd (cc)
none_given (Some count) false refusal rest e not_only = absurd (cc)

-- ---- components that were accepted make the same key

not_negative : (n : ℕ) → is_negative (pos n) ≡ false
not_negative n = grind (arith, nat_tests)

either_way : (test : Bool) (x y : Result UserKey KeyFault) → cond (test && false) x y ≡ y
either_way true x y = refl
either_way false x y = refl

same_key : (count : ℕ) (files : List ℕ) (passphrase : PassPart) (salt : List ℕ) (kept n : ℕ) (key : UserKey)
    → user_key (record { keyfile_count = count; keyfiles = files; passphrase = passphrase }) salt (negsuc kept) ≡ Ok key
    → user_key (record { keyfile_count = count; keyfiles = files; passphrase = passphrase }) salt (pos n) ≡ Ok key
same_key count files Without salt kept n key e = either_way (is_negative (pos n)) (Err PassphraseNotSet) _ ∙ e
same_key count files Missing salt kept n key e = absurd (cc)
same_key count files (Given bytes) salt kept n key e = absurd (cc)

same_key-new : (new : PassPart) (kept : ℤ) (parts : Components) (salt : List ℕ) (key : UserKey)
    → user_key parts salt kept ≡ Ok key → user_key parts salt (new_iterations None new kept) ≡ Ok key
same_key-new Without kept parts salt key e = e
same_key-new Missing kept parts salt key e = e
same_key-new (Given bytes) (pos n) parts salt key e =
    let P : Bool → Type 0 = λ test. user_key parts salt (cond test (pos 100000) (pos n)) ≡ Ok key in
    subst P (sym (not_negative n)) e
same_key-new (Given bytes) (negsuc n) parts salt key e = same_key parts.keyfile_count parts.keyfiles parts.passphrase salt n 100000 key e

pub same_key-change : (asked : KeyChange) (s : ℕ) → s < 2 → s ≢ asked.slot → change_refusal asked ≡ None → IsTrue (is_set asked.meta s)
    → (parts : Components) (key : UserKey) → user_key parts asked.meta.salt asked.meta.iterations ≡ Ok key
    → user_key parts asked.meta.salt (changed_iterations asked) ≡ Ok key
same_key-change asked s lt ne served set parts key e =
    let none : asked.iterations ≡ None = none_given asked.iterations (is_only_key asked.meta asked.slot) refusals.IterationsNeedOneKey _ served (not_only asked.meta asked.slot s lt ne set) in
    let P : Option ℤ → Type 0 = λ given. user_key parts asked.meta.salt (new_iterations given asked.parts.passphrase asked.meta.iterations) ≡ Ok key in
    subst P (sym none) (same_key-new asked.parts.passphrase asked.meta.iterations parts asked.meta.salt key e)

-- the iterations stay, or none were set up
stays : (passphrase : PassPart) (kept : ℤ) → (new_iterations None passphrase kept ≡ kept) ⊎ (is_negative kept ≡ true)
stays Without kept = inl refl
stays Missing kept = inl refl
stays (Given bytes) (pos n) = inl (ap (λ (test : Bool). cond test (pos 100000) (pos n)) (not_negative n))
stays (Given bytes) (negsuc n) = inr refl

pub changed_iterations-stays : (asked : KeyChange) (s : ℕ) → s < 2 → s ≢ asked.slot → change_refusal asked ≡ None → IsTrue (is_set asked.meta s)
    → (changed_iterations asked ≡ asked.meta.iterations) ⊎ IsTrue (is_negative asked.meta.iterations)
changed_iterations-stays asked s lt ne served set =
    let none : asked.iterations ≡ None = none_given asked.iterations (is_only_key asked.meta asked.slot) refusals.IterationsNeedOneKey _ served (not_only asked.meta asked.slot s lt ne set) in
    let P : Option ℤ → Type 0 = λ given. (new_iterations given asked.parts.passphrase asked.meta.iterations ≡ asked.meta.iterations) ⊎ IsTrue (is_negative asked.meta.iterations) in
    subst P (sym none) (stays asked.parts.passphrase asked.meta.iterations)

-- ---- a slot that stays

-- a slot with the same bytes and bit is kept if components make the same key
pub KeepsSlot-same : (old new : Metadata) (s : ℕ) → SameSlot old new s → new.keylen ≡ old.keylen
    → (IsTrue (is_set old s) → (parts : Components) (key : UserKey) → user_key parts old.salt old.iterations ≡ Ok key → user_key parts new.salt new.iterations ≡ Ok key)
    → KeepsSlot old new s
KeepsSlot-same old new s same keylen derives = record {
  same = same;
  opens = OpensAsBefore-same old new s same keylen;
  derives = derives;
}

-- ---- what a new key makes

-- if slot s is set, not all slots are clear
some_set : (m : Metadata) (s : ℕ) → s < 2 → is_set m s ≡ true → are_clear m.keys 3 ≡ false
some_set m s lt set =
    is_false (are_clear m.keys 3) (λ clear.
    let none : bit_and m.keys 3 ≡ 0 = eqb-true (bit_and m.keys 3) 0 clear in
    let bit : bit_and m.keys (2 ^ s) ≡ 0 = ap (bit_and m.keys) (sym (three_has s lt)) ∙ sym (and_assoc (2 ^ s) m.keys 3) ∙ ap (λ (k : ℕ). bit_and k (2 ^ s)) none in
    let unset : is_set m s ≡ false = ap (λ (k : ℕ). not (k == 0)) bit in
    cc)

there : (s : ℕ) → s < 2 → nat_le s 1 ≡ true
there zero lt = refl
there (suc zero) lt = refl
there (suc (suc s)) lt = absurd (omega arith)

two_tests : (a b : Bool) (answer : Result (Unit {0}) MetaFault) (fault other : MetaFault) → a ≡ true → b ≡ true → cond a (cond b answer (Err fault)) (Err other) ≡ answer
two_tests a b answer fault other e f = rw (e, f) refl

slot_matches-set : (m : Metadata) (s : ℕ) → s < 2 → is_set m s ≡ true → (slot : Option ℕ) → named_slot_opens m slot ≡ Ok tt → slot_matches m slot ≡ Ok tt
slot_matches-set m s lt set slot opens =
    ap (λ (test : Bool). cond test (Err NoValidKeys) (named_slot_opens m slot)) (some_set m s lt set) ∙ opens

IsAcceptedAs-with_key : (asked : KeyChange) (u : List ℕ) → asked.slot < 2 → is_set (with_key asked u) asked.slot ≡ true → IsAcceptedAs asked.meta (with_key asked u) asked.slot
unfolding supported
IsAcceptedAs-with_key asked u lt set = record {
  settings = refl;
  size = λ sectors. refl;
  any_slot = slot_matches-set (with_key asked u) asked.slot lt set None refl;
  slot = slot_matches-set (with_key asked u) asked.slot lt set (Some asked.slot) (two_tests (nat_le asked.slot 1) (is_set (with_key asked u) asked.slot) (Ok tt) _ _ (there asked.slot lt) set);
}

neither : (a b : Bool) → (a ≡ false) ⊎ (b ≡ true) → (a && not b) ≡ false
neither false b either = refl
neither true true either = refl
neither true false either = elim either [ inl e ↦ absurd (cc) | inr e ↦ absurd (cc) ]

-- if no iterations are given, or the one key is replaced, and the components make a key, nothing is refused
change_refusal-none : (asked : KeyChange) (key : UserKey) → (is_some asked.iterations ≡ false) ⊎ (is_only_key asked.meta asked.slot ≡ true) → new_user_key asked ≡ Ok key
    → change_refusal asked ≡ None
change_refusal-none asked key either made =
    ap (λ (test : Bool). cond test (Some refusals.IterationsNeedOneKey) (key_refusal (new_user_key asked)))
    (neither (is_some asked.iterations) (is_only_key asked.meta asked.slot) either)
    ∙ ap key_refusal made

-- the new metadata, from the iterations that the code computes
pub MakesKey-with : (asked : KeyChange) (key : UserKey) (m : Metadata) (count : ℤ) → IsAskedFor asked → count ≡ changed_iterations asked
    → (is_some asked.iterations ≡ false) ⊎ (is_only_key asked.meta asked.slot ≡ true)
    → user_key asked.parts asked.meta.salt count ≡ Ok key
    → m ≡ with_slot (record asked.meta { iterations = count }) asked.slot (wrapped asked.master key.bytes asked.meta.keylen)
    → IsWhole m → MakesKey asked m
MakesKey-with asked key m count given rule either made is whole =
    let P : ℤ → Type 0 = λ z. user_key asked.parts asked.meta.salt z ≡ Ok key in
    let derived : new_user_key asked ≡ Ok key = subst P rule made in
    let Q : ℤ → Type 0 = λ z. m ≡ with_slot (record asked.meta { iterations = z }) asked.slot (wrapped asked.master key.bytes asked.meta.keylen) in
    let metadata : m ≡ with_key asked key.bytes = subst Q rule is in
    let salt : m.salt ≡ asked.meta.salt = ap (λ (n : Metadata). n.salt) metadata in
    let iterations : m.iterations ≡ changed_iterations asked = ap (λ (n : Metadata). n.iterations) metadata in
    record {
      given = given;
      served = change_refusal-none asked key either derived;
      key = key;
      derived = rw (salt, iterations) derived;
      metadata = metadata;
      whole = whole;
    }

-- ---- the new metadata can be used

-- the slot that got the bytes of a wrapped master key opens to this master key
Opens-with_slot : (old : Metadata) (count : ℤ) (slot : ℕ) (bytes u master : List ℕ) → length old.mkeys ≡ 384 → length bytes ≡ 192 → slot < 2 → IsSlotOf bytes u old.keylen master
    → Opens (with_slot (record old { iterations = count }) slot bytes) u slot master
Opens-with_slot old count zero bytes u master long long' lt held =
    record { set = set_same old.keys 0 lt; slot = record { text = ap (λ (l : List ℕ). deciphered_slot l u old.keylen) (bytes_same old.mkeys bytes 0 long long' lt) ∙ held.text } }
Opens-with_slot old count (suc zero) bytes u master long long' lt held =
    record { set = set_same old.keys 1 lt; slot = record { text = ap (λ (l : List ℕ). deciphered_slot l u old.keylen) (bytes_same old.mkeys bytes 1 long long' lt) ∙ held.text } }
Opens-with_slot old count (suc (suc slot)) bytes u master long long' lt held = absurd (omega arith)

-- the other slot is the same
SameSlot-with_slot : (old : Metadata) (count : ℤ) (slot s : ℕ) (bytes : List ℕ) → length old.mkeys ≡ 384 → length bytes ≡ 192 → slot < 2 → s < 2 → s ≢ slot
    → SameSlot old (with_slot (record old { iterations = count }) slot bytes) s
SameSlot-with_slot old count zero s bytes long long' lt ls ne = record { set = set_other old.keys 0 s lt ne; bytes = bytes_other old.mkeys bytes 0 s long long' lt ls ne }
SameSlot-with_slot old count (suc zero) s bytes long long' lt ls ne = record { set = set_other old.keys 1 s lt ne; bytes = bytes_other old.mkeys bytes 1 s long long' lt ls ne }
SameSlot-with_slot old count (suc (suc slot)) s bytes long long' lt ls ne = absurd (omega arith)

KeepsSlot-with_key : (asked : KeyChange) (u : List ℕ) (s : ℕ) → IsAskedFor asked → change_refusal asked ≡ None → length (wrapped asked.master u asked.meta.keylen) ≡ 192 → s < 2 → s ≢ asked.slot
    → KeepsSlot asked.meta (with_key asked u) s
KeepsSlot-with_key asked u s given served long ls ne =
    let same : SameSlot asked.meta (with_key asked u) s =
    SameSlot-with_slot asked.meta (changed_iterations asked) asked.slot s (wrapped asked.master u asked.meta.keylen) given.whole.mkeys long given.there ls ne in
    KeepsSlot-same asked.meta (with_key asked u) s same refl (same_key-change asked s ls ne served)

has_new_key : (asked : KeyChange) (m : Metadata) (u : List ℕ) → IsAskedFor asked → change_refusal asked ≡ None → m ≡ with_key asked u → IsWhole m → HasNewKey asked m u
has_new_key asked m u given served is whole =
    let bits = IsKeyBits-supported asked.meta given.checked in
    let slot : List ℕ = wrapped asked.master u asked.meta.keylen in
    let long : length slot ≡ 192 = length-wrapped asked.master u asked.meta.keylen bits given.master.size given.master.bytes in
    let opens : Opens (with_key asked u) u asked.slot asked.master =
    Opens-with_slot asked.meta (changed_iterations asked) asked.slot slot u asked.master given.whole.mkeys long given.there
    (IsSlotOf-wrapped asked.master u asked.meta.keylen bits given.master.size given.master.bytes) in
    record {
      read = metadata_in-encoded m whole.range whole.salt whole.mkeys;
      accepted = rw is (IsAcceptedAs-with_key asked u given.there opens.set);
      opens = rw is opens;
      other = λ s ls ne. rw is (KeepsSlot-with_key asked u s given served long ls ne);
    }

pub HasNewKey-makes : (asked : KeyChange) (m : Metadata) (makes : MakesKey asked m) → HasNewKey asked m makes.key.bytes
HasNewKey-makes asked m makes = has_new_key asked m makes.key.bytes makes.given makes.served makes.metadata makes.whole
