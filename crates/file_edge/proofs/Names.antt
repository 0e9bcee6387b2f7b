-- What the calls of a store leave of what names have.
use Rattle.std.proofs.Common.{◌≡◌, ◌∙◌, ap, refl, subst, sym, List, [], ℕ, Bool, true, false, cond, Option, None, Some}
use Rattle.std.specs.Prelude.{IfSome, option_map}
use Rattle.std.specs.Str.{bytes_eq}
use Rattle.std.proofs.lemmas.Slice.Eq.{bytes_eq-Decides}
use Rattle.file_edge.specs.Names.{Absent, Holds, MakesName, Named, NamedFiles, RenamesName, SyncsNames, WritesNew, appended, made_empty, named_of, renamed, with_name, with_new, without_name, written_behind}

-- a name equals itself
same_name : (name : List ℕ) → bytes_eq name name ≡ true
same_name name = (bytes_eq-Decides name name).1 refl

unchanged : (is : Bool) (first second third had : Named) → (is ≡ true → had ≡ first) → cond is first (cond is second (cond is third had)) ≡ had
unchanged true first second third had h = sym (h refl)
unchanged false first second third had h = refl

was_absent : (names : NamedFiles) (beside other : List ℕ) → names.named beside ≡ Absent → bytes_eq other beside ≡ true → names.named other ≡ Absent
was_absent names beside other absent is = ap names.named ((bytes_eq-Decides other beside).0 is) ∙ absent

-- a new file that is removed leaves what names had
cleared : (beside : List ℕ) (has : NamedFiles → Named) (first : Option NamedFiles) → IfSome first (λ names. names.named beside ≡ Absent)
    → named_of (option_map (without_name beside) (option_map (λ names. with_new (has names) names) (option_map (made_empty beside) first))) ≡ named_of first
cleared beside has None absent = refl
cleared beside has (Some names) absent =
    ap Some (λ i other. unchanged (bytes_eq other beside) Absent (has (made_empty beside names)) (Holds None []) (names.named other) (was_absent names beside other absent) i)

new_bytes : (is : Bool) (bytes : List ℕ) (had : Named) → is ≡ true → cond is (appended (cond is (Holds None []) had) bytes) (cond is (Holds None []) had) ≡ Holds None bytes
new_bytes true bytes had h = refl
new_bytes false bytes had h = absurd (cc h)

-- a new file that is renamed has its bytes, and each other name what it had
moved : (name beside bytes : List ℕ) (first : Option NamedFiles) → IfSome first (λ names. names.named beside ≡ Absent)
    → named_of (option_map (renamed beside name) (option_map (written_behind bytes) (option_map (made_empty beside) first))) ≡ option_map (with_name name (Holds None bytes)) (named_of first)
moved name beside bytes None absent = refl
moved name beside bytes (Some names) absent =
    ap Some (λ i other. cond (bytes_eq other name)
    (new_bytes (bytes_eq beside beside) bytes (names.named beside) (same_name beside) i)
    (unchanged (bytes_eq other beside) Absent (appended (cond (bytes_eq beside beside) (Holds None []) (names.named beside)) bytes) (Holds None []) (names.named other) (was_absent names beside other absent) i))

-- ---- how a store ends

module _ (name beside bytes : List ℕ) (first before : Option NamedFiles) (made_beside : MakesName beside true first before) where
  -- not all bytes were written
  pub left-written : (done : Bool) (written removed : Option NamedFiles) → done ≡ false → WritesNew bytes done before written
      → removed ≡ option_map (without_name beside) written → named_of removed ≡ named_of first
  left-written done written removed failed writes removes =
      let P : Bool → Type 0 = λ d. WritesNew bytes d before written in
      let w : WritesNew bytes false before written = subst P failed writes in
      ap named_of (removes ∙ ap (option_map (without_name beside)) (w.1 ∙ ap (option_map (with_new w.0)) made_beside.1)) ∙ cleared beside (λ names. w.0) first made_beside.0

  all_written : (done : Bool) (after : Option NamedFiles) → done ≡ true → WritesNew bytes done before after → after ≡ option_map (written_behind bytes) (option_map (made_empty beside) first)
  all_written done after is writes =
      let P : Bool → Type 0 = λ d. WritesNew bytes d before after in
      let w : WritesNew bytes true before after = subst P is writes in
      w ∙ ap (option_map (written_behind bytes)) made_beside.1

  -- the new file wasn't synced
  pub left-synced : (done : Bool) (after synced removed : Option NamedFiles) → done ≡ true → WritesNew bytes done before after → synced ≡ after
      → removed ≡ option_map (without_name beside) synced → named_of removed ≡ named_of first
  left-synced done after synced removed is writes stays removes =
      ap named_of (removes ∙ ap (option_map (without_name beside)) (stays ∙ all_written done after is writes))
      ∙ cleared beside (λ names. appended (names.named names.fresh) bytes) first made_beside.0

  -- the new file wasn't renamed
  pub left-renamed : (done given : Bool) (after synced moved removed : Option NamedFiles) → done ≡ true → WritesNew bytes done before after → synced ≡ after
      → given ≡ false → RenamesName beside name given synced moved → removed ≡ option_map (without_name beside) moved → named_of removed ≡ named_of first
  left-renamed done given after synced moved removed is writes stays failed renames removes =
      let P : Bool → Type 0 = λ d. RenamesName beside name d synced moved in
      let same : moved ≡ synced = subst P failed renames in
      left-synced done after moved removed is writes (same ∙ stays) removes

  all_renamed : (done given : Bool) (after synced there : Option NamedFiles) → done ≡ true → WritesNew bytes done before after → synced ≡ after
      → given ≡ true → RenamesName beside name given synced there → there ≡ option_map (renamed beside name) (option_map (written_behind bytes) (option_map (made_empty beside) first))
  all_renamed done given after synced there is writes stays gave renames =
      let P : Bool → Type 0 = λ d. RenamesName beside name d synced there in
      let r : there ≡ option_map (renamed beside name) synced = subst P gave renames in
      r ∙ ap (option_map (renamed beside name)) (stays ∙ all_written done after is writes)

  -- all was done
  pub stored_as : (done given : Bool) (after synced there last : Option NamedFiles) → done ≡ true → WritesNew bytes done before after → synced ≡ after
      → given ≡ true → RenamesName beside name given synced there → last ≡ there → named_of last ≡ option_map (with_name name (Holds None bytes)) (named_of first)
  stored_as done given after synced there last is writes stays gave renames same =
      ap named_of (same ∙ all_renamed done given after synced there is writes stays gave renames) ∙ moved name beside bytes first made_beside.0

-- syncing the folder fails only if nothing is reported
never_fails : (name beside bytes : List ℕ) (first there : Option NamedFiles) (synced : Bool) → there ≡ option_map (renamed beside name) (option_map (written_behind bytes) (option_map (made_empty beside) first))
    → IfSome there (λ names. synced ≡ true) → synced ≡ false → named_of there ≡ named_of first
never_fails name beside bytes None there synced is never failed = ap named_of is
never_fails name beside bytes (Some names) there synced is never failed =
    let P : Option NamedFiles → Type 0 = λ told. IfSome told (λ n. synced ≡ true) in
    let never_so : synced ≡ true = subst P is never in
    absurd (cc (never_so, failed))

module _ (name beside bytes : List ℕ) (first before : Option NamedFiles) (made_beside : MakesName beside true first before) where
  pub left-folder_synced : (done given brought : Bool) (after synced there last : Option NamedFiles) → done ≡ true → WritesNew bytes done before after → synced ≡ after
      → given ≡ true → RenamesName beside name given synced there → brought ≡ false → SyncsNames brought there last → named_of last ≡ named_of first
  left-folder_synced done given brought after synced there last is writes stays gave renames failed syncs =
      ap named_of syncs.stays ∙ never_fails name beside bytes first there brought (all_renamed name beside bytes first before made_beside done given after synced there is writes stays gave renames) syncs.never_fails failed
