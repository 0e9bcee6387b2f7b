-- The disk of an image, from the disks of its files; what was asked if there was no memory; and what a run begins with.
use Rattle.std.proofs.Common.{◌∙◌, ◌≡◌, ◌⊎◌, inl, inr, refl, subst, sym, ap, ℕ, suc, ◌+◌, ◌<◌, List, [], ◌∷◌, ◌++◌, length, Bool, Option, Result}
use Rattle.std.proofs.Common.{IfOk, None, Ok, Err, OnErr, drop, get_or, le_refl, map, take, take_all}
use Rattle.std.proofs.lemmas.List.{map-append, map_more, take-append-drop}
use Rattle.block_traits.specs.declared.disk.Disk.{Ghosts}
use Rattle.file_edge.specs.Asked.{Asked}
use Rattle.block_traits.specs.declared.faults.NoMemory.{NoMemory}
use Rattle.file_edge.specs.FileDisk.{AsksDisk, IsUnopened, TellsFile}
use Rattle.file_edge.specs.Names.{IsRandom, NamedFiles}
use Rattle.file_edge.specs.RandomFile.{left_in}
use Rattle.file_edge.specs.Told.{Told, contents, of_size, told_in}
use Rattle.file_edge.specs.declared.file_disk.FileDisk.{FileDisk}
use Rattle.file_edge.specs.declared.found.FileId.{FileId}
use Rattle.file_edge.specs.declared.image_file.ImageFile as image_file
use Rattle.file_edge.specs.declared.opener.Opener as opener
use Rattle.file_edge.specs.declared.random_file.RandomFile.{RandomFile}
use Rattle.image_layers.specs.declared.image_disks.ImageDisk.{ImageDisk}
use Rattle.image_layers.specs.declared.image_disks.ImageDisk.TheVariants.{Plain, Behind, Join}
use Rattle.image_layers.specs.Images.{AsksFiles, AsksFor, AsksPart, AsksUpTo, IsBehindOf, IsJoinOf, IsPlain, JoinsOrIsNone, Opening, OpensBoth, OpensImageDisk, OpensImages, OpensJoin, OpensNamed, TellsImage, WaitsFor}

-- ---- what is reported

-- a disk of no file reports nothing
tells_unopened : {F : Type 0} (told : F → Option Told) (id : Option FileId) (disk : FileDisk F) → IsUnopened id disk → TellsFile told disk
tells_unopened {F} told id disk is =
    let none : contents (told_in told disk.file) ≡ None = ap (λ (f : Option F). contents (told_in told f)) is.file in
    ap (of_size disk.sectors) none ∙ sym none

module _ {F : Type 0} {g : Ghosts (FileDisk F)} (told : F → Option Told) where
  pub tells_behind : (disk : FileDisk F) (result : Result (ImageDisk F g) NoMemory) → IfOk result (WaitsFor disk) → TellsFile told disk → IfOk result (TellsImage told)
  tells_behind disk (Ok (Behind behind)) waits tells = (subst (TellsFile told) (sym waits.0) tells, waits.4)
  tells_behind disk (Ok (Plain other)) waits tells = absurd waits
  tells_behind disk (Ok (Join both)) waits tells = absurd waits
  tells_behind disk (Err fault) waits tells = tt

  pub tells_join : (first second : FileDisk F) (image : ImageDisk F g) → JoinsOrIsNone first second image → TellsFile told first → TellsFile told second → TellsImage told image
  tells_join first second (Join both) joins one other = (subst (TellsFile told) (sym joins.0) one, subst (TellsFile told) (sym joins.1) other, joins.2)
  tells_join first second (Plain disk) joins one other = tells_unopened told None disk joins.1
  tells_join first second (Behind behind) joins one other = absurd joins

-- the files of an image that was opened
record Asks {O : Type 0} (log_of : O → Option (List Asked)) (changes : Bool) (name : List ℕ) (old new : O) : Type 0 where
  pub files : List (List ℕ)
  pub own : AsksFor name files
  pub asked : AsksFiles log_of changes files old new

asks_two : {O : Type 0} (log_of : O → Option (List Asked)) (changes : Bool) (name left right : List ℕ) (old between new : O) → IsJoinOf name left right → AsksDisk log_of old changes left between → AsksDisk log_of between changes right new
    → Asks log_of changes name old new
asks_two log_of changes name left right old between new is one other = record { files = left ∷ right ∷ []; own = is; asked = (between, one, (new, other, refl)) }

module _ {O F : Type 0} {g : Ghosts (FileDisk F)} (o : opener.Ghosts O F) (f : image_file.Ghosts F) (changes : Bool) where
  abbrev Image : List ℕ → ImageDisk F g → Opening O → Opening O → Type 0
  Image = OpensImageDisk o f changes

  -- two disks as one disk, or a disk of no file
  pub joined : (name left right : List ℕ) (first second : FileDisk F) (image : ImageDisk F g) (old new : Opening O) → IsJoinOf name left right → JoinsOrIsNone first second image
      → OpensBoth o f changes left right first second old new → Image name image old new
  joined name left right first second (Join both) old new is joins two =
      let P : FileDisk F → Type 0 = λ disk. OpensJoin o f changes name disk second old new in
      let Q : FileDisk F → Type 0 = λ disk. OpensJoin o f changes name both.first disk old new in
      subst Q (sym joins.1) (subst P (sym joins.0) (record { left = left; right = right; join = is; opens = two }))
  joined name left right first second (Plain disk) old new is joins two =
      inr (record { first = first; second = second; joined = record { left = left; right = right; join = is; opens = two }; large = joins.0; unopened = joins.1 })
  joined name left right first second (Behind behind) old new is joins two = absurd joins

  -- ---- what was asked

  asks_image : (name : List ℕ) (image : ImageDisk F g) (old new : Opening O) → Image name image old new → Asks o.asked changes name old.opener new.opener
  asks_image name (Behind behind) old new h = record { files = h.rest ∷ []; own = inr h.behind; asked = (new.opener, h.opens.asked, refl) }
  asks_image name (Join both) old new h = asks_two o.asked changes name h.left h.right old.opener h.opens.between.opener new.opener h.join h.opens.one.asked h.opens.other.asked
  asks_image name (Plain disk) old new (inl h) = record { files = name ∷ []; own = inl (h.0, refl); asked = (new.opener, h.1.asked, refl) }
  asks_image name (Plain disk) old new (inr h) = asks_two o.asked changes name h.joined.left h.joined.right old.opener h.joined.opens.between.opener new.opener h.joined.join h.joined.opens.one.asked h.joined.opens.other.asked

  -- all files of an image are the first of them
  pub image_part : (name : List ℕ) (image : ImageDisk F g) (old new : Opening O) → Image name image old new → AsksPart o.asked changes name old.opener new.opener
  image_part name image old new h =
      let asks = asks_image name image old new h in
      let P : List (List ℕ) → Type 0 = λ files. AsksFiles o.asked changes files old.opener new.opener in
      record { files = asks.files; own = asks.own; count = length asks.files; asked = subst P (sym (take_all (length asks.files) asks.files (le_refl (length asks.files)))) asks.asked }

  -- these images were opened, and of the next a part was asked for
  pub first_asked : (done : List (List ℕ)) (name : List ℕ) (rest : List (List ℕ)) (disks : List (ImageDisk F g)) (old middle : Opening O) (new : O) → OpensImages o f changes done disks old middle
      → AsksPart o.asked changes name middle.opener new → AsksUpTo o.asked changes ((done ++ name ∷ []) ++ rest) old.opener new
  first_asked [] name rest [] old middle new is part =
      let P : Opening O → Type 0 = λ begun. AsksPart o.asked changes name begun.opener new in
      inl (subst P is part)
  first_asked [] name rest (d ∷ disks) old middle new are part = absurd are
  first_asked (n ∷ done) name rest [] old middle new are part = absurd are
  first_asked (n ∷ done) name rest (d ∷ disks) old middle new are part =
      let asks = asks_image n d old are.0 are.1 in
      inr (record { files = asks.files; own = asks.own; next = are.0.opener; asked = asks.asked; behind = first_asked done name rest disks are.0 middle new are.2 part })

  -- names have what they had
  image_stays : (name : List ℕ) (image : ImageDisk F g) (old new : Opening O) → Image name image old new → o.told new.opener ≡ o.told old.opener
  image_stays name (Behind behind) old new h = h.opens.told
  image_stays name (Join both) old new h = h.opens.other.told ∙ h.opens.one.told
  image_stays name (Plain disk) old new (inl h) = h.1.told
  image_stays name (Plain disk) old new (inr h) = h.joined.opens.other.told ∙ h.joined.opens.one.told

  pub images_stay : (names : List (List ℕ)) (disks : List (ImageDisk F g)) (old new : Opening O) → OpensImages o f changes names disks old new → o.told new.opener ≡ o.told old.opener
  images_stay [] [] old new are = ap (λ (begun : Opening O). o.told begun.opener) are
  images_stay [] (d ∷ disks) old new are = absurd are
  images_stay (n ∷ names) [] old new are = absurd are
  images_stay (n ∷ names) (d ∷ disks) old new are = images_stay names disks are.0 new are.2 ∙ image_stays n d old are.0 are.1

  -- one more image is opened
  pub one_more : (names : List (List ℕ)) (disks : List (ImageDisk F g)) (name : List ℕ) (image : ImageDisk F g) (old middle new : Opening O) → OpensImages o f changes names disks old middle
      → Image name image middle new → OpensImages o f changes (names ++ name ∷ []) (disks ++ image ∷ []) old new
  one_more [] [] name image old middle new is opens =
      let P : Opening O → Type 0 = λ o. Image name image o new in
      (new, subst P is opens, refl)
  one_more [] (d ∷ disks) name image old middle new are opens = absurd are
  one_more (n ∷ names) [] name image old middle new are opens = absurd are
  one_more (n ∷ names) (d ∷ disks) name image old middle new are opens = (are.0, are.1, one_more names disks name image are.0 middle new are.2 opens)

  -- there are as many disks as names
  pub as_many : (names : List (List ℕ)) (disks : List (ImageDisk F g)) (old new : Opening O) → OpensImages o f changes names disks old new → length disks ≡ length names
  as_many [] [] old new are = refl
  as_many [] (d ∷ disks) old new are = absurd are
  as_many (n ∷ names) [] old new are = absurd are
  as_many (n ∷ names) (d ∷ disks) old new are = ap suc (as_many names disks are.0 new are.2)

  -- names have what they had before the images were opened, and the random bytes are those that were reported then
  pub opened_told : (names : List (List ℕ)) (disks : List (ImageDisk F g)) (files : List FileId) (random : RandomFile F) (old new : O)
      → OpensNamed o f changes names disks files random old new → (o.told new ≡ o.told old) × IsRandom (o.told old) (left_in f.left random.device)
  opened_told names disks files random old new opens =
      let stays = images_stay names disks _ _ opens.images in
      let P : Option NamedFiles → Type 0 = λ told. IsRandom told (left_in f.left random.device) in
      (opens.told ∙ stays, subst P stays opens.left)

-- the names up to a place, the one there, and those after it
pub names_at : {S : Type 0} (bytes : S → List ℕ) (names : List S) (i : ℕ) (name : S) → i < length names → get_or names i name ≡ name
    → map bytes names ≡ (map bytes (take i names) ++ bytes name ∷ []) ++ map bytes (drop (i + 1) names)
names_at bytes names i name inside here =
    ap (map bytes) (sym (take-append-drop (i + 1) names)) ∙ map-append bytes (take (i + 1) names) (drop (i + 1) names)
    ∙ ap (λ (l : List (List ℕ)). l ++ map bytes (drop (i + 1) names)) (map_more bytes names i name inside ∙ ap (λ n. map bytes (take i names) ++ bytes n ∷ []) here)

-- ---- a name of one file, and of two

pub rest_asked : {O : Type 0} (log_of : O → Option (List Asked)) (changes : Bool) (name rest : List ℕ) (old new : O) → IsBehindOf name rest → AsksDisk log_of old changes rest new → AsksPart log_of changes name old new
rest_asked log_of changes name rest old new is asks = record { files = rest ∷ []; own = inr is; count = 1; asked = (new, asks, refl) }

pub plain_asked : {O : Type 0} (log_of : O → Option (List Asked)) (changes : Bool) (name : List ℕ) (old new : O) → IsPlain name → AsksDisk log_of old changes name new → AsksPart log_of changes name old new
plain_asked log_of changes name old new is asks = record { files = name ∷ []; own = inl (is, refl); count = 1; asked = (new, asks, refl) }

pub join_asked : {O : Type 0} (log_of : O → Option (List Asked)) (changes : Bool) (name left right : List ℕ) (old new : O) → IsJoinOf name left right
    → AsksFiles log_of changes (left ∷ []) old new ⊎ AsksFiles log_of changes (left ∷ right ∷ []) old new → AsksPart log_of changes name old new
join_asked log_of changes name left right old new is (inl asks) = record { files = left ∷ right ∷ []; own = is; count = 1; asked = asks }
join_asked log_of changes name left right old new is (inr asks) = record { files = left ∷ right ∷ []; own = is; count = 2; asked = asks }

-- this holds whatever the result is
pub any_refusal : {X E : Type 0} (result : Result X E) (P : Type 0) → P → OnErr result P
any_refusal (Ok x) P h = tt
any_refusal (Err e) P h = h
