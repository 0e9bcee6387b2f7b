-- What a crash leaves of a disk in memory if one value is picked in some sectors.
use Rattle.std.specs.Prelude.{◌≡◌, ◌⊎◌, ℕ, ◌+◌, ◌-◌, ◌<◌, ◌≤◌, ◌==◌, ◌||◌, Bool, false, IsTrue, List, [], ◌∷◌, length, take, slice_get, get_or, Some, if◌then◌else◌}
use Rattle.block_traits.specs.Content.{Content, kept_values, last_of}
use Rattle.crash_disk.specs.declared.survivor.Keeping.{Keeping}
use Rattle.crash_disk.specs.declared.survivor.Pick.{Pick}
use Rattle.crash_disk.specs.declared.survivor.Torn.{Torn}
use Rattle.crash_disk.specs.declared.survivor.SurvivorFault.{SurvivorFault}
use Rattle.crash_disk.specs.declared.survivor.SurvivorFault.TheVariants.{BadPick, BadTorn, NoMemory}

-- a sector is among the picks
abbrev pub is_picked : ℕ → List Pick → Bool
is_picked n [] = false
is_picked n (pick ∷ picks) = (pick.n == n) || is_picked n picks

-- the place that is picked in sector n, or another
abbrev pub picked_place : List Pick → ℕ → ℕ → ℕ
picked_place [] n other = other
picked_place (pick ∷ picks) n other = if pick.n == n then pick.place else picked_place picks n other

-- the place of the value that is left in sector n: the one that is picked, or the last
abbrev pub choice_of : Content → List Pick → ℕ → ℕ
choice_of c picks n = picked_place picks n (length (kept_values c n) - 1)

-- the sector of a pick is past the end, was picked before, or has no value at the place
abbrev pub IsBad : Content → List Pick → Pick → Type 0
IsBad c before pick = (length c.base ≤ pick.n) ⊎ IsTrue (is_picked pick.n before) ⊎ (length (kept_values c pick.n) ≤ pick.place)

-- a pick that isn't bad, and the value that it names
pub record IsGood (c : Content) (before : List Pick) (pick : Pick) (bytes : List ℕ) : Type 0 where
  pub inside : pick.n < length c.base
  pub unpicked : is_picked pick.n before ≡ false
  pub value : slice_get (kept_values c pick.n) pick.place ≡ Some bytes

-- none of the first picks is bad
abbrev pub AllGood : Content → List Pick → ℕ → Type 0
AllGood c picks count = (i : ℕ) (pick : Pick) → i < count → pick ≡ get_or picks i pick → IsBad c (take i picks) pick → ⊥

-- the first bad pick
pub record IsFirstBad (c : Content) (picks : List Pick) (index : ℕ) : Type 0 where
  pub within : index < length picks
  pub bad : (pick : Pick) → pick ≡ get_or picks index pick → IsBad c (take index picks) pick
  pub first : AllGood c picks index

-- a sector is among those that are torn
abbrev pub is_torn : ℕ → List Torn → Bool
is_torn n [] = false
is_torn n (tear ∷ torn) = (tear.n == n) || is_torn n torn

-- the bytes of sector n: those that it is torn to, or others
abbrev pub torn_to : List Torn → ℕ → List ℕ → List ℕ
torn_to [] n other = other
torn_to (tear ∷ torn) n other = if tear.n == n then tear.bytes else torn_to torn n other

-- the torn sectors hold the bytes that are named, and each other one the kept value that is chosen
pub record IsTornImage (c : Content) (choice : ℕ → ℕ) (torn : List Torn) (image : List (List ℕ)) : Type 0 where
  pub size : length image ≡ length c.base
  pub values : (n : ℕ) → n < length c.base → get_or image n [] ≡ torn_to torn n (get_or (kept_values c n) (choice n) [])

-- sector n is the last or past the end, was picked or torn before, or has one kept value alone
abbrev pub IsBadTear : Content → List Pick → List Torn → ℕ → Type 0
IsBadTear c picks before n = (length c.base ≤ n + 1) ⊎ IsTrue (is_picked n picks) ⊎ IsTrue (is_torn n before) ⊎ (length (kept_values c n) ≤ 1)

-- a data sector that has more than one kept value, and was neither picked nor torn before
pub record IsGoodTear (c : Content) (picks : List Pick) (before : List Torn) (n : ℕ) : Type 0 where
  pub inside : n + 1 < length c.base
  pub unpicked : is_picked n picks ≡ false
  pub whole : is_torn n before ≡ false
  pub unsettled : 1 < length (kept_values c n)

-- none of the first torn entries is bad
abbrev pub AllGoodTears : Content → List Pick → List Torn → ℕ → Type 0
AllGoodTears c picks torn count = (i : ℕ) (tear : Torn) → i < count → tear ≡ get_or torn i tear → IsBadTear c picks (take i torn) tear.n → ⊥

-- no pick is bad, and this is the first bad torn entry
pub record IsFirstBadTear (c : Content) (picks : List Pick) (torn : List Torn) (index : ℕ) : Type 0 where
  pub picked : AllGood c picks (length picks)
  pub within : index < length torn
  pub bad : (tear : Torn) → tear ≡ get_or torn index tear → IsBadTear c picks (take index torn) tear.n
  pub first : AllGoodTears c picks torn index

-- the cause of a fault
abbrev pub IsFault : Content → List Pick → List Torn → SurvivorFault → Type 0
IsFault c picks torn (BadPick index) = IsFirstBad c picks index
IsFault c picks torn (BadTorn index) = IsFirstBadTear c picks torn index
IsFault c picks torn NoMemory = Unit {0}

-- the last of these values, how many they are, and the one at a place: what is kept of a sector's values while its
-- events are read
pub record KeepsOf (values : List (List ℕ)) (place : ℕ) (keeping : Keeping) : Type 0 where
  pub some : 0 < length values
  pub last : keeping.last ≡ last_of values
  pub count : keeping.count ≡ length values
  pub found : keeping.found ≡ slice_get values place
