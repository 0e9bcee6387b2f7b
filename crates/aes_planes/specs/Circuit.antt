-- A circuit of gates with two inputs, over any values: place k of the environment is input k, or what
-- gate k - 8 gives.
use Rattle.std.specs.Prelude.{ℕ, List, [], ◌∷◌, ◌++◌, map, slice_index_or}

pub data Gate : Type 0 where
  Xor : ℕ → ℕ → Gate
  And : ℕ → ℕ → Gate
  Or : ℕ → ℕ → Gate

-- the operations on values
pub record Ops (A : Type 0) : Type 0 where
  pub xor : A → A → A
  pub and : A → A → A
  pub or : A → A → A
  pub none : A

abbrev pub gate_of : {A : Type 0} → Ops A → Gate → List A → A
gate_of ops (Xor i j) env = ops.xor (slice_index_or env i ops.none) (slice_index_or env j ops.none)
gate_of ops (And i j) env = ops.and (slice_index_or env i ops.none) (slice_index_or env j ops.none)
gate_of ops (Or i j) env = ops.or (slice_index_or env i ops.none) (slice_index_or env j ops.none)

-- the environment with what each gate gives after it
abbrev pub run : {A : Type 0} → Ops A → List Gate → List A → List A
run ops [] env = env
run ops (g ∷ gs) env = run ops gs (env ++ gate_of ops g env ∷ [])

-- the values at these places
abbrev pub outputs : {A : Type 0} → Ops A → List ℕ → List A → List A
outputs ops places env = map (λ k. slice_index_or env k ops.none) places

-- the circuit of the S-box without its constant, with bit 7 as input 0 and as output 0; the order
-- of the gates is the one that needs few registers
abbrev pub sbox_gates : List Gate
sbox_gates =
    Xor 0 6 ∷ Xor 3 5 ∷ Xor 0 3 ∷ Xor 8 9 ∷ Xor 4 11 ∷ Xor 12 1 ∷ Xor 12 5 ∷ Xor 1 2 ∷
    Xor 15 7 ∷ Xor 13 10 ∷ Xor 0 5 ∷ Xor 14 15 ∷ And 10 17 ∷ Xor 16 6 ∷ Xor 15 17 ∷ Xor 19 17 ∷
    Xor 7 17 ∷ Xor 16 3 ∷ Xor 21 18 ∷ And 11 14 ∷ And 18 19 ∷ And 9 23 ∷ And 25 7 ∷ And 8 22 ∷
    Xor 16 0 ∷ Xor 14 7 ∷ Xor 8 22 ∷ And 26 33 ∷ And 32 24 ∷ Xor 28 20 ∷ Xor 29 20 ∷
    And 21 16 ∷ Xor 19 18 ∷ Xor 30 27 ∷ Xor 41 37 ∷ Xor 35 27 ∷ Xor 39 31 ∷ Xor 44 38 ∷
    Xor 36 31 ∷ Xor 45 34 ∷ Xor 43 38 ∷ Xor 46 37 ∷ Xor 0 22 ∷ Xor 42 40 ∷ Xor 48 13 ∷
    Xor 49 50 ∷ Xor 47 53 ∷ And 52 47 ∷ Xor 51 55 ∷ Xor 52 51 ∷ And 56 54 ∷ Xor 58 53 ∷
    Xor 53 55 ∷ Xor 60 59 ∷ And 57 60 ∷ Xor 62 51 ∷ Xor 63 59 ∷ Xor 47 59 ∷ And 53 61 ∷
    Xor 60 66 ∷ And 63 67 ∷ And 59 7 ∷ And 63 24 ∷ Xor 66 65 ∷ Xor 57 68 ∷ Xor 59 71 ∷
    And 59 25 ∷ Xor 69 70 ∷ Xor 72 71 ∷ And 72 16 ∷ Xor 63 72 ∷ And 64 17 ∷ And 71 33 ∷
    And 72 21 ∷ And 78 22 ∷ And 76 18 ∷ And 71 26 ∷ And 63 32 ∷ Xor 84 74 ∷ Xor 64 76 ∷
    And 64 10 ∷ And 73 14 ∷ And 87 23 ∷ Xor 79 90 ∷ Xor 89 82 ∷ Xor 82 91 ∷ And 78 8 ∷
    Xor 70 81 ∷ And 87 9 ∷ Xor 69 94 ∷ And 76 19 ∷ Xor 88 96 ∷ Xor 90 98 ∷ Xor 97 92 ∷
    Xor 77 93 ∷ Xor 77 99 ∷ Xor 100 103 ∷ And 73 11 ∷ Xor 85 101 ∷ Xor 94 95 ∷ Xor 105 84 ∷
    Xor 107 104 ∷ Xor 106 104 ∷ Xor 102 110 ∷ Xor 108 103 ∷ Xor 80 112 ∷ Xor 75 113 ∷
    Xor 92 113 ∷ Xor 96 83 ∷ Xor 116 111 ∷ Xor 86 110 ∷ Xor 99 101 ∷ Xor 93 112 ∷ Xor 95 119 ∷
    Xor 102 115 ∷ []

abbrev pub sbox_outputs : List ℕ
sbox_outputs = 120 ∷ 122 ∷ 117 ∷ 115 ∷ 114 ∷ 118 ∷ 109 ∷ 121 ∷ []

-- the circuit of the inverse S-box, on a byte to which the constant was added
abbrev pub inverse_sbox_gates : List Gate
inverse_sbox_gates =
    Xor 3 0 ∷ Xor 4 3 ∷ Xor 1 8 ∷ Xor 0 10 ∷ Xor 6 11 ∷ Xor 5 0 ∷ Xor 13 2 ∷ Xor 7 12 ∷
    Xor 9 15 ∷ Xor 10 14 ∷ Xor 16 11 ∷ Xor 8 15 ∷ Xor 12 16 ∷ Xor 2 15 ∷ Xor 21 14 ∷ Or 16 21 ∷
    Xor 16 15 ∷ And 19 17 ∷ Xor 20 21 ∷ Or 24 22 ∷ Xor 11 8 ∷ Xor 20 10 ∷ And 15 14 ∷
    Xor 22 29 ∷ Xor 24 28 ∷ Or 28 29 ∷ And 8 10 ∷ And 28 29 ∷ Xor 33 25 ∷ Or 18 26 ∷
    Xor 27 25 ∷ And 18 26 ∷ Xor 21 20 ∷ And 32 31 ∷ Xor 37 41 ∷ Xor 35 39 ∷ And 24 22 ∷
    Xor 36 44 ∷ And 11 20 ∷ Xor 14 10 ∷ Xor 43 44 ∷ Xor 38 41 ∷ Xor 48 23 ∷ Xor 42 44 ∷
    Xor 51 46 ∷ Xor 49 34 ∷ And 53 52 ∷ Xor 52 50 ∷ Xor 20 10 ∷ Xor 45 30 ∷ Xor 15 8 ∷
    Xor 21 14 ∷ Xor 54 57 ∷ Xor 50 54 ∷ And 55 60 ∷ Xor 62 50 ∷ And 10 63 ∷ Xor 52 63 ∷
    Xor 61 63 ∷ And 66 50 ∷ Xor 53 57 ∷ And 68 61 ∷ Xor 69 57 ∷ Xor 61 67 ∷ And 20 70 ∷
    Xor 16 15 ∷ Xor 59 56 ∷ And 71 70 ∷ Xor 65 67 ∷ Xor 75 68 ∷ Xor 70 63 ∷ And 58 76 ∷
    Xor 70 77 ∷ Xor 77 76 ∷ And 74 81 ∷ And 56 78 ∷ Xor 81 76 ∷ Xor 78 81 ∷ Xor 11 8 ∷
    Xor 16 11 ∷ And 87 84 ∷ Xor 63 76 ∷ Xor 78 81 ∷ And 8 63 ∷ Xor 79 91 ∷ And 90 59 ∷
    Xor 63 76 ∷ And 40 77 ∷ And 94 15 ∷ And 47 76 ∷ Xor 78 63 ∷ Xor 95 72 ∷ Xor 73 86 ∷
    Xor 91 96 ∷ And 80 21 ∷ Xor 72 102 ∷ Xor 98 84 ∷ And 100 81 ∷ And 11 98 ∷ And 85 73 ∷
    And 86 78 ∷ Xor 97 64 ∷ And 104 16 ∷ Xor 83 82 ∷ And 89 14 ∷ Xor 64 112 ∷ Xor 108 105 ∷
    Xor 82 93 ∷ Xor 99 115 ∷ Xor 113 111 ∷ Xor 117 116 ∷ Xor 106 110 ∷ Xor 88 106 ∷
    Xor 105 107 ∷ Xor 120 121 ∷ Xor 101 114 ∷ Xor 109 115 ∷ Xor 122 118 ∷ Xor 103 111 ∷
    Xor 119 114 ∷ Xor 124 127 ∷ Xor 126 127 ∷ Xor 123 129 ∷ Xor 116 127 ∷ Xor 130 128 ∷
    Xor 118 129 ∷ Xor 92 121 ∷ Xor 127 134 ∷ Xor 132 131 ∷ Xor 136 134 ∷ Xor 125 136 ∷
    Xor 135 138 ∷ []

abbrev pub inverse_sbox_outputs : List ℕ
inverse_sbox_outputs = 131 ∷ 138 ∷ 139 ∷ 128 ∷ 137 ∷ 133 ∷ 129 ∷ 134 ∷ []
