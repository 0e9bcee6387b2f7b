-- A circuit over vectors, seen at one bit of one lane, is the circuit over bits.
use Rattle.std.proofs.Common.{◌≡◌, ℕ, zero, suc, List, [], ◌∷◌, ◌++◌, map, get_or, refl, sym, ap, ◌∙◌}
use Rattle.aes_planes.specs.Circuit.{Gate, Xor, And, Or, Ops, gate_of, run, outputs}

module _ {A : Type 0} where
  abbrev pub Every : (A → Type 0) → List A → Type 0
  Every P [] = Unit {0}
  Every P (x ∷ xs) = P x × Every P xs

  pub Every-get : (P : A → Type 0) (xs : List A) (i : ℕ) (d : A) → Every P xs → P d → P (get_or xs i d)
  Every-get P [] i d all pd = pd
  Every-get P (x ∷ xs) zero d all pd = all.0
  Every-get P (x ∷ xs) (suc i) d all pd = Every-get P xs i d all.1 pd

  pub Every-push : (P : A → Type 0) (xs : List A) (y : A) → Every P xs → P y → Every P (xs ++ y ∷ [])
  Every-push P [] y all py = (py, tt)
  Every-push P (x ∷ xs) y all py = (all.0, Every-push P xs y all.1 py)

module _ {A B : Type 0} where
  -- h takes the operations f to g, on the values that P holds of, and P is kept
  pub record IsHom (f : Ops A) (g : Ops B) (h : A → B) (P : A → Type 0) : Type 0 where
    pub at_xor : (a b : A) → P a → P b → h (f.xor a b) ≡ g.xor (h a) (h b)
    pub at_and : (a b : A) → P a → P b → h (f.and a b) ≡ g.and (h a) (h b)
    pub at_or : (a b : A) → P a → P b → h (f.or a b) ≡ g.or (h a) (h b)
    pub at_none : h f.none ≡ g.none
    pub keeps_xor : (a b : A) → P a → P b → P (f.xor a b)
    pub keeps_and : (a b : A) → P a → P b → P (f.and a b)
    pub keeps_or : (a b : A) → P a → P b → P (f.or a b)
    pub keeps_none : P f.none

  pub get_or-map_default : (h : A → B) (xs : List A) (i : ℕ) (d : A) → get_or (map h xs) i (h d) ≡ h (get_or xs i d)
  get_or-map_default h [] i d = refl
  get_or-map_default h (x ∷ xs) zero d = refl
  get_or-map_default h (x ∷ xs) (suc i) d = get_or-map_default h xs i d

  pub map-push : (h : A → B) (xs : List A) (y : A) → map h (xs ++ y ∷ []) ≡ map h xs ++ h y ∷ []
  map-push h [] y = refl
  map-push h (x ∷ xs) y = ap (λ (l : List B). h x ∷ l) (map-push h xs y)

  module _ (f : Ops A) (g : Ops B) (h : A → B) (P : A → Type 0) (hom : IsHom f g h P) where
    get-hom : (env : List A) (i : ℕ) → h (get_or env i f.none) ≡ get_or (map h env) i g.none
    get-hom env i = sym (get_or-map_default h env i f.none) ∙ ap (λ (d : B). get_or (map h env) i d) hom.at_none

    gate-hom : (gate : Gate) (env : List A) → Every P env → (h (gate_of f gate env) ≡ gate_of g gate (map h env)) × P (gate_of f gate env)
    gate-hom (Xor i j) env all =
        let pi = Every-get P env i f.none all hom.keeps_none in
        let pj = Every-get P env j f.none all hom.keeps_none in
        (hom.at_xor _ _ pi pj ∙ (λ k. g.xor (get-hom env i k) (get-hom env j k)), hom.keeps_xor _ _ pi pj)
    gate-hom (And i j) env all =
        let pi = Every-get P env i f.none all hom.keeps_none in
        let pj = Every-get P env j f.none all hom.keeps_none in
        (hom.at_and _ _ pi pj ∙ (λ k. g.and (get-hom env i k) (get-hom env j k)), hom.keeps_and _ _ pi pj)
    gate-hom (Or i j) env all =
        let pi = Every-get P env i f.none all hom.keeps_none in
        let pj = Every-get P env j f.none all hom.keeps_none in
        (hom.at_or _ _ pi pj ∙ (λ k. g.or (get-hom env i k) (get-hom env j k)), hom.keeps_or _ _ pi pj)

    pub run-hom : (gates : List Gate) (env : List A) → Every P env → (map h (run f gates env) ≡ run g gates (map h env)) × Every P (run f gates env)
    run-hom [] env all = (refl, all)
    run-hom (gate ∷ gates) env all =
        let one = gate-hom gate env all in
        let rest = run-hom gates (env ++ gate_of f gate env ∷ []) (Every-push P env (gate_of f gate env) all one.1) in
        (rest.0 ∙ ap (run g gates) (map-push h env (gate_of f gate env) ∙ ap (λ (x : B). map h env ++ x ∷ []) one.0), rest.1)

    pub outputs-hom : (places : List ℕ) (env : List A) → map h (outputs f places env) ≡ outputs g places (map h env)
    outputs-hom [] env = refl
    outputs-hom (k ∷ places) env = (λ i. get-hom env k i ∷ outputs-hom places env i)
