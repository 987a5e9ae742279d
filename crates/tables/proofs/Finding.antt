-- The library's search for the first record that passes, in the words of names.
use Rattle.std.proofs.Common.{◌≡◌, ℕ, suc, ◌+◌, Bool, true, false, not, cond, ltb, List, [], ◌∷◌, map, length, get_or, Some, None, Option, sym, refl, ap, ◌∙◌, subst, arith}
use Rattle.std.proofs.lemmas.Slice.Eq.{bytes_eq-Decides}
use Rattle.std.proofs.lemmas.Bool.{cond-true, false≢true, ltb-true, ltb-false, lt-ltb, le-ltb}
use Rattle.std.proofs.lemmas.List.Sums.{fails_before_first, passes_at_first}
use Rattle.std.specs.List.{position, position_or_len}
use Rattle.std.specs.Str.{bytes_eq}
use Rattle.tables.specs.Search.{first_from, first_named, FirstPlace}

ltb_more : (p n : ℕ) → (b : Bool) → ltb p n ≡ b → ltb (1 + p) (suc n) ≡ b
ltb_more p n true e = lt-ltb (1 + p) (suc n) (let l = ltb-true p n e in omega arith)
ltb_more p n false e = le-ltb (1 + p) (suc n) (let l = ltb-false p n e in omega arith)

-- a first record that passes or not, before what is found from the next place on
one_more : (b : Bool) (r : Option ℕ) (p n i : ℕ) → r ≡ cond {A = Option ℕ} (ltb p n) (Some ((i + 1) + p)) None → cond b (Some i) r ≡ cond (ltb (cond (not b) (1 + p) 0) (suc n)) (Some (i + cond (not b) (1 + p) 0)) None
one_more true r p n i e =
    let t : ltb 0 (suc n) ≡ true = lt-ltb 0 (suc n) (omega arith) in
    let z : i ≡ i + 0 = omega arith in
    ap {B = Option ℕ} Some z ∙ sym (cond-true (ltb 0 (suc n)) (Some (i + 0)) None t)
one_more false r p n i e =
    let t : ltb (1 + p) (suc n) ≡ ltb p n = ltb_more p n (ltb p n) refl in
    let z : (i + 1) + p ≡ i + (1 + p) = omega arith in
    e ∙ ap (λ (b : Bool). cond {A = Option ℕ} b (Some ((i + 1) + p)) None) (sym t) ∙ ap (λ (k : ℕ). cond {A = Option ℕ} (ltb (1 + p) (suc n)) (Some k) None) z

-- the place found among names, counted from i on
first_from-position : {A : Type 0} (f : A → List ℕ) (n : List ℕ) (i : ℕ) (xs : List A) → first_from i (map f xs) n ≡ cond (ltb (position_or_len (λ x. bytes_eq (f x) n) xs) (length xs)) (Some (i + position_or_len (λ x. bytes_eq (f x) n) xs)) None
first_from-position f n i [] = refl
first_from-position f n i (x ∷ xs) = one_more (bytes_eq (f x) n) (first_from (i + 1) (map f xs) n) (position_or_len (λ y. bytes_eq (f y) n) xs) (length xs) i (first_from-position f n (i + 1) xs)

-- the first record that passes is the first of that name
pub first_named-position : {A : Type 0} (f : A → List ℕ) (n : List ℕ) (xs : List A) → first_named (map f xs) n ≡ position (λ x. bytes_eq (f x) n) xs
first_named-position f n xs =
    let p = position_or_len (λ x. bytes_eq (f x) n) xs in
    let z : 0 + p ≡ p = omega arith in
    first_from-position f n 0 xs ∙ ap (λ (k : ℕ). cond {A = Option ℕ} (ltb p (length xs)) (Some k) None) z

-- the place in its turn, or the end of the names, by whether there is one
module _ (names : List (List ℕ)) (n : List ℕ) where
  other : (k : ℕ) → bytes_eq (get_or names k []) n ≡ false → get_or names k [] ≡ n → ⊥
  other k e h = false≢true (sym e ∙ (bytes_eq-Decides (get_or names k []) n).1 h)

  first : (b : Bool) → ltb (position_or_len (λ m. bytes_eq m n) names) (length names) ≡ b → FirstPlace names n (cond b (Some (position_or_len (λ m. bytes_eq m n) names)) None)
  first true e =
      let l = ltb-true (position_or_len (λ m. bytes_eq m n) names) (length names) e in (
        l,
        (bytes_eq-Decides (get_or names (position_or_len (λ m. bytes_eq m n) names) []) n).0 (passes_at_first (λ m. bytes_eq m n) names [] l),
        (λ k h. other k (fails_before_first (λ m. bytes_eq m n) names k [] h)),
      )
  first false e = λ k h.
      let l = ltb-false (position_or_len (λ m. bytes_eq m n) names) (length names) e in
      other k (fails_before_first (λ m. bytes_eq m n) names k [] (omega arith))

map_same : (names : List (List ℕ)) → map (λ m. m) names ≡ names
map_same [] = refl
map_same (m ∷ ms) = ap (λ t. m ∷ t) (map_same ms)

-- what is found as the first of that name stands there and nowhere before
pub place_named : (names : List (List ℕ)) (n : List ℕ) → FirstPlace names n (first_named names n)
place_named names n =
    let e : first_named names n ≡ position (λ m. bytes_eq m n) names = ap (λ (l : List (List ℕ)). first_named l n) (sym (map_same names)) ∙ first_named-position (λ m. m) n names in
    subst (FirstPlace names n) (sym e) (first names n (ltb (position_or_len (λ m. bytes_eq m n) names) (length names)) refl)
