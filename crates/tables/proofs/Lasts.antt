-- The last row of a table, in the list that the table stands for and in a list of what its rows stand for.
use Rattle.std.proofs.Common.{◌≡◌, ℕ, zero, suc, ◌-◌, ◌<◌, ◌≤◌, List, [], ◌∷◌, map, length, get_or, take, set, Some, None, sym, refl, ap, ◌∙◌, subst, arith}
use Rattle.std.specs.Option.{option_map}
use Rattle.std.specs.List.{slice_get}
use Rattle.tables.specs.Lists.{last_of, in_last}

take-set-suc : {X : Type 0} (n : ℕ) (xs : List X) (w : X) → n < length xs → take (suc n) (set xs n w) ≡ in_last (λ _. w) (take (suc n) xs)
take-set-suc n [] w h = absurd (omega arith)
take-set-suc zero (x ∷ xs) w h = refl
take-set-suc (suc n) (x ∷ []) w h = absurd (omega arith)
take-set-suc (suc n) (x ∷ (y ∷ ys)) w h = ap (λ t. x ∷ t) (take-set-suc n (y ∷ ys) w (omega arith))

take-suc_last : {X : Type 0} (n : ℕ) (xs : List X) (d : X) → n < length xs → last_of (take (suc n) xs) ≡ Some (get_or xs n d)
take-suc_last n [] d h = absurd (omega arith)
take-suc_last zero (x ∷ xs) d h = refl
take-suc_last (suc n) (x ∷ []) d h = absurd (omega arith)
take-suc_last (suc n) (x ∷ (y ∷ ys)) d h = take-suc_last n (y ∷ ys) d (omega arith)

-- a write at the last of k rows changes the last of them
pub take-set-last : {X : Type 0} (k : ℕ) (xs : List X) (w : X) → 0 < k → k ≤ length xs → take k (set xs (k - 1) w) ≡ in_last (λ _. w) (take k xs)
take-set-last k xs w p h =
    let s : suc (k - 1) ≡ k = omega arith in
    let P : ℕ → Type 0 = λ n. take n (set xs (k - 1) w) ≡ in_last (λ _. w) (take n xs) in
    subst P s (take-set-suc (k - 1) xs w (omega arith))

-- what stands at place k - 1 is the last of k rows
pub take_last : {X : Type 0} (k : ℕ) (xs : List X) (d : X) → 0 < k → k ≤ length xs → Some (get_or xs (k - 1) d) ≡ last_of (take k xs)
take_last k xs d p h =
    let s : suc (k - 1) ≡ k = omega arith in
    let P : ℕ → Type 0 = λ n. Some (get_or xs (k - 1) d) ≡ last_of (take n xs) in
    subst P s (sym (take-suc_last (k - 1) xs d (omega arith)))

-- the last element stands at the greatest place
pub last_of-get : {X : Type 0} (xs : List X) → slice_get xs (length xs - 1) ≡ last_of xs
last_of-get [] = refl
last_of-get (x ∷ []) = refl
last_of-get (x ∷ (y ∷ ys)) =
    let e : length (x ∷ (y ∷ ys)) - 1 ≡ suc (length (y ∷ ys) - 1) = omega arith in
    ap (slice_get (x ∷ (y ∷ ys))) e ∙ last_of-get (y ∷ ys)

-- only a list without elements has no last one
pub none_last : {X : Type 0} (xs : List X) → None ≡ last_of xs → xs ≡ []
none_last [] e = refl
none_last (x ∷ []) e = let z : ◌≡◌ {A = ℕ} 0 1 = cc in absurd (omega arith)
none_last (x ∷ (y ∷ ys)) e = let r = none_last (y ∷ ys) e in let z : ◌≡◌ {A = ℕ} 0 1 = cc in absurd (omega arith)

-- the last row's meaning is the last of the meanings
pub map-last_of : {X Y : Type 0} (g : X → Y) (xs : List X) → option_map g (last_of xs) ≡ last_of (map g xs)
map-last_of g [] = refl
map-last_of g (x ∷ []) = refl
map-last_of g (x ∷ (y ∷ ys)) = map-last_of g (y ∷ ys)

-- the last row changed through `last_mut`, as a change of the list of meanings
pub last_changed : {X Y : Type 0} (g : X → Y) (f : Y → Y) (xs ys : List X) (o w : X) → Some o ≡ last_of xs → ys ≡ in_last (λ _. w) xs → g w ≡ f (g o) → map g ys ≡ in_last f (map g xs)
last_changed g f [] ys o w e l h = let z : ◌≡◌ {A = ℕ} 0 1 = cc in absurd (omega arith)
last_changed g f (x ∷ []) ys o w e l h = let i : x ≡ o = cc in cc
last_changed g f (x ∷ (y ∷ zs)) ys o w e l h = let t = last_changed g f (y ∷ zs) (in_last (λ _. w) (y ∷ zs)) o w e refl h in cc

in_last_same : {X : Type 0} (xs : List X) → in_last (λ x. x) xs ≡ xs
in_last_same [] = refl
in_last_same (x ∷ []) = refl
in_last_same (x ∷ (y ∷ ys)) = ap (λ t. x ∷ t) (in_last_same (y ∷ ys))

-- the same where the change leaves the meaning as it was
pub last_kept : {X Y : Type 0} (g : X → Y) (xs ys : List X) (o w : X) → Some o ≡ last_of xs → ys ≡ in_last (λ _. w) xs → g w ≡ g o → map g ys ≡ map g xs
last_kept g xs ys o w e l h = last_changed g (λ y. y) xs ys o w e l h ∙ in_last_same (map g xs)
