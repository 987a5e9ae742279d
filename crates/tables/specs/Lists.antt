-- A table as a list: its last row, a change of the last row, one more row.
use Rattle.std.specs.Prelude.{ℕ, Bool, cond, List, [], ◌∷◌, ◌++◌, length, Some, None, Option, nat_lt}

-- the last element, where there is one
abbrev pub last_of : {X : Type 0} → List X → Option X
last_of [] = None
last_of (x ∷ []) = Some x
last_of (x ∷ (y ∷ ys)) = last_of (y ∷ ys)

-- the list with its last element changed by f
abbrev pub in_last : {X : Type 0} → (X → X) → List X → List X
in_last f [] = []
in_last f (x ∷ []) = f x ∷ []
in_last f (x ∷ (y ∷ ys)) = x ∷ in_last f (y ∷ ys)

-- fewer than n elements
abbrev pub roomy : {X : Type 0} → ℕ → List X → Bool
roomy n xs = nat_lt (length xs) n

-- the list with x added at its end, where it has fewer than n elements
abbrev pub pushed : {X : Type 0} → ℕ → List X → X → List X
pushed n xs x = cond (roomy n xs) (xs ++ x ∷ []) xs
