-- What is asked of a list: whether a mark is one of it, or of two lists, and whether there is an element.
use Rattle.std.proofs.Common.{◌≡◌, ℕ, Bool, true, false, ◌||◌, eqb, List, [], ◌∷◌, ◌++◌, is_some, Decides, refl, ap, ◌∙◌}
use Rattle.book.specs.Books.{has, filled}
use Rattle.std.proofs.lemmas.Bool.Decides.{Decides-eqb, Decides-by_or}
use Rattle.std.specs.List.{ContainsAt as Has, list_any}
use Rattle.tables.specs.Lists.{last_of}

or_assoc : (a b c : Bool) → (a || (b || c)) ≡ ((a || b) || c)
or_assoc true b c = refl
or_assoc false b c = refl

-- a mark is one of two lists' marks when it is one of either's
pub has_append : (xs ys : List ℕ) (m : ℕ) → has (xs ++ ys) m ≡ (has xs m || has ys m)
has_append [] ys m = refl
has_append (x ∷ xs) ys m = ap (λ (b : Bool). eqb x m || b) (has_append xs ys m) ∙ or_assoc (eqb x m) (has xs m) (has ys m)

-- a mark is found in a list exactly when it is one of it
pub has_decides : (ms : List ℕ) (m : ℕ) → Decides (has ms m) (Has ms m)
has_decides ms m = Decides-by_or (λ y. eqb y m) (λ y. y ≡ m) (λ ys. has ys m) (λ y. Decides-eqb y m) refl (λ _ _. refl) ms

-- there is an element when there is a last one
pub filled_last : {X : Type 0} (xs : List X) → is_some (last_of xs) ≡ filled xs
filled_last [] = refl
filled_last (x ∷ []) = refl
filled_last (x ∷ (y ∷ ys)) = filled_last (y ∷ ys)

-- some mark is it exactly when it is one of them
pub any_is : (ms : List ℕ) (m : ℕ) → list_any (λ n. eqb n m) ms ≡ has ms m
any_is [] m = refl
any_is (n ∷ ns) m = ap (λ (b : Bool). eqb n m || b) (any_is ns m)
