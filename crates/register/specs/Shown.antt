-- What each register shows of its meaning: it is short, its entries fit, and what stays beside it stays over many calls.
use Rattle.std.specs.Prelude.{ℕ, ◌-◌, List, ◌++◌, length, take, refl}
use Rattle.std.proofs.Common.{◌∙◌, arith, length-take}
use Rattle.std.specs.Borrow.{MutBor}
use Rattle.std.proofs.lemmas.Grind.{common_steps}
use Rattle.register.specs.Plots.{most, cut, Fit, Short}
use Rattle.register.specs.Grounds.{SameLoan, SameSeam}

-- what is cut is short
pub cut_short : (numbers : List ℕ) → Short (cut numbers)
cut_short numbers = simp length-take (omega arith)

-- the first n of entries that fit
take_fit : (n : ℕ) (xs : List ℕ) → Fit xs → Fit (take n xs)
take_fit n xs f p = let h = f p in grind (arith, common_steps)

-- the cut of entries that fit
pub cut_fit : (numbers : List ℕ) → Fit numbers → Fit (cut numbers)
cut_fit numbers f = take_fit most numbers f

-- two lists of entries that fit, one behind the other
both_fit : (xs ys : List ℕ) → Fit xs → Fit ys → Fit (xs ++ ys)
both_fit xs ys f g p = let h = f p in let k = g (p - length xs) in grind (arith, common_steps)

-- two grounds of entries that fit, joined
pub joined_fit : (xs ys : List ℕ) → Fit xs → Fit ys → Fit (cut (xs ++ ys))
joined_fit xs ys f g = cut_fit (xs ++ ys) (both_fit xs ys f g)

-- a loan that is not used stays
pub loan_still : (x : MutBor (List ℕ)) → SameLoan x x
loan_still x = record { place = refl; rest = refl }

-- a loan that stays over one call and over the next stays over both
pub loan_linked : (x y z : MutBor (List ℕ)) → SameLoan x y → SameLoan y z → SameLoan x z
loan_linked x y z s t = record { place = t.place ∙ s.place; rest = t.rest ∙ s.rest }

-- two grounds that are not called stay
pub seam_still : (xs ys : List ℕ) → SameSeam xs ys xs ys
seam_still xs ys = record { seam = refl; rest = refl }

-- a seam that stays over one call and over the next stays over both
pub seam_linked : (xs ys xs' ys' xs'' ys'' : List ℕ) → SameSeam xs ys xs' ys' → SameSeam xs' ys' xs'' ys'' → SameSeam xs ys xs'' ys''
seam_linked xs ys xs' ys' xs'' ys'' s t = record { seam = t.seam ∙ s.seam; rest = t.rest ∙ s.rest }
