-- What a call on a register leaves as it was beside the plots.
use Rattle.std.specs.Prelude.{◌≡◌, ℕ, List, ◌++◌, length, take, drop}
use Rattle.std.specs.Borrow.{MutBor}
use Rattle.register.specs.Plots.{most, cut}

-- the same memory is lent, and its numbers past the most are the same
pub record SameLoan (before after : MutBor (List ℕ)) : Type 0 where
  pub place : after.ghost_name ≡ before.ghost_name
  pub rest : drop most after.now ≡ drop most before.now

-- the first of two grounds has as many plots, and the entries past the most are the same
pub record SameSeam (first second first' second' : List ℕ) : Type 0 where
  pub seam : length first' ≡ length first
  pub rest : drop most (first' ++ second') ≡ drop most (first ++ second)

-- two grounds side by side: the plots of the first numbers, then those of the second
abbrev pub both_plots : List ℕ → List ℕ → List ℕ
both_plots first second = cut first ++ cut second

-- the first numbers once the plots of both grounds have become `plots`: those past the most stay
abbrev pub first_numbers : List ℕ → List ℕ → List ℕ
first_numbers first plots = take (length (cut first)) plots ++ drop most first

-- the second numbers once the plots of both grounds have become `plots`: those past the most stay
abbrev pub second_numbers : List ℕ → List ℕ → List ℕ → List ℕ
second_numbers first second plots = drop (length (cut first)) plots ++ drop most second
