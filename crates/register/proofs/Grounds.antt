-- What a lender knows of its numbers from what the registers over them promised.
use Rattle.std.proofs.Common.{◌≡◌, ℕ, List, ◌++◌, length, take, drop, sym, ap, ◌∙◌, MutBor}
use Rattle.std.proofs.lemmas.List.{take-append-drop, take_at, drop_at}
use Rattle.register.specs.Plots.{most, cut}
use Rattle.register.specs.Grounds.{SameLoan, SameSeam, both_plots, first_numbers, second_numbers}

-- a list is its front and its back
pub rejoined : (n : ℕ) (xs fs bs : List ℕ) → take n xs ≡ fs → drop n xs ≡ bs → xs ≡ fs ++ bs
rejoined n xs fs bs e f = sym (take-append-drop n xs) ∙ (ap (λ l. l ++ drop n xs) e ∙ ap (λ l. fs ++ l) f)

-- two loans under a joined register whose plots have become what f makes of them
module _ (x y x' y' : MutBor (List ℕ)) (f : List ℕ → List ℕ)
    (p : cut (both_plots x'.now y'.now) ≡ f (cut (both_plots x.now y.now)))
    (s : SameLoan x x') (t : SameLoan y y')
    (j : SameSeam (cut x.now) (cut y.now) (cut x'.now) (cut y'.now)) where
  abbrev whole : List ℕ → List ℕ → List ℕ
  whole xs ys = f (cut (both_plots xs ys)) ++ drop most (both_plots xs ys)

  both_now : both_plots x'.now y'.now ≡ whole x.now y.now
  both_now = rejoined most (both_plots x'.now y'.now) _ _ p j.rest

  first_front : take most x'.now ≡ take (length (cut x.now)) (whole x.now y.now)
  first_front = sym (take_at (cut x'.now) (cut y'.now) (length (cut x.now)) j.seam) ∙ ap (take (length (cut x.now))) both_now

  second_front : take most y'.now ≡ drop (length (cut x.now)) (whole x.now y.now)
  second_front = sym (drop_at (cut x'.now) (cut y'.now) (length (cut x.now)) j.seam) ∙ ap (drop (length (cut x.now))) both_now

  -- xs and ys are what the lenders lent
  module _ (xs ys : List ℕ) (ex : x.now ≡ xs) (ey : y.now ≡ ys) where
    pub first_now : x'.now ≡ first_numbers xs (whole xs ys)
    first_now = rejoined most x'.now _ _ first_front s.rest ∙ (ap (λ l. first_numbers l (whole l y.now)) ex ∙ ap (λ l. first_numbers xs (whole xs l)) ey)

    pub second_now : y'.now ≡ second_numbers xs ys (whole xs ys)
    second_now = rejoined most y'.now _ _ second_front t.rest ∙ (ap (λ l. second_numbers l y.now (whole l y.now)) ex ∙ ap (λ l. second_numbers xs l (whole xs l)) ey)
