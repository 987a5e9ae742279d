-- Entries and puts where numbers are cut and where grounds are joined; n is where they are cut.
use Rattle.std.proofs.Common.{◌≡◌, ℕ, zero, suc, ◌-◌, ◌<◌, ◌≤◌, List, [], ◌∷◌, ◌++◌, length, take, drop, set, Some, None, sym, refl, ap, ◌∙◌, arith}
use Rattle.std.proofs.lemmas.List.{take-append-drop, set-append_left, set-append_right, set_past, drop-set-lt}
use Rattle.std.proofs.Math.Seq.{take-set-lt}
use Rattle.std.proofs.lemmas.Grind.{common_steps}
use Rattle.register.specs.Plots.{entry_at}

module _ (n : ℕ) (xs : List ℕ) (p v : ℕ) where
  -- there is a plot just where an entry is found
  pub plot_there : Some v ≡ entry_at (take n xs) p → (p < n) × (p < length xs)
  plot_there e = grind (arith, common_steps)

  pub plot_past : None ≡ entry_at (take n xs) p → length (take n xs) ≤ p
  plot_past e = grind (arith, common_steps)

  pub found_past : n ≤ p → None ≡ entry_at (take n xs) p
  found_past h = grind (arith, common_steps)

  pub put_past : n ≤ p → take n xs ≡ set (take n xs) p v
  put_past h = grind (arith, common_steps)

  pub numbers_there : p < n → set xs p v ≡ set (take n xs) p v ++ drop n xs
  numbers_there h = grind (arith, common_steps, sym (take-append-drop n (set xs p v)), take-set-lt n xs p v h, drop-set-lt n xs p v h)

  pub numbers_past : length (take n xs) ≤ p → xs ≡ set (take n xs) p v ++ drop n xs
  numbers_past h = grind (arith, common_steps, sym (take-append-drop n xs), set_past (take n xs) p v h)

-- two grounds joined, of which the first has m plots
module _ (n m : ℕ) (xs ys : List ℕ) (e : m ≡ length xs) (p v : ℕ) where
  pub found_first : p < m → length xs ≤ n → entry_at xs p ≡ entry_at (take n (xs ++ ys)) p
  found_first h k = grind (arith, common_steps)

  pub found_second : m ≤ p → p < n → entry_at ys (p - m) ≡ entry_at (take n (xs ++ ys)) p
  found_second h k = grind (arith, common_steps)

  -- a put in one ground is a put in both as one list
  first_whole : p < m → set xs p v ++ ys ≡ set (xs ++ ys) p v
  first_whole h = sym (set-append_left xs ys p v (omega arith))

  second_whole : m ≤ p → xs ++ set ys (p - m) v ≡ set (xs ++ ys) p v
  second_whole h = sym (set-append_right xs ys m p v (sym e) h)

  pub put_first : p < m → length xs ≤ n → take n (set xs p v ++ ys) ≡ set (take n (xs ++ ys)) p v
  put_first h k = ap (take n) (first_whole h) ∙ take-set-lt n (xs ++ ys) p v (omega arith)

  pub put_second : m ≤ p → p < n → take n (xs ++ set ys (p - m) v) ≡ set (take n (xs ++ ys)) p v
  put_second h k = ap (take n) (second_whole h) ∙ take-set-lt n (xs ++ ys) p v k

  pub rest_first : p < m → length xs ≤ n → drop n (set xs p v ++ ys) ≡ drop n (xs ++ ys)
  rest_first h k = ap (drop n) (first_whole h) ∙ drop-set-lt n (xs ++ ys) p v (omega arith)

  pub rest_second : m ≤ p → p < n → drop n (xs ++ set ys (p - m) v) ≡ drop n (xs ++ ys)
  rest_second h k = ap (drop n) (second_whole h) ∙ drop-set-lt n (xs ++ ys) p v k

-- numbers that are put and then cut are those that are cut and then put; here p may lie past the cut
pub take-set : (n : ℕ) (xs : List ℕ) (p v : ℕ) → take n (set xs p v) ≡ set (take n xs) p v
take-set zero xs p v = refl
take-set (suc n) [] p v = refl
take-set (suc n) (x ∷ xs) zero v = refl
take-set (suc n) (x ∷ xs) (suc p) v = ap (λ ys. x ∷ ys) (take-set n xs p v)
