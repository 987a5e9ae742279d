-- A command's bytes, read one by one and written one after the other.
use Rattle.std.proofs.Common.{◌≡◌, ℕ, zero, suc, ◌+◌, ◌/◌, ◌≤◌, true, false, eqb, leb, List, [], ◌∷◌, ◌++◌, length, get_or, take, drop, sym, refl, ap, ◌∙◌, arith, eqb-true, le-leb, leb-true}
use Rattle.format.specs.Bytes.{Bytes, byte_at, size_at, cut_off}
use Rattle.std.proofs.lemmas.List.{get_or-drop, drop_more, take-append-drop, length-append, take_at, drop_at}
use Rattle.std.proofs.lemmas.Bool.{not_from_true}
use borrow.Author.Tests.{not-false}

-- bytes behind bytes are bytes
pub bytes_drop : (k : ℕ) (xs : List ℕ) → Bytes xs → Bytes (drop k xs)
bytes_drop k xs h i = omega (arith, h (k + i), get_or-drop k xs i 0)

-- n bytes from place i on, one by one
abbrev pub gets : ℕ → ℕ → List ℕ → List ℕ
gets zero i xs = []
gets (suc n) i xs = get_or xs i 0 ∷ gets n (suc i) xs

gets_take : (n i : ℕ) (xs : List ℕ) → i + n ≤ length xs → gets n i xs ≡ take n (drop i xs)
gets_take zero i xs h = refl
gets_take (suc n) i xs h =
    let d : drop i xs ≡ get_or xs i 0 ∷ drop (i + 1) xs = drop_more xs i 0 (omega arith) in
    let j : i + 1 ≡ suc i = omega arith in
    ap (λ ys. get_or xs i 0 ∷ ys) (gets_take n (suc i) xs (omega arith) ∙ ap (λ k. take n (drop k xs)) (sym j)) ∙ ap (take (suc n)) (sym d)

front : (n : ℕ) (xs : List ℕ) → n ≤ length xs → xs ≡ gets n 0 xs ++ drop n xs
front n xs h = sym (take-append-drop n xs) ∙ ap (λ ys. ys ++ drop n xs) (sym (gets_take n 0 xs (omega arith)))

pub enough : {X : Type 0} (b : X) (xs : List ℕ) → cut_off b xs ≡ false → size_at xs ≤ length xs
enough b xs l = leb-true (size_at xs) (length xs) (not-false (leb (size_at xs) (length xs)) l)

-- bytes that are not cut off are a first byte k, its n operand bytes, and those behind them
pub framed : (xs : List ℕ) (k n : ℕ) → eqb (byte_at xs) k ≡ true → k / 16 ≡ n → size_at xs ≤ length xs → xs ≡ k ∷ (gets n 1 xs ++ drop (size_at xs) xs)
framed xs k n p z l =
    let q = eqb-true (byte_at xs) k p in
    let s : size_at xs ≡ suc n = ap (λ x. suc (x / 16)) q ∙ ap suc z in
    front (suc n) xs (omega (arith, l, s)) ∙ ap (λ x. x ∷ (gets n 1 xs ++ drop (suc n) xs)) q ∙ ap (λ m. k ∷ (gets n 1 xs ++ drop m xs)) (sym s)

-- A first byte k with its operand bytes, and others behind them.
module _ (k : ℕ) (operands rest : List ℕ) (h : k / 16 ≡ length operands) where
  pub whole : {X : Type 0} (b : X) → cut_off b (k ∷ (operands ++ rest)) ≡ false
  whole b = not_from_true (leb (suc (k / 16)) (suc (length (operands ++ rest)))) (le-leb (suc (k / 16)) (suc (length (operands ++ rest))) (omega (arith, h, length-append operands rest)))

  pub got : gets (length operands) 1 (k ∷ (operands ++ rest)) ≡ operands
  got = gets_take (length operands) 1 (k ∷ (operands ++ rest)) (omega (arith, length-append operands rest)) ∙ take_at operands rest (length operands) refl

  pub behind : drop (size_at (k ∷ (operands ++ rest))) (k ∷ (operands ++ rest)) ≡ rest
  behind = drop_at operands rest (k / 16) (sym h)
