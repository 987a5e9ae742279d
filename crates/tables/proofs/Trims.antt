-- The spaces at the end of a name taken off one by one, and its letters written one by one.
use Rattle.std.proofs.Common.{◌≡◌, ℕ, zero, suc, ◌+◌, ◌<◌, eqb, List, [], ◌∷◌, ◌++◌, length, get_or, take, ap, append-nil, arith, ne_eqb}
use Rattle.std.proofs.lemmas.List.{take_more}
use Rattle.std.proofs.lemmas.Bool.{cond-false}
use Rattle.std.proofs.lemmas.Str.{encodes-append}
use Rattle.tables.specs.Names.{trimmed, kept}
use lib.Utf8.{encode, encodes}

-- a space at the end may go first
pub trim_space : (xs : List ℕ) (n : ℕ) → length xs ≡ suc n → get_or xs n 0 ≡ 32 → trimmed (take n xs) ≡ trimmed xs
trim_space [] n h e = absurd (omega arith)
trim_space (x ∷ []) zero h e = rw e
trim_space (x ∷ []) (suc n) h e = absurd (omega arith)
trim_space (x ∷ (y ∷ ys)) zero h e = absurd (omega arith)
trim_space (x ∷ (y ∷ ys)) (suc n) h e = ap (kept x) (trim_space (y ∷ ys) n (omega arith) e)

-- letters that end in no space stay
pub trim_other : (xs : List ℕ) (n : ℕ) → length xs ≡ suc n → (get_or xs n 0 ≡ 32 → ⊥) → trimmed xs ≡ xs
trim_other [] n h e = absurd (omega arith)
trim_other (x ∷ []) zero h e = cond-false (eqb x 32) [] (x ∷ []) (ne_eqb x 32 e)
trim_other (x ∷ []) (suc n) h e = absurd (omega arith)
trim_other (x ∷ (y ∷ ys)) zero h e = absurd (omega arith)
trim_other (x ∷ (y ∷ ys)) (suc n) h e = ap (kept x) (trim_other (y ∷ ys) n (omega arith) e)

-- one letter more, as it is written
pub written_more : (xs : List ℕ) (i : ℕ) → i < length xs → encodes (take i xs) ++ encode (get_or xs i 0) ≡ encodes (take (i + 1) xs)
written_more xs i h =
    let e = encodes-append (take i xs) (get_or xs i 0 ∷ []) in
    let t = ap encodes (take_more xs i 0 h) in
    let n = append-nil (encode (get_or xs i 0)) in
    cc
