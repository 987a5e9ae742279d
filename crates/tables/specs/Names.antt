-- The letters of a name.
use Rattle.std.specs.Prelude.{ℕ, Bool, true, false, cond, List, [], ◌∷◌, ◌==◌, nat_le}

-- a letter that can be printed: from the space, 0x20, to the tilde, 0x7E
abbrev pub prints : ℕ → Bool
prints x = cond (nat_le 32 x) (nat_le x 126) false

-- each letter can be printed
abbrev pub proper : List ℕ → Bool
proper [] = true
proper (x ∷ xs) = cond (prints x) (proper xs) false

-- a letter before what is left of the letters after it: a space before nothing goes too
abbrev pub kept : ℕ → List ℕ → List ℕ
kept x [] = cond (x == 32) [] (x ∷ [])
kept x (y ∷ ys) = x ∷ y ∷ ys

-- the letters without the spaces at their end
abbrev pub trimmed : List ℕ → List ℕ
trimmed [] = []
trimmed (x ∷ xs) = kept x (trimmed xs)
