-- A command and its bytes.
use Rattle.std.proofs.Common.{◌≡◌, ℕ, ◌/◌, ◌≤◌, Bool, true, false, cond, not, eqb, List, [], ◌∷◌, ◌++◌, length, get_or, drop, sym, refl, ap, ◌∙◌, subst, arith}
use Rattle.book.specs.Books.{Bk}
use Rattle.book_file.specs.Commands.{name_at, command_at, unknown}
use Rattle.book_file.specs.Law.{bytes_of}
use Rattle.book_file.specs.declared.commands.Command.TheVariants.{Operation, Field, Call, Before, Act, After}
use Rattle.book_file.specs.declared.commands.Command.{Command}
use Rattle.format.proofs.Bytes.{gets, enough, framed, whole, got, behind}
use Rattle.format.specs.Bytes.{byte_at, size_at, cut_off}
use Rattle.tables.specs.declared.name.Name.{Name}

-- a command's name has eight letters
abbrev pub Sized : Command → Type 0
Sized (Operation n) = length n.letters ≡ 8
Sized (Field m) = Unit {0}
Sized (Call n) = length n.letters ≡ 8
Sized (Before k) = Unit {0}
Sized (Act a) = Unit {0}
Sized (After k q) = Unit {0}

-- Bytes that are a command's and not cut off are the bytes of the command at their front and those behind it.

abbrev Back : List ℕ → Command → Type 0
Back xs c = Sized c × (xs ≡ bytes_of c ++ drop (size_at xs) xs)

back_at : (xs : List ℕ) (e₁ e₂ e₃ e₄ e₅ e₆ : Bool) → eqb (byte_at xs) 128 ≡ e₁ → eqb (byte_at xs) 129 ≡ e₂ → eqb (byte_at xs) 16 ≡ e₃ → eqb (byte_at xs) 17 ≡ e₄ → eqb (byte_at xs) 18 ≡ e₅ → eqb (byte_at xs) 32 ≡ e₆ → cond e₁ false (cond e₂ false (cond e₃ false (cond e₄ false (cond e₅ false (not e₆))))) ≡ false → size_at xs ≤ length xs → Back xs (cond e₁ (Operation (name_at xs)) (cond e₂ (Call (name_at xs)) (cond e₃ (Field (get_or xs 1 0)) (cond e₄ (Before (get_or xs 1 0)) (cond e₅ (Act (get_or xs 1 0)) (After (get_or xs 1 0) (get_or xs 2 0)))))))
back_at xs true e₂ e₃ e₄ e₅ e₆ p q r s t u k l = (refl, framed xs 128 8 p refl l)
back_at xs false true e₃ e₄ e₅ e₆ p q r s t u k l = (refl, framed xs 129 8 q refl l)
back_at xs false false true e₄ e₅ e₆ p q r s t u k l = (tt, framed xs 16 1 r refl l)
back_at xs false false false true e₅ e₆ p q r s t u k l = (tt, framed xs 17 1 s refl l)
back_at xs false false false false true e₆ p q r s t u k l = (tt, framed xs 18 1 t refl l)
back_at xs false false false false false true p q r s t u k l = (tt, framed xs 32 2 u refl l)
back_at xs false false false false false false p q r s t u k l = let z : ◌≡◌ {A = ℕ} 0 1 = cc in absurd (omega arith)

pub back : (b : Bk) (xs : List ℕ) → unknown b xs ≡ false → cut_off b xs ≡ false → Back xs (command_at xs)
back b xs u l = back_at xs _ _ _ _ _ _ refl refl refl refl refl refl u (enough b xs l)

-- A command is read back from its bytes.

pub record Reads (b : Bk) (c : Command) (rest : List ℕ) : Type 0 where
  pub known : unknown b (bytes_of c ++ rest) ≡ false
  pub whole : cut_off b (bytes_of c ++ rest) ≡ false
  pub same : command_at (bytes_of c ++ rest) ≡ c
  pub left : drop (size_at (bytes_of c ++ rest)) (bytes_of c ++ rest) ≡ rest

abbrev name_of : List ℕ → Name
name_of l = record { letters = l }

name_is : (x : ℕ) (n rest : List ℕ) → x / 16 ≡ 8 → length n ≡ 8 → name_at (x ∷ (n ++ rest)) ≡ name_of n
name_is x n rest e h = ap name_of (subst (λ (i : ℕ). gets i 1 (x ∷ (n ++ rest)) ≡ n) h (got x n rest (e ∙ sym h)))

pub reads : (b : Bk) (c : Command) (rest : List ℕ) → Sized c → Reads b c rest
reads b (Operation n) rest h = record { known = refl; whole = whole 128 n.letters rest (sym h) b; same = ap (λ (m : Name). Operation m) (name_is 128 n.letters rest refl h); left = behind 128 n.letters rest (sym h) }
reads b (Field m) rest h = record { known = refl; whole = whole 16 (m ∷ []) rest refl b; same = refl; left = refl }
reads b (Call n) rest h = record { known = refl; whole = whole 129 n.letters rest (sym h) b; same = ap (λ (m : Name). Call m) (name_is 129 n.letters rest refl h); left = behind 129 n.letters rest (sym h) }
reads b (Before k) rest h = record { known = refl; whole = whole 17 (k ∷ []) rest refl b; same = refl; left = refl }
reads b (Act a) rest h = record { known = refl; whole = whole 18 (a ∷ []) rest refl b; same = refl; left = refl }
reads b (After k q) rest h = record { known = refl; whole = whole 32 (k ∷ q ∷ []) rest refl b; same = refl; left = refl }
