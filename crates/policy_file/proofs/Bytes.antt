-- A command and its bytes.
use Rattle.std.proofs.Common.{◌≡◌, ℕ, suc, ◌/◌, ◌≤◌, Bool, true, false, cond, not, eqb, List, [], ◌∷◌, ◌++◌, length, get_or, drop, sym, refl, ap, ◌∙◌, subst, arith}
use Rattle.format.proofs.Bytes.{gets, enough, framed, whole, got, behind}
use Rattle.format.specs.Bytes.{Bytes, byte_at, size_at, cut_off}
use Rattle.policy.specs.Policies.{Po}
use Rattle.policy.specs.declared.table.Write.TheVariants.{Set, Add, Take}
use Rattle.policy_file.proofs.Numbers.{number_back, bytes_back}
use Rattle.policy_file.specs.Commands.{number_at, term_at, label_at, command_at, unknown}
use Rattle.policy_file.specs.Law.{bytes4, term_bytes, bytes_of}
use Rattle.policy_file.specs.declared.commands.Command.TheVariants.{Cell, Group, Has, Nest, On, OnGroup, When, Violate, Write}
use Rattle.policy_file.specs.declared.commands.Command.{Command}
use Rattle.policy_file.specs.declared.commands.RawTerm.{RawTerm}
use Rattle.tables.specs.declared.name.Name.{Name}

-- a command's label has eight letters
abbrev pub Sized : Command → Type 0
Sized (Cell v) = Unit {0}
Sized Group = Unit {0}
Sized (Has o) = Unit {0}
Sized (Nest k) = Unit {0}
Sized (On o n) = length n.letters ≡ 8
Sized (OnGroup k n) = length n.letters ≡ 8
Sized (When q l r) = Unit {0}
Sized Violate = Unit {0}
Sized (Write w k t) = Unit {0}

-- the command at the front of some bytes takes eight of them for its label
sized_at : (xs : List ℕ) (e₁ e₂ e₃ e₄ e₅ e₆ e₇ e₈ e₉ e₀ : Bool) → Sized (cond e₁ (Cell (number_at 1 xs)) (cond e₂ Group (cond e₃ (Has (get_or xs 1 0)) (cond e₄ (Nest (get_or xs 1 0)) (cond e₅ (On (get_or xs 1 0) (label_at xs)) (cond e₆ (OnGroup (get_or xs 1 0) (label_at xs)) (cond e₇ (When (get_or xs 1 0) (term_at 2 xs) (term_at 7 xs)) (cond e₈ Violate (cond e₉ (Write Set (get_or xs 1 0) (term_at 2 xs)) (cond e₀ (Write Add (get_or xs 1 0) (term_at 2 xs)) (Write Take (get_or xs 1 0) (term_at 2 xs))))))))))))
sized_at xs true _ _ _ _ _ _ _ _ _ = tt
sized_at xs false true _ _ _ _ _ _ _ _ = tt
sized_at xs false false true _ _ _ _ _ _ _ = tt
sized_at xs false false false true _ _ _ _ _ _ = tt
sized_at xs false false false false true _ _ _ _ _ = refl
sized_at xs false false false false false true _ _ _ _ = refl
sized_at xs false false false false false false true _ _ _ = tt
sized_at xs false false false false false false false true _ _ = tt
sized_at xs false false false false false false false false true _ = tt
sized_at xs false false false false false false false false false true = tt
sized_at xs false false false false false false false false false false = tt

pub sized : (xs : List ℕ) → Sized (command_at xs)
sized xs = sized_at xs (eqb (byte_at xs) 64) (eqb (byte_at xs) 0) (eqb (byte_at xs) 16) (eqb (byte_at xs) 17) (eqb (byte_at xs) 144) (eqb (byte_at xs) 145) (eqb (byte_at xs) 176) (eqb (byte_at xs) 1) (eqb (byte_at xs) 96) (eqb (byte_at xs) 97)

-- Bytes that are a command's and not cut off are the bytes of the command at their front and those behind it.

abbrev Back : List ℕ → Command → Type 0
Back xs c = xs ≡ bytes_of c ++ drop (size_at xs) xs

module _ (xs : List ℕ) (bs : Bytes xs) where
  -- a first byte k whose operands are written as they stand
  framed_as : (k n : ℕ) (operands : List ℕ) → eqb (byte_at xs) k ≡ true → k / 16 ≡ n → size_at xs ≤ length xs → operands ≡ gets n 1 xs → xs ≡ k ∷ (operands ++ drop (size_at xs) xs)
  framed_as k n operands p z l e = framed xs k n p z l ∙ ap (λ (ys : List ℕ). k ∷ (ys ++ drop (size_at xs) xs)) (sym e)

  cell_written : bytes4 (number_at 1 xs) ≡ gets 4 1 xs
  cell_written = bytes_back (get_or xs 1 0) (get_or xs 2 0) (get_or xs 3 0) (get_or xs 4 0) (bs 2) (bs 3) (bs 4)

  term_written : term_bytes (term_at 2 xs) ≡ gets 5 2 xs
  term_written = ap (λ (ys : List ℕ). get_or xs 2 0 ∷ ys) (bytes_back (get_or xs 3 0) (get_or xs 4 0) (get_or xs 5 0) (get_or xs 6 0) (bs 4) (bs 5) (bs 6))

  other_written : term_bytes (term_at 7 xs) ≡ gets 5 7 xs
  other_written = ap (λ (ys : List ℕ). get_or xs 7 0 ∷ ys) (bytes_back (get_or xs 8 0) (get_or xs 9 0) (get_or xs 10 0) (get_or xs 11 0) (bs 9) (bs 10) (bs 11))

  write_written : get_or xs 1 0 ∷ term_bytes (term_at 2 xs) ≡ gets 6 1 xs
  write_written = ap (λ (ys : List ℕ). get_or xs 1 0 ∷ ys) term_written

  when_written : get_or xs 1 0 ∷ (term_bytes (term_at 2 xs) ++ term_bytes (term_at 7 xs)) ≡ gets 11 1 xs
  when_written = ap (λ (ys : List ℕ). get_or xs 1 0 ∷ (ys ++ term_bytes (term_at 7 xs))) term_written ∙ ap (λ (ys : List ℕ). get_or xs 1 0 ∷ (gets 5 2 xs ++ ys)) other_written

  back_at : (e₁ e₂ e₃ e₄ e₅ e₆ e₇ e₈ e₉ e₀ f : Bool) → eqb (byte_at xs) 64 ≡ e₁ → eqb (byte_at xs) 0 ≡ e₂ → eqb (byte_at xs) 16 ≡ e₃ → eqb (byte_at xs) 17 ≡ e₄ → eqb (byte_at xs) 144 ≡ e₅ → eqb (byte_at xs) 145 ≡ e₆ → eqb (byte_at xs) 176 ≡ e₇ → eqb (byte_at xs) 1 ≡ e₈ → eqb (byte_at xs) 96 ≡ e₉ → eqb (byte_at xs) 97 ≡ e₀ → eqb (byte_at xs) 98 ≡ f
      → cond e₁ false (cond e₂ false (cond e₃ false (cond e₄ false (cond e₅ false (cond e₆ false (cond e₇ false (cond e₈ false (cond e₉ false (cond e₀ false (not f)))))))))) ≡ false → size_at xs ≤ length xs
      → Back xs (cond e₁ (Cell (number_at 1 xs)) (cond e₂ Group (cond e₃ (Has (get_or xs 1 0)) (cond e₄ (Nest (get_or xs 1 0)) (cond e₅ (On (get_or xs 1 0) (label_at xs)) (cond e₆ (OnGroup (get_or xs 1 0) (label_at xs)) (cond e₇ (When (get_or xs 1 0) (term_at 2 xs) (term_at 7 xs)) (cond e₈ Violate (cond e₉ (Write Set (get_or xs 1 0) (term_at 2 xs)) (cond e₀ (Write Add (get_or xs 1 0) (term_at 2 xs)) (Write Take (get_or xs 1 0) (term_at 2 xs))))))))))))
  back_at true _ _ _ _ _ _ _ _ _ _ p _ _ _ _ _ _ _ _ _ _ k l = framed_as 64 4 (bytes4 (number_at 1 xs)) p refl l cell_written
  back_at false true _ _ _ _ _ _ _ _ _ _ p _ _ _ _ _ _ _ _ _ k l = framed_as 0 0 [] p refl l refl
  back_at false false true _ _ _ _ _ _ _ _ _ _ p _ _ _ _ _ _ _ _ k l = framed_as 16 1 (get_or xs 1 0 ∷ []) p refl l refl
  back_at false false false true _ _ _ _ _ _ _ _ _ _ p _ _ _ _ _ _ _ k l = framed_as 17 1 (get_or xs 1 0 ∷ []) p refl l refl
  back_at false false false false true _ _ _ _ _ _ _ _ _ _ p _ _ _ _ _ _ k l = framed_as 144 9 (get_or xs 1 0 ∷ (label_at xs).letters) p refl l refl
  back_at false false false false false true _ _ _ _ _ _ _ _ _ _ p _ _ _ _ _ k l = framed_as 145 9 (get_or xs 1 0 ∷ (label_at xs).letters) p refl l refl
  back_at false false false false false false true _ _ _ _ _ _ _ _ _ _ p _ _ _ _ k l = framed_as 176 11 (get_or xs 1 0 ∷ (term_bytes (term_at 2 xs) ++ term_bytes (term_at 7 xs))) p refl l when_written
  back_at false false false false false false false true _ _ _ _ _ _ _ _ _ _ p _ _ _ k l = framed_as 1 0 [] p refl l refl
  back_at false false false false false false false false true _ _ _ _ _ _ _ _ _ _ p _ _ k l = framed_as 96 6 (get_or xs 1 0 ∷ term_bytes (term_at 2 xs)) p refl l write_written
  back_at false false false false false false false false false true _ _ _ _ _ _ _ _ _ _ p _ k l = framed_as 97 6 (get_or xs 1 0 ∷ term_bytes (term_at 2 xs)) p refl l write_written
  back_at false false false false false false false false false false true _ _ _ _ _ _ _ _ _ _ p k l = framed_as 98 6 (get_or xs 1 0 ∷ term_bytes (term_at 2 xs)) p refl l write_written
  back_at false false false false false false false false false false false _ _ _ _ _ _ _ _ _ _ p k l = let z : ◌≡◌ {A = ℕ} 0 1 = cc in absurd (omega arith)

  pub back : (p : Po) → unknown p xs ≡ false → cut_off p xs ≡ false → Back xs (command_at xs)
  back p u l = back_at _ _ _ _ _ _ _ _ _ _ _ refl refl refl refl refl refl refl refl refl refl refl u (enough p xs l)

-- A command is read back from its bytes.

pub record Reads (p : Po) (c : Command) (rest : List ℕ) : Type 0 where
  pub known : unknown p (bytes_of c ++ rest) ≡ false
  pub whole : cut_off p (bytes_of c ++ rest) ≡ false
  pub same : command_at (bytes_of c ++ rest) ≡ c
  pub left : drop (size_at (bytes_of c ++ rest)) (bytes_of c ++ rest) ≡ rest

abbrev name_of : List ℕ → Name
name_of l = record { letters = l }

label_is : (x o : ℕ) (n rest : List ℕ) → x / 16 ≡ 9 → length n ≡ 8 → label_at (x ∷ o ∷ (n ++ rest)) ≡ name_of n
label_is x o n rest e h = ap (λ (ys : List ℕ). name_of (drop 1 ys)) (subst (λ (i : ℕ). gets (suc i) 1 (x ∷ o ∷ (n ++ rest)) ≡ o ∷ n) h (got x (o ∷ n) rest (omega (arith, e, h))))

term_back : (t : RawTerm) → ◌≡◌ {A = RawTerm} (record { kind = t.kind; number = number_at 1 (term_bytes t) }) t
term_back t = ap (λ (v : ℕ). record { kind = t.kind; number = v }) (number_back t.number)

pub reads : (p : Po) (c : Command) (rest : List ℕ) → Sized c → Reads p c rest
reads p (Cell v) rest h = record { known = refl; whole = whole 64 (bytes4 v) rest refl p; same = ap (λ (w : ℕ). Cell w) (number_back v); left = refl }
reads p Group rest h = record { known = refl; whole = whole 0 [] rest refl p; same = refl; left = refl }
reads p (Has o) rest h = record { known = refl; whole = whole 16 (o ∷ []) rest refl p; same = refl; left = refl }
reads p (Nest k) rest h = record { known = refl; whole = whole 17 (k ∷ []) rest refl p; same = refl; left = refl }
reads p (On o n) rest h = record { known = refl; whole = whole 144 (o ∷ n.letters) rest (omega (arith, h)) p; same = ap (λ (m : Name). On o m) (label_is 144 o n.letters rest refl h); left = behind 144 (o ∷ n.letters) rest (omega (arith, h)) }
reads p (OnGroup k n) rest h = record { known = refl; whole = whole 145 (k ∷ n.letters) rest (omega (arith, h)) p; same = ap (λ (m : Name). OnGroup k m) (label_is 145 k n.letters rest refl h); left = behind 145 (k ∷ n.letters) rest (omega (arith, h)) }
reads p (When q l r) rest h = record { known = refl; whole = whole 176 (q ∷ (term_bytes l ++ term_bytes r)) rest refl p; same = ap (λ (t : RawTerm). When q t (record { kind = r.kind; number = number_at 1 (term_bytes r) })) (term_back l) ∙ ap (λ (t : RawTerm). When q l t) (term_back r); left = refl }
reads p Violate rest h = record { known = refl; whole = whole 1 [] rest refl p; same = refl; left = refl }
reads p (Write Set k t) rest h = record { known = refl; whole = whole 96 (k ∷ term_bytes t) rest refl p; same = ap (λ (t : RawTerm). Write Set k t) (term_back t); left = refl }
reads p (Write Add k t) rest h = record { known = refl; whole = whole 97 (k ∷ term_bytes t) rest refl p; same = ap (λ (t : RawTerm). Write Add k t) (term_back t); left = refl }
reads p (Write Take k t) rest h = record { known = refl; whole = whole 98 (k ∷ term_bytes t) rest refl p; same = ap (λ (t : RawTerm). Write Take k t) (term_back t); left = refl }
