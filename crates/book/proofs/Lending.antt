-- A table t that came of a table r by lending its last row, as a change of what stands for it: `g` is the meaning of a row, and `are` says what stands for a table with such meanings.
-- The last row is changed by f unless p says that there is no room; without a last row nothing is.
use Rattle.std.proofs.Common.{◌≡◌, ℕ, Bool, false, cond, List, map, Some, None, Option, sym, ap, ◌∙◌}
use Rattle.book.specs.Books.{or_else}
use Rattle.tables.proofs.Lent.{meant_last, meant_none, row_same, row_taken}
use Rattle.tables.specs.Lists.{last_of, in_last}
use Rattle.tables.specs.Rows.{rows_of, LastIs}
use Rattle.tables.specs.declared.rows.Rows.{Rows}

module _ {X Y Z : Type 0} {n : ℕ} (g : X → Y) (r : Rows X n) (are : List Y → Z) (t : Rows X n) (p : Y → Bool) (f : Y → Y) where
  -- a row was lent
  pub lent_row : (o w : X) → Some o ≡ last_of (rows_of r) → LastIs r w t → g w ≡ cond (p (g o)) (g o) (f (g o)) → are (map g (rows_of t)) ≡ cond (or_else false p (last_of (map g (rows_of r)))) (are (map g (rows_of r))) (are (in_last f (map g (rows_of r))))
  lent_row o w e l h =
      let m = meant_last g r o e in
      row_taken g r are t (p (g o)) f o w e l h ∙ ap (λ (q : Option Y). cond (or_else false p q) (are (map g (rows_of r))) (are (in_last f (map g (rows_of r))))) (sym m)

  -- there was none to lend
  pub lent_none : None ≡ last_of (rows_of r) → t ≡ r → are (map g (rows_of t)) ≡ cond (or_else false p (last_of (map g (rows_of r)))) (are (map g (rows_of r))) (are (in_last f (map g (rows_of r))))
  lent_none e same =
      let m = meant_none g r e in
      row_same g r are t same ∙ ap (λ (ys : List Y). are ys) m ∙ sym (ap (λ (ys : List Y). cond (or_else false p (last_of ys)) (are ys) (are (in_last f ys))) m)
