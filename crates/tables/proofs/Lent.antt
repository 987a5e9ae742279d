-- A table t that came of a table r, as a change of what stands for it: `g` is the meaning of a row, and `are` says what stands for a table with such meanings.
-- The last row was changed through `last_mut`.
use Rattle.std.proofs.Common.{◌≡◌, ℕ, Bool, true, false, cond, List, [], map, Some, None, sym, ap, ◌∙◌}
use Rattle.std.specs.Option.{option_map}
use Rattle.tables.proofs.Lasts.{last_changed, last_kept, map-last_of, none_last}
use Rattle.tables.specs.Lists.{last_of, in_last}
use Rattle.tables.specs.Rows.{rows_of, LastIs}
use Rattle.tables.specs.declared.rows.Rows.{Rows}

module _ {X Y : Type 0} {n : ℕ} (g : X → Y) (r : Rows X n) where
  -- the meaning of the last row
  pub meant_last : (o : X) → Some o ≡ last_of (rows_of r) → last_of (map g (rows_of r)) ≡ Some (g o)
  meant_last o e = sym (ap (option_map g) e ∙ map-last_of g (rows_of r))

  -- no last row, and so no meaning
  pub meant_none : None ≡ last_of (rows_of r) → map g (rows_of r) ≡ []
  meant_none e = ap (map g) (none_last (rows_of r) e)

  module _ {Z : Type 0} (are : List Y → Z) (t : Rows X n) where
    -- the table as it was
    pub row_same : t ≡ r → are (map g (rows_of t)) ≡ are (map g (rows_of r))
    row_same e = ap (λ (u : Rows X n). are (map g (rows_of u))) e

    -- the last row changed by f
    pub row_changed : (f : Y → Y) (o w : X) → Some o ≡ last_of (rows_of r) → LastIs r w t → g w ≡ f (g o) → are (map g (rows_of t)) ≡ are (in_last f (map g (rows_of r)))
    row_changed f o w e l h = ap are (last_changed g f (rows_of r) (rows_of t) o w e l h)

    -- the last row changed, and its meaning kept
    pub row_kept : (o w : X) → Some o ≡ last_of (rows_of r) → LastIs r w t → g w ≡ g o → are (map g (rows_of t)) ≡ are (map g (rows_of r))
    row_kept o w e l h = ap are (last_kept g (rows_of r) (rows_of t) o w e l h)

    -- the last row changed by f, unless p
    pub row_taken : (p : Bool) (f : Y → Y) (o w : X) → Some o ≡ last_of (rows_of r) → LastIs r w t → g w ≡ cond p (g o) (f (g o)) → are (map g (rows_of t)) ≡ cond p (are (map g (rows_of r))) (are (in_last f (map g (rows_of r))))
    row_taken true f o w e l h = row_kept o w e l h
    row_taken false f o w e l h = row_changed f o w e l h
