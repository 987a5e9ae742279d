-- What a table stands for.
use Rattle.std.specs.Prelude.{◌≡◌, ℕ, List, take}
use Rattle.tables.specs.Lists.{in_last}
use Rattle.tables.specs.declared.rows.Rows.{Rows}

-- the rows that are taken, in order
abbrev pub rows_of : {X : Type 0} {n : ℕ} → Rows X n → List X
rows_of r = take r.count r.items

-- m is r with w as its last row
abbrev pub LastIs : {X : Type 0} {n : ℕ} → Rows X n → X → Rows X n → Type 0
LastIs r w m = rows_of m ≡ in_last (λ _. w) (rows_of r)
