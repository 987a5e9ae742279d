-- How long a table is as a list.
use Rattle.std.proofs.Common.{◌≡◌, ℕ, length, arith}
use Rattle.std.proofs.lemmas.List.{length-take-le}
use Rattle.tables.specs.Rows.{rows_of}
use Rattle.tables.specs.declared.rows.Rows.{Rows}

pub rows_long : {X : Type 0} {n : ℕ} (r : Rows X n) → length (rows_of r) ≡ r.count
rows_long r = let ok = r.ok in length-take-le r.count r.items (omega arith)
