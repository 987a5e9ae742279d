-- The cells of a run, as a list of their values.
use Rattle.std.specs.Prelude.{ℕ, List}
use Rattle.run.specs.declared.cells.Cells.{Cells}
use Rattle.tables.specs.Rows.{rows_of}

-- the values, cell 0 first
abbrev pub cells_of : Cells → List ℕ
cells_of c = rows_of c.values
