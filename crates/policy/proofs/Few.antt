-- A table in memory has at most 256 clauses and 128 cells.
use Rattle.std.proofs.Common.{◌≤◌, length, arith}
use Rattle.policy.specs.Meaning.{cs_of, policy_of}
use Rattle.policy.specs.declared.table.Table.{Table}
use Rattle.std.proofs.lemmas.List.{length-map}
use Rattle.tables.proofs.Long.{rows_long}
use Rattle.tables.specs.Rows.{rows_of}

pub few_clauses : (t : Table) → length (policy_of t).clauses ≤ 256
few_clauses t =
    let ok = t.clauses.ok in
    omega (arith, length-map (rows_of t.clauses) cs_of, rows_long t.clauses, ok.0)

pub few_cells : (t : Table) → length (policy_of t).cells ≤ 128
few_cells t =
    let ok = t.cells.ok in
    omega (arith, rows_long t.cells, ok.0)
