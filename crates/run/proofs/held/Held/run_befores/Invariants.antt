use Rattle.policy.specs.Meaning.{policy_of}
use Rattle.run.proofs.held.Held.run_befores.Given as goal
use Rattle.run.specs.Calls.{befores_from}
use Rattle.run.specs.Cells.{cells_of}
use Rattle.run.specs.Given.{given_of}
use Rattle.std.proofs.Common.{◌≡◌, drop}

-- The trial holds what it was lent and what was kept; the steps that are left come to what all of them come to.
abbrev pub invariant-loop-place : goal.invariant-loop-place
invariant-loop-place l =
    let cs = (policy_of l.rules.table.now).clauses in
    let g = given_of l.rules.given in
    (l.trial.held.ghost_name ≡ l.initial.trial.held.ghost_name)
    × (l.trial.held.now.kept ≡ l.initial.trial.held.now.kept)
    × (befores_from cs g l.place (drop l.place l.befores) (cells_of l.trial.held.now.cells) ≡ befores_from cs g 0 l.befores (cells_of l.initial.trial.held.now.cells))
