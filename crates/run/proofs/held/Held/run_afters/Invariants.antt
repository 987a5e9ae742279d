use Rattle.policy.specs.Meaning.{policy_of}
use Rattle.run.proofs.held.Held.run_afters.Given as goal
use Rattle.run.specs.Calls.{afters_from}
use Rattle.run.specs.Cells.{cells_of}
use Rattle.run.specs.Given.{given_of}
use Rattle.std.proofs.Common.{◌≡◌, drop}

-- The steps that are left come to what all of them come to.
abbrev pub invariant-loop-place : goal.invariant-loop-place
invariant-loop-place l =
    let cs = (policy_of l.rules.table.now).clauses in
    let g = given_of l.rules.given in
    afters_from cs g l.answer l.place (drop l.place l.afters) (cells_of l.self.cells) ≡ afters_from cs g l.answer 0 l.afters (cells_of l.initial.self.cells)
