use Rattle.policy.specs.Meaning.{cs_of, policy_of}
use Rattle.run.proofs.steps.Rules.step.Given as goal
use Rattle.run.specs.Cells.{cells_of}
use Rattle.run.specs.Given.{given_of}
use Rattle.run.specs.Steps.{step_from}
use Rattle.std.proofs.Common.{◌≡◌, drop, map}

-- The clauses that are left, from the cells as they are, come to what all of them come to.
abbrev pub invariant-loop-number : goal.invariant-loop-number
invariant-loop-number l =
    let g = given_of l.self.given in
    step_from l.operation g l.number (map cs_of (drop l.number l.clause-items)) (cells_of l.cells) ≡ step_from l.operation g 0 (policy_of l.self.table.now).clauses (cells_of l.initial.cells)
