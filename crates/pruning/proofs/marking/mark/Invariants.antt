use Rattle.policy.specs.Meaning.{policy_of}
use Rattle.pruning.proofs.Flags.{down}
use Rattle.pruning.proofs.marking.mark.Given as goal
use Rattle.pruning.specs.Marking.{marked_from, marks_of}
use Rattle.std.proofs.Common.{◌≡◌, length}

-- What is marked so far leads to the marks of the policy.
abbrev pub invariant-loop-number : goal.invariant-loop-number
invariant-loop-number l = (length l.marks.clauses ≡ 256) × (marked_from (policy_of l.table) (down l.marks.clauses) l.marks ≡ marks_of (policy_of l.table))

-- Each turn marks a clause.
abbrev pub decreases-loop-number : goal.decreases-loop-number
decreases-loop-number l = down l.marks.clauses
