use Rattle.policy.proofs.Walks.{Kept}
use Rattle.policy.proofs.table.Table.+walk.Given as goal
use Rattle.policy.specs.Meaning.{policy_of}

-- A nested group has a lower number.
abbrev pub decreases-walk : goal.decreases-walk
decreases-walk l = l.number

-- What the members so far bring is flagged.
abbrev pub invariant-loop-member : goal.invariant-loop-member
invariant-loop-member l = Kept (policy_of l.self).groups l.number l.member-items l.member-index l.walk.walked l.initial.walk.covers l.walk.covers
