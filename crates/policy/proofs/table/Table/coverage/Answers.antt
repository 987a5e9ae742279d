use Rattle.policy.proofs.Walks.{none_walked, first_grown}
use Rattle.policy.proofs.table.Table.coverage.Goals as goal
use Rattle.policy.specs.Meaning.{policy_of}
use Rattle.std.proofs.Common.{◌≡◌, false, length, replicate, arith}

pub walk-requires : goal.walk-requires
walk-requires c = none_walked (policy_of c.args.self.now).groups (replicate 64 false)

pub returns : goal.returns
returns c =
    let l : length c.walk.new.walk.covers ≡ 64 = c.walk.new.walk.whole in
    first_grown (policy_of c.args.self.now).groups c.args.number c.walk.new.walk.covers (omega arith) c.walk.ensures.grown
