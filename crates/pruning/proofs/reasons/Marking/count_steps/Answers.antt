use Rattle.policy.specs.Meaning.{policy_of}
use Rattle.pruning.proofs.Serving.{lowest_promised}
use Rattle.pruning.proofs.reasons.Marking.count_steps.Goals as goal
use Rattle.pruning.specs.Reasons.{lowest_of}
use Rattle.pruning.specs.declared.marks.Tie.TheVariants.{AppliesTo}
use Rattle.std.proofs.Common.{refl}

pub returns-clause-own : goal.returns-clause-own
returns-clause-own c = λ e o.
    let t = c.args.self.now.table.now in
    let m = c.args.self.now.marks.now in
    (lowest_promised t (AppliesTo o) m (lowest_of (policy_of t) (AppliesTo o) m) refl).1 e
