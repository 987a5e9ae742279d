use Rattle.policy.proofs.Items.{item_at}
use Rattle.policy.specs.Meaning.{policy_of}
use Rattle.pruning.proofs.Serving.{why_promised}
use Rattle.pruning.proofs.reasons.Marking.why.Goals as goal

pub returns-clause-own : goal.returns-clause-own
returns-clause-own c = λ e.
    let t = c.args.self.now.table.now in
    let x = c.in_ok-clause.clause.now in
    let l = c.in_ok-clause.ensures.lookup in
    let at = item_at c.clauses.result.now (policy_of t).clauses c.clauses.ensures.is c.args.number x l.3.0 l.1 in
    rw c.reason_for.ensures (why_promised t c.args.self.now.marks.now c.args.number x at e)
