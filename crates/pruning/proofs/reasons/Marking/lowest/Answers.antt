use Rattle.policy.specs.Meaning.{cs_of, policy_of}
use Rattle.pruning.proofs.Firsts.{first_position, passing}
use Rattle.pruning.proofs.Serving.{lowest_promised}
use Rattle.pruning.proofs.reasons.Marking.lowest.Goals as goal
use Rattle.pruning.specs.Reasons.{served}
use Rattle.std.proofs.Common.{rules, tests}
use Rattle.std.proofs.lemmas.Iterator.Consumers.{YieldsList-from_enumerate, YieldsList-at}
use Rattle.std.proofs.lemmas.Iterator.Search.{position_from_yields_List}
use Rattle.std.proofs.lemmas.Iterator.{YieldsList-from_slice}

pub returns : goal.returns
returns c =
    let t = c.args.self.now.table.now in
    let m = c.args.self.now.marks.now in
    let xs = c.clauses.result.now in
    let test = served (policy_of t) c.args.tie m.clauses in
    let is = first_position test cs_of xs (policy_of t).clauses c.position.result c.clauses.ensures.is (position_from_yields_List (passing test cs_of) _ _ c.position.result c.position.ensures.ran (YieldsList-from_enumerate (YieldsList-at c.enumerate.ensures.source (YieldsList-from_slice xs cc)) c.enumerate.ensures.count) (λ x b q k. search (rules, tests))) in
    let l = lowest_promised t c.args.tie m c.position.result is in
    record { is = is; first = l.0; own = l.1 }
