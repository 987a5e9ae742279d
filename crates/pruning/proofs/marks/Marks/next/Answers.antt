use Rattle.policy.specs.Meaning.{cs_of, policy_of}
use Rattle.policy.specs.Policies.{Cs}
use Rattle.pruning.proofs.Firsts.{first_position, passing}
use Rattle.pruning.proofs.marks.Marks.next.Goals as goal
use Rattle.pruning.specs.Marking.{due}
use Rattle.std.proofs.Common.{ℕ, Bool, rules, tests}
use Rattle.std.proofs.lemmas.Iterator.Consumers.{YieldsList-from_enumerate, YieldsList-at}
use Rattle.std.proofs.lemmas.Iterator.Search.{position_from_yields_List}
use Rattle.std.proofs.lemmas.Iterator.{YieldsList-from_slice}

pub returns : goal.returns
returns c =
    let xs = c.clauses.result.now in
    let test : ℕ → Cs → Bool = λ i x. due i x c.args.self.now in
    first_position test cs_of xs (policy_of c.args.table.now).clauses c.position.result c.clauses.ensures.is (position_from_yields_List (passing test cs_of) _ _ c.position.result c.position.ensures.ran (YieldsList-from_enumerate (YieldsList-at c.enumerate.ensures.source (YieldsList-from_slice xs cc)) c.enumerate.ensures.count) (λ x b q k. search (rules, tests)))
