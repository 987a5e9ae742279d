use Rattle.book.specs.declared.table.After.{After}
use Rattle.policy.specs.Meaning.{policy_of}
use Rattle.pruning.proofs.Counting.{count_joined}
use Rattle.pruning.proofs.reasons.Marking.count_kept.Goals as goal
use Rattle.pruning.specs.Reasons.{operation_marked}
use Rattle.std.proofs.Common.{◌≡◌, ◌++◌, ◌∙◌, map, length, filter, rules}
use Rattle.std.proofs.iter.runs.Made.{chains}

pub returns : goal.returns
returns c =
    let test = operation_marked (policy_of c.args.self.now.table.now) c.args.self.now.marks.now in
    let xs = c.befores.result.now in
    let ys = c.afters.result.now in
    let e : c.count.result ≡ length (filter (operation_marked (policy_of c.args.self.now.table.now) c.args.self.now.marks.now) (xs ++ map (λ (a : After). a.operation) ys)) = search (rules, chains) in
    e ∙ count_joined test (λ (a : After). a.operation) xs ys ∙ search rules
