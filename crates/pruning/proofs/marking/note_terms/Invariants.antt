use Rattle.policy.specs.Meaning.{cs_of}
use Rattle.pruning.proofs.marking.note_terms.Given as goal
use Rattle.pruning.specs.Marking.{noted_all}
use Rattle.pruning.specs.Rules.{when_terms, action_terms, terms_of}
use Rattle.std.specs.List.{flat_map}
use Rattle.std.proofs.Common.{◌≡◌, ◌++◌, drop, length}

-- The terms that are left lead to the same marks as all of them.
abbrev pub invariant-loop-when : goal.invariant-loop-when
invariant-loop-when l =
    let c = cs_of l.clause in
    let n = length l.initial.cells in
    (length l.cells ≡ n) × (noted_all n (flat_map when_terms (drop l.when-index c.whens) ++ action_terms c.action) l.cells ≡ noted_all n (terms_of c) l.initial.cells)
