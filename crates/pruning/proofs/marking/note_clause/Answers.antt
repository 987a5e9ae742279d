use Rattle.policy.proofs.Few.{few_cells}
use Rattle.policy.specs.Meaning.{cs_of}
use Rattle.pruning.proofs.Noting.{noted_front}
use Rattle.pruning.proofs.marking.note_clause.Goals as goal
use Rattle.pruning.specs.Marking.{noted_all}
use Rattle.pruning.specs.Rules.{terms_of}
use Rattle.std.proofs.Common.{ℕ, length, ap, ◌∙◌, arith}

pub returns : goal.returns
returns c =
    let few = few_cells c.args.table.now in
    let ts = terms_of (cs_of c.args.clause.now) in
    let cells = c.args.cells.now in
    let many = ap length c.cells-count.ensures in
    noted_front (length c.cells-count.result.now) ts cells _ (omega arith) c.note_terms.ensures ∙ ap (λ (n : ℕ). noted_all n ts cells) many
