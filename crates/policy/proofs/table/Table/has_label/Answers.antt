use Rattle.std.proofs.Common.{ℕ, List, map, is_some, sym, ap, ◌∙◌}
use Rattle.policy.proofs.table.Table.has_label.Goals as goal
use Rattle.policy.specs.Meaning.{cs_of}
use Rattle.policy.specs.Policies.{cs_label}
use Rattle.policy.specs.declared.table.Clause.{Clause}
use Rattle.tables.specs.Rows.{rows_of}
use Rattle.tables.specs.Search.{first_named}
use mathlib.Core.List.{map-map}

pub returns : goal.returns
returns c =
    let n = c.args.label.now.letters in
    let held = ap (λ (l : List Clause). first_named (map (λ x. x.label.name.letters) l) n) c.held.ensures in
    let meant = ap (λ (l : List (List ℕ)). first_named l n) (sym (map-map cs_label cs_of (rows_of c.args.self.now.clauses))) in
    c.is_some.ensures ∙ ap is_some (c.find.ensures.is ∙ held ∙ meant)
