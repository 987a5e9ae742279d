use Rattle.register.proofs.Grounds.{rejoined}
use Rattle.register.specs.Plots.{cut, most}
use Rattle.policy.specs.Meaning.{table_of}
use Rattle.rehearse.proofs.asked.rehearse.Goals as goal
use Rattle.rehearse.specs.Rehearsals.{after_all}
use Rattle.run.specs.Runs.{opened}
use Rattle.std.proofs.Common.{◌≡◌, drop, ◌∙◌, rules}

pub returns : goal.returns
returns c =
    let x = c.answer_all.new.run.register.numbers in
    let xs = c.args.entries.now in
    let all = after_all (opened (table_of c.args.table.now) (cut xs)) c.args.lines.now in
    let plots : cut x.now ≡ all.plots = search rules in
    let rest : drop most x.now ≡ drop most xs = search rules in
    let entries : c.into_numbers.result.now ≡ x.now = search rules in
    record { answers = search rules; entries = entries ∙ rejoined most x.now _ _ plots rest }
