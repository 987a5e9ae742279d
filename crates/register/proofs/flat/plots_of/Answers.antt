use Rattle.std.proofs.Common.{take, arith, ap, ◌∙◌}
use Rattle.std.proofs.lemmas.List.{take_min}
use Rattle.register.specs.Plots.{most}
use Rattle.register.specs.Shown.{cut_fit}
use Rattle.register.proofs.flat.plots_of.Goals as goal

pub returns-clause-plots : goal.returns-clause-plots
returns-clause-plots c = ap (λ n. take n c.args.numbers.now) (omega arith) ∙ take_min most c.args.numbers.now

pub returns-clause-fit : goal.returns-clause-fit
returns-clause-fit c = cut_fit c.args.numbers.now (λ k. (c.type_inv.numbers k).fits)
