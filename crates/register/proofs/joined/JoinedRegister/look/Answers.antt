use Rattle.std.proofs.Common.{◌∙◌}
use Rattle.register.specs.Plots.{most}
use Rattle.register.proofs.Cuts.{found_first, found_second, found_past}
use Rattle.register.proofs.joined.JoinedRegister.look.Goals as goal

pub returns-then-plot-seam : goal.returns-then-plot-seam
returns-then-plot-seam g c =
    let j = c.args.self.now in
    c.look.ensures ∙ found_first most _ _ (g.B.Register.meaning j.second) c.plots-seam.ensures.count c.args.plot 0 c.if-plot-seam.true (g.A.Register.short j.first)

pub returns-then-plot-lt-MOST : goal.returns-then-plot-lt-MOST
returns-then-plot-lt-MOST g c =
    c.look-then-plot-lt-MOST.ensures ∙ found_second most _ _ _ c.plots-seam.ensures.count c.args.plot 0 c.if-plot-seam.false c.if-plot-lt-MOST.true

pub returns-else-plot-lt-MOST : goal.returns-else-plot-lt-MOST
returns-else-plot-lt-MOST g c = found_past most _ c.args.plot 0 c.if-plot-lt-MOST.false
