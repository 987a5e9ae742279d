use Rattle.std.proofs.Common.{length, ap, arith}
use Rattle.register.specs.Shown.{cut_short}
use Rattle.register.proofs.flat.FlatRegister.plots.Goals as goal

pub overflow_cast-result : goal.overflow_cast-result
overflow_cast-result c = omega (arith, cut_short c.args.self.now.numbers.now, ap length c.plots_of.ensures.plots)
