use Rattle.std.proofs.Common.{arith}
use Rattle.std.proofs.lemmas.List.{length-take, length-append}
use Rattle.register.specs.Shown.{joined_fit}
use Rattle.register.proofs.joined.JoinedRegister.plots.Goals as goal

pub returns : goal.returns
returns g c = record { count = simp (length-take, length-append) (omega arith); fit = joined_fit _ _ c.plots.ensures.fit c.plots-2.ensures.fit }
