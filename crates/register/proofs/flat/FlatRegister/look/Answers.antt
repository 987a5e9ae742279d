-- The rules alone find it, and soon refuse a look at another plot.
use Rattle.std.proofs.Common.{rules}
use Rattle.register.proofs.flat.FlatRegister.look.Goals as goal

pub returns : goal.returns
returns c = search rules
