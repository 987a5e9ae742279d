use Rattle.run.proofs.cells.Cells.value.Goals as goal
use Rattle.std.proofs.Common.{rules}
use Rattle.std.proofs.lemmas.Option.{unwrap_or-slice_get}

pub returns : goal.returns
returns c = search (rules, unwrap_or-slice_get)
