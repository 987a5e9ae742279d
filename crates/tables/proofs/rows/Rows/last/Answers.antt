use Rattle.std.proofs.Common.{rules}
use Rattle.tables.proofs.Lasts.{last_of-get}
use Rattle.tables.proofs.rows.Rows.last.Goals as goal

pub returns : goal.returns
returns g c = search (rules, last_of-get)
