use Rattle.std.proofs.Math.Seq.{take-set-lt}
use Rattle.tables.proofs.rows.Rows.set.Goals as goal

pub returns-then-number-self : goal.returns-then-number-self
returns-then-number-self g c = take-set-lt _ _ _ _ c.if-number-self.true
