use Rattle.run.proofs.Marks.{by_marks}
use Rattle.run.proofs.Reporting.{reported}
use Rattle.run.proofs.run.Run.call.Goals as goal
use Rattle.run.specs.Calls.{Ended}
use Rattle.run.specs.Laws.{Reported}
use Rattle.run.specs.Runs.{state_of}
use Rattle.std.proofs.Common.{sym, subst}

pub returns-clause-reported : goal.returns-clause-reported
returns-clause-reported g c =
    let s = state_of g.R.Register.meaning c.args.self.now in
    let n = c.args.number in
    let vs = c.args.values.now in
    subst (λ (e : Ended). Reported s n vs e.answer) (sym c.answer.ensures.is) (reported s n vs)

pub returns-clause-marks : goal.returns-clause-marks
returns-clause-marks g c = by_marks (state_of g.R.Register.meaning c.args.self.now) c.args.number c.args.values.now
