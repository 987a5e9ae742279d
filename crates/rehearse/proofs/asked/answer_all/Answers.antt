use Rattle.rehearse.proofs.Turns.{answers_turn, after_turn, answers_end, after_end}
use Rattle.rehearse.proofs.asked.answer_all.Goals as goal
use Rattle.rehearse.specs.Rehearsals.{asked_of}
use Rattle.run.specs.Runs.{state_of}
use Rattle.std.proofs.Common.{ap, ◌∙◌, arith}

pub loop-line-preserved : goal.loop-line-preserved
loop-line-preserved g c =
    let ls = c.args.lines.now in
    let i = c.loop-line.line-index in
    let s = state_of g.R.Register.meaning c.loop-line.run in
    let h = c.loop-line-test.true in
    let d = c.line-item.result in
    let e = c.answer_one.ensures.is ∙ ap (λ l. asked_of s l.asked) c.line-item.is in
    let inv = c.loop-line.invariant in (
      answers_turn ls i d s _ h e _ _ _ c.push_reserved.ensures.items inv.0,
      after_turn ls i d s _ h e _ inv.1,
      g.R.Register.linked _ _ _ inv.2 c.answer_one.ensures.beside,
      omega arith,
      omega arith,
    )

pub returns : goal.returns
returns g c =
    let ls = c.args.lines.now in
    let i = c.loop-line.line-index in
    let s = state_of g.R.Register.meaning c.loop-line.run in
    let h = c.loop-line-test.false in
    let inv = c.loop-line.invariant in
    record { answers = answers_end ls i s h _ _ inv.0; left = after_end ls i s h _ inv.1; beside = inv.2 }
