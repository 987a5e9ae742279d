use Rattle.std.proofs.Common.{◌≡◌, ◌≤◌, ◌++◌, length, drop, vec_items, vec_len, vec_capacity}
use Rattle.rehearse.proofs.asked.answer_all.Given as goal
use Rattle.rehearse.specs.Rehearsals.{answers_of, after_all}
use Rattle.run.specs.Runs.{state_of}

-- the answers so far, with those to the requests that are left, are all answers; and likewise the run
abbrev pub invariant-loop-line : goal.invariant-loop-line
invariant-loop-line g l =
    let state = state_of g.R.Register.meaning in
    (vec_items l.answers ++ answers_of (state l.run) (drop l.line-index l.lines) ≡ answers_of (state l.initial.run) l.lines)
    × (after_all (state l.run) (drop l.line-index l.lines) ≡ after_all (state l.initial.run) l.lines)
    × g.R.Register.stays l.initial.run.register l.run.register
    × (vec_len l.answers ≡ l.line-index)
    × (length l.lines ≤ vec_capacity l.answers)
