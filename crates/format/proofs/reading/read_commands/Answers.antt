use Rattle.std.proofs.Common.{ℕ, ◌<◌, length, Option, ap, ◌∙◌, arith, rules}
use Rattle.format.proofs.Readings.{more_places, step_made, step_refused, step_places}
use Rattle.format.proofs.Turns.{next_turn, turn_places, last_turn, shorter}
use Rattle.format.proofs.reading.read_commands.Given as given
use Rattle.format.proofs.reading.read_commands.Goals.{In-Ok}
use Rattle.format.proofs.reading.read_commands.Goals as goal
use Rattle.format.specs.Readings.{one_more}
use Rattle.format.specs.Refusals.{number_of}

-- a step takes at least one byte
step_shorter : (g : given.Over) (c : In-Ok g) → length c.in-Ok.after.now < length c.loop-rest.rest.now
step_shorter g c =
    let R = g.R.Reading in
    let x = c.loop-rest.reading in
    let k = R.against x in
    let same = c.loop-rest.invariant.0 in
    let a = R.against c.args.reading.now in
    shorter (R.format a) c.requires.holds c.loop-rest.rest.now (R.whole a x) (R.whole a c.step.new.self) c.in-Ok.after.now (step_made R.format R.whole x c.step.new.self k a same c.loop-rest.rest.now c.in-Ok.after.now c.in-Ok.ensures.is)

pub overflow_sub-offset : goal.overflow_sub-offset
overflow_sub-offset g c = let s = step_shorter g ((goal.at.overflow_sub-offset g c).In-Ok) in omega arith

pub loop-rest-smaller : goal.loop-rest-smaller
loop-rest-smaller g c = step_shorter g ((goal.at.loop-rest-smaller g c).In-Ok)

pub loop-rest-preserved : goal.loop-rest-preserved
loop-rest-preserved g c =
    let R = g.R.Reading in
    let x = c.loop-rest.reading in
    let y = c.step.new.self in
    let a = R.against c.args.reading.now in
    let F = R.format a in
    let H = c.requires.holds in
    let f = c.args.file.now in
    let rest = c.loop-rest.rest.now in
    let at = c.loop-rest.offset in
    let after = c.in-Ok.after.now in
    let same = c.loop-rest.invariant.0 in
    let turn = c.loop-rest.invariant.1 in
    let made = step_made R.format R.whole x y (R.against x) a same rest after c.in-Ok.ensures.is in
    let s = step_shorter g ((goal.at.loop-rest-preserved g c).In-Ok) in
    let h : 0 < length rest = omega arith in
    let new : (n : F.Command → Option ℕ) → _ = λ n. turn_places F H f rest at (R.whole a x) turn n (R.whole a y) after made in (
      c.in-Ok.ensures.against ∙ same,
      next_turn F H f rest at (R.whole a x) turn (R.whole a y) after h made,
      step_places R.format R.whole x y (R.against x) a same rest R.names at (R.places x) (R.places y) c.in-Ok.ensures.places
          ∙ ap (one_more (R.names a) (F.command_at rest) at) c.loop-rest.invariant.2
          ∙ more_places F (R.whole a x) (R.whole a y) (F.command_at rest) at new (R.names a),
    )

pub returns-in-Err-clause-is : goal.returns-in-Err-clause-is
returns-in-Err-clause-is g c =
    let R = g.R.Reading in
    let x = c.loop-rest.reading in
    let a = R.against c.args.reading.now in
    let rest = c.loop-rest.rest.now in
    let h : 0 < length rest = search rules in
    let e = step_refused R.format R.whole x c.step.new.self (R.against x) a c.loop-rest.invariant.0 rest (number_of c.in-Err.refusal) c.in-Err.ensures.is in
    search (rules, last_turn (R.format a) c.requires.holds c.args.file.now rest c.loop-rest.offset (R.whole a x) c.loop-rest.invariant.1 (number_of c.in-Err.refusal) h e)
