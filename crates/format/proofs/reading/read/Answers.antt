use Rattle.std.proofs.Common.{◌≡◌, map, OnOk, sym, ◌∙◌, subst}
use Rattle.format.proofs.Readings.{refusal_same}
use Rattle.format.proofs.reading.read.Goals as goal
use Rattle.format.specs.Format.{read_file, name_places}
use Rattle.format.specs.Readings.{none_yet, come}

pub read_commands-answer-requires-clause-whole : goal.read_commands-answer-requires-clause-whole
read_commands-answer-requires-clause-whole g c =
    let R = g.R.Reading in
    subst (λ b. R.whole b c.start.new.self ≡ (R.format b).empty) (sym c.start.ensures.against) c.start.ensures.whole

pub read_commands-answer-requires-clause-places : goal.read_commands-answer-requires-clause-places
read_commands-answer-requires-clause-places g c =
    let R = g.R.Reading in
    subst (λ b. R.places c.start.new.self ≡ none_yet (R.names b)) (sym c.start.ensures.against) c.start.ensures.places

pub returns-then-is_err-clause-is : goal.returns-then-is_err-clause-is
returns-then-is_err-clause-is g c =
    let R = g.R.Reading in
    let y = c.read_commands-answer.new.reading in
    let a = R.against c.args.reading.now in
    let e = subst (λ b. come c.read_commands-answer.result (R.whole b y) ≡ read_file (R.format b) c.args.file.now) c.start.ensures.against c.read_commands-answer.ensures.is in
    refusal_same c.read_commands-answer.result (R.whole a y) (R.whole a c.refuse.new.self) (read_file (R.format a) c.args.file.now) (sym c.is_err.ensures.value ∙ c.if-is_err.true) e

pub returns-else-is_err-clause-is : goal.returns-else-is_err-clause-is
returns-else-is_err-clause-is g c =
    let R = g.R.Reading in
    subst (λ b. come c.read_commands-answer.result (R.whole b c.read_commands-answer.new.reading) ≡ read_file (R.format b) c.args.file.now) c.start.ensures.against c.read_commands-answer.ensures.is

pub returns-else-is_err-clause-places : goal.returns-else-is_err-clause-places
returns-else-is_err-clause-places g c =
    let R = g.R.Reading in
    let y = c.read_commands-answer.new.reading in
    subst (λ b. OnOk c.read_commands-answer.result (R.places y ≡ map (λ n. name_places (R.format b) n (R.whole b y)) (R.names b))) c.start.ensures.against c.read_commands-answer.ensures.places
