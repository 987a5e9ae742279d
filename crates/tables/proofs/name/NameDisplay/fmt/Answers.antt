use Rattle.std.proofs.Output.{has_written_append, has_written_of_eq}
use Rattle.tables.proofs.Trims.{written_more}
use Rattle.tables.proofs.name.NameDisplay.fmt.Goals as goal
use Rattle.std.proofs.Common.{refl}

pub loop-letter-preserved : goal.loop-letter-preserved
loop-letter-preserved g c = λ plain.
    let so_far = c.loop-letter.invariant plain in
    let now-too = c.in_ok-write_char.ensures.writes so_far.plain refl in
    has_written_of_eq g.W.Write.write_str_gives _ _ _ _ (written_more c.trimmed-letter-items.result.now c.loop-letter.letter-index c.loop-letter-test.true) (has_written_append g.W.Write.write_str_gives _ _ _ _ _ so_far now-too)
