use Rattle.format.proofs.Turns.{Turn}
use Rattle.format.proofs.reading.read_commands.Given as goal
use Rattle.format.specs.Format.{name_places}
use Rattle.std.proofs.Common.{◌≡◌, map, length}

-- What is left to read onto the whole gives what the file gives, each name's place is that in the writing of the whole so far, and what is read against is as it was.
abbrev pub invariant-loop-rest : goal.invariant-loop-rest
invariant-loop-rest g l =
    let a = g.R.Reading.against l.fn.reading in
    let F = g.R.Reading.format a in
    let w = g.R.Reading.whole a l.reading in
    (g.R.Reading.against l.reading ≡ a)
    × Turn F l.file l.rest l.offset w
    × (g.R.Reading.places l.reading ≡ map (λ behind. name_places F behind w) (g.R.Reading.names a))

abbrev pub decreases-loop-rest : goal.decreases-loop-rest
decreases-loop-rest g l = length l.rest
