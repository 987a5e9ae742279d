use Rattle.std.specs.Fmt.{IsPlainFormatter, HasWritten}
use Rattle.tables.proofs.name.NameDisplay.fmt.Given as goal
use Rattle.std.proofs.Common.{take}
use lib.Utf8.{encodes}

-- The letters passed so far were written.
abbrev pub invariant-loop-letter : goal.invariant-loop-letter
invariant-loop-letter g l = IsPlainFormatter l.initial.f → HasWritten g.W.Write.write_str_gives l.initial.f (encodes (take l.letter-index l.letter-items)) l.f
