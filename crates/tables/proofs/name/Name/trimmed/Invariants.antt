use Rattle.tables.proofs.name.Name.trimmed.Given as goal
use Rattle.tables.specs.Names.{trimmed}
use Rattle.std.proofs.Common.{◌≡◌, length}

-- What is left is trimmed as all of the letters are.
abbrev pub invariant-loop-letters : goal.invariant-loop-letters
invariant-loop-letters l = trimmed l.letters ≡ trimmed l.self.letters

abbrev pub decreases-loop-letters : goal.decreases-loop-letters
decreases-loop-letters l = length l.letters
