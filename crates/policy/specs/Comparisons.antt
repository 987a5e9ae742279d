-- The comparisons that operands stand for.
use Rattle.std.specs.Prelude.{◌≡◌, ℕ, cond, Some, None, Option, Result, ◌==◌}
use Rattle.format.specs.Refusals.{or_outside}
use Rattle.format.specs.declared.refusal.Refusal.{Refusal}
use Rattle.policy.specs.declared.table.Comparison.TheVariants.{Equal, Unequal, Less, AtMost}
use Rattle.policy.specs.declared.table.Comparison.{Comparison}

-- the comparison that an operand of WHEN stands for, where it stands for one
abbrev pub comparison_of : ℕ → Option Comparison
comparison_of q = cond (q == 0) (Some Equal) (cond (q == 1) (Some Unequal) (cond (q == 2) (Some Less) (cond (q == 3) (Some AtMost) None)))

-- the number is converted to the comparison, or refused as outside
abbrev pub IsComparison : ℕ → Result Comparison Refusal → Type 0
IsComparison q r = r ≡ or_outside (comparison_of q)
