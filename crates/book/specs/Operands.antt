-- The acts and conditions that operands stand for.
use Rattle.std.specs.Prelude.{◌≡◌, ℕ, cond, Some, None, Option, Result, ◌==◌}
use Rattle.book.specs.declared.table.Act.TheVariants.{Look, Put}
use Rattle.book.specs.declared.table.Act.{Act}
use Rattle.book.specs.declared.table.Condition.TheVariants.{Always, NotZero, Zero}
use Rattle.book.specs.declared.table.Condition.{Condition}
use Rattle.format.specs.Refusals.{or_outside}
use Rattle.format.specs.declared.refusal.Refusal.{Refusal}

-- the act that an operand of ACT stands for, where it stands for one
abbrev pub act_of : ℕ → Option Act
act_of a = cond (a == 1) (Some Look) (cond (a == 2) (Some Put) None)

-- the condition that an operand of AFTER stands for, where it stands for one
abbrev pub condition_of : ℕ → Option Condition
condition_of q = cond (q == 0) (Some Always) (cond (q == 1) (Some NotZero) (cond (q == 2) (Some Zero) None))

-- the number is converted to the act, or refused as outside
abbrev pub IsAct : ℕ → Result Act Refusal → Type 0
IsAct a r = r ≡ or_outside (act_of a)

-- the number is converted to the condition, or refused as outside
abbrev pub IsCondition : ℕ → Result Condition Refusal → Type 0
IsCondition q r = r ≡ or_outside (condition_of q)
