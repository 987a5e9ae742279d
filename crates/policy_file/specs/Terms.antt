-- The terms and conditions that operands stand for.
use Rattle.std.specs.Prelude.{ℕ, Bool, true, false, cond, List, length, Some, None, Option, ◌==◌, nat_le, nat_lt}
use Rattle.policy.specs.Comparisons.{comparison_of}
use Rattle.policy.specs.declared.table.Action.TheVariants.{Write}
use Rattle.policy.specs.declared.table.Action.{Action}
use Rattle.policy.specs.declared.table.Comparison.{Comparison}
use Rattle.policy.specs.declared.table.Term.TheVariants.{Number, Field, Cell}
use Rattle.policy.specs.declared.table.Term.{Term}
use Rattle.policy.specs.declared.table.When.{When}
use Rattle.policy.specs.declared.table.Write.{Write as Change}
use Rattle.policy_file.specs.declared.commands.RawTerm.{RawTerm}

-- a number that is a mark: 1 to 255
abbrev pub is_mark : ℕ → Bool
is_mark m = cond (nat_le 1 m) (nat_le m 255) false

-- there is a term of that kind (0 a number, 1 a field, 2 a cell), and of a field the number is a mark
abbrev pub known : RawTerm → Bool
known t = cond (t.kind == 0) true (cond (t.kind == 1) (is_mark t.number) (t.kind == 2))

-- the term that a kind and a number stand for in a policy with those cells, where they stand for one
abbrev pub term_of : List ℕ → RawTerm → Option Term
term_of cells t =
    cond (t.kind == 0) (Some (Number t.number))
    (cond (t.kind == 1) (cond (is_mark t.number) (Some (Field t.number)) None)
    (cond (t.kind == 2) (cond (nat_lt t.number (length cells)) (Some (Cell t.number)) None) None))

-- the condition of a comparison and two terms, where there are all three
abbrev pub when_with : Option Comparison → Option Term → Option Term → Option When
when_with None l r = None
when_with (Some q) None r = None
when_with (Some q) (Some l) None = None
when_with (Some q) (Some l) (Some r) = Some (record { comparison = q; left = l; right = r })

-- the condition that the operands of WHEN stand for
abbrev pub when_of : List ℕ → ℕ → RawTerm → RawTerm → Option When
when_of cells q l r = when_with (comparison_of q) (term_of cells l) (term_of cells r)

-- the action that changes a cell by a term, where there is one
abbrev pub write_with : Change → ℕ → Option Term → Option Action
write_with w k None = None
write_with w k (Some t) = Some (Write w k t)
