-- What a step does: the clauses of its operation, in the order of the file, each seeing the cells as they then are.
use Rattle.std.specs.Prelude.{ℕ, ◌+◌, ◌-◌, min, Bool, true, false, cond, not, ◌&&◌, List, [], ◌∷◌, Some, None, Option, ◌==◌, nat_le, nat_lt, slice_index, slice_index_or, slice_set}
use Rattle.policy.specs.Policies.{Cs}
use Rattle.policy.specs.declared.table.Action.TheVariants.{Violate, Write}
use Rattle.policy.specs.declared.table.Action.{Action}
use Rattle.policy.specs.declared.table.Comparison.TheVariants.{Equal, Unequal, Less, AtMost}
use Rattle.policy.specs.declared.table.Comparison.{Comparison}
use Rattle.policy.specs.declared.table.Term.TheVariants.{Number, Field, Cell}
use Rattle.policy.specs.declared.table.Term.{Term}
use Rattle.policy.specs.declared.table.When.{When}
use Rattle.policy.specs.declared.table.Write.TheVariants.{Set, Add, Take}
use Rattle.policy.specs.declared.table.Write.{Write as Change}
use Rattle.std.specs.List.{list_all}

-- The values under the marks.

-- what fills the marks of a step: the marks of the call's fields, the values in their order, and after the act the register's answer
pub record Gv : Type 0 where
  pub fields : List ℕ
  pub values : List ℕ
  pub answer : Option ℕ

-- the value of the field of mark m, or 0 where there is none
abbrev pub value_under : List ℕ → List ℕ → ℕ → ℕ
value_under [] vs m = 0
value_under (f ∷ fs) [] m = 0
value_under (f ∷ fs) (v ∷ vs) m = cond (f == m) v (value_under fs vs m)

-- mark 255 is filled with the register's answer, where there is one
abbrev pub or_answer : Option ℕ → ℕ → ℕ → ℕ
or_answer None m v = v
or_answer (Some a) m v = cond (m == 255) a v

-- what fills mark m
abbrev pub fetched : Gv → ℕ → ℕ
fetched g m = or_answer g.answer m (value_under g.fields g.values m)

-- Terms, conditions and actions.

-- the value of a term
abbrev pub term_value : Gv → List ℕ → Term → ℕ
term_value g cells (Number n) = n
term_value g cells (Field m) = fetched g m
term_value g cells (Cell k) = slice_index cells k

-- two values compared
abbrev pub compared : Comparison → ℕ → ℕ → Bool
compared Equal a b = a == b
compared Unequal a b = not (a == b)
compared Less a b = nat_lt a b
compared AtMost a b = nat_le a b

-- a condition holds
abbrev pub holds : Gv → List ℕ → When → Bool
holds g cells w = compared w.comparison (term_value g cells w.left) (term_value g cells w.right)

-- all conditions hold
abbrev pub all_hold : Gv → List ℕ → List When → Bool
all_hold g cells ws = list_all (holds g cells) ws

-- a cell's value after a write: SET stores the term, ADD adds it and stays at 2^32 − 1, TAKE subtracts it and stays at 0
abbrev pub written : Change → ℕ → ℕ → ℕ
written Set old by = by
written Add old by = min (old + by) 4294967295
written Take old by = old - by

-- the cells after an action; a violation, and no action, leave them
abbrev pub acted : Gv → List ℕ → Option Action → List ℕ
acted g cells None = cells
acted g cells (Some Violate) = cells
acted g cells (Some (Write w k t)) = slice_set cells k (written w (slice_index cells k) (term_value g cells t))

-- the action is a violation
abbrev pub violates : Option Action → Bool
violates None = false
violates (Some Violate) = true
violates (Some (Write w k t)) = false

-- The step.

-- a clause acts in a step: it applies to the operation, and all its conditions hold
abbrev pub acts : ℕ → Gv → List ℕ → Cs → Bool
acts o g cells c = slice_index_or c.covers o false && all_hold g cells c.whens

-- what a step comes to: the cells, and the number of the clause that violates, where one does
pub record Stepped : Type 0 where
  pub cells : List ℕ
  pub violation : Option ℕ

-- the clauses from number i on, in a step of operation o
abbrev pub step_from : ℕ → Gv → ℕ → List Cs → List ℕ → Stepped
step_from o g i [] cells = record { cells = cells; violation = None }
step_from o g i (c ∷ cs) cells =
    cond (acts o g cells c)
    (cond (violates c.action) (record { cells = cells; violation = Some i }) (step_from o g (i + 1) cs (acted g cells c.action)))
    (step_from o g (i + 1) cs cells)
