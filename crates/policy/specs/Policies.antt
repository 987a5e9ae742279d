-- A policy as lists, its changes, and what is asked of it.
use Rattle.std.specs.Prelude.{ℕ, ◌+◌, Bool, false, not, ◌&&◌, ◌||◌, List, [], ◌∷◌, ◌++◌, is_some, Some, None, Option}
use Rattle.book.specs.Books.{Op, or_else, marks_at, has}
use Rattle.policy.specs.Coverage.{Gr, applies_to, flags}
use Rattle.policy.specs.declared.table.Action.{Action}
use Rattle.policy.specs.declared.table.Member.{Member}
use Rattle.policy.specs.declared.table.Target.{Target}
use Rattle.policy.specs.declared.table.Term.TheVariants.{Number, Field, Cell}
use Rattle.policy.specs.declared.table.Term.{Term}
use Rattle.policy.specs.declared.table.When.{When}
use Rattle.tables.specs.Lists.{last_of, in_last}
use Rattle.tables.specs.declared.name.Name.{Name}

-- a clause: its label, what it is on, for each operation whether it applies to it, its conditions, and its action where that has come
pub record Cs : Type 0 where
  pub label : Name
  pub target : Target
  pub covers : List Bool
  pub whens : List When
  pub action : Option Action

-- a policy: the first values of its cells, its groups and its clauses, each numbered from 0 in their order
pub record Po : Type 0 where
  pub cells : List ℕ
  pub groups : List Gr
  pub clauses : List Cs

-- the policy of an empty file
abbrev pub empty_policy : Po
empty_policy = record { cells = []; groups = []; clauses = [] }

-- a group as it begins
abbrev pub new_gr : Gr
new_gr = record { members = [] }

-- a clause on that target as it begins, in a policy with those groups
abbrev pub new_cs : List Gr → Target → Name → Cs
new_cs gs t n = record { label = n; target = t; covers = flags (applies_to gs t); whens = []; action = None }

-- the letters of a clause's label
abbrev pub cs_label : Cs → List ℕ
cs_label c = c.label.letters

-- The changes.

-- a group with one more member
abbrev pub joining : Member → Gr → Gr
joining m g = record { members = g.members ++ m ∷ [] }

-- a clause with one more condition, where there is one
abbrev pub guarded : Option When → Cs → Cs
guarded None c = c
guarded (Some w) c = record { label = c.label; target = c.target; covers = c.covers; whens = c.whens ++ w ∷ []; action = c.action }

-- a clause with that action
abbrev pub acting : Option Action → Cs → Cs
acting a c = record { label = c.label; target = c.target; covers = c.covers; whens = c.whens; action = a }

-- the policy with one more cell, of that first value
abbrev pub with_cell : ℕ → Po → Po
with_cell v p = record { cells = p.cells ++ v ∷ []; groups = p.groups; clauses = p.clauses }

-- the policy with one more group
abbrev pub with_group : Po → Po
with_group p = record { cells = p.cells; groups = p.groups ++ new_gr ∷ []; clauses = p.clauses }

-- the policy with one more clause
abbrev pub with_clause : Target → Name → Po → Po
with_clause t n p = record { cells = p.cells; groups = p.groups; clauses = p.clauses ++ new_cs p.groups t n ∷ [] }

-- the policy with its last group changed
abbrev pub in_last_gr : (Gr → Gr) → Po → Po
in_last_gr f p = record { cells = p.cells; groups = in_last f p.groups; clauses = p.clauses }

-- the policy with its last clause changed
abbrev pub in_last_cs : (Cs → Cs) → Po → Po
in_last_cs f p = record { cells = p.cells; groups = p.groups; clauses = in_last f p.clauses }

-- What is asked of it.

-- the clause has no action yet
abbrev pub pending : Cs → Bool
pending c = not (is_some c.action)

-- the last clause has no action yet: only conditions and its action may come
abbrev pub unfinished : Po → Bool
unfinished p = or_else false pending (last_of p.clauses)

-- an operation that is flagged lacks the mark; the flags count the operations from k on
abbrev pub lacked_from : List Op → ℕ → ℕ → List Bool → Bool
lacked_from ops m k [] = false
lacked_from ops m k (f ∷ fs) = (f && not (has (marks_at ops k) m)) || lacked_from ops m (k + 1) fs

-- a term that is a field's, and its mark is lacked by an operation to which the clause applies
abbrev pub lacks : List Op → List Bool → Term → Bool
lacks ops covers (Number n) = false
lacks ops covers (Field m) = lacked_from ops m 0 covers
lacks ops covers (Cell k) = false
