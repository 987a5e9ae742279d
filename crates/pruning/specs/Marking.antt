-- The marks of a policy's clauses and cells, as they are computed.
use Rattle.std.specs.Prelude.{◌≡◌, ℕ, zero, suc, ◌+◌, Bool, true, false, cond, not, ◌&&◌, List, [], ◌∷◌, length, replicate, is_some, Some, None, Option, nat_lt, slice_index_or, slice_set}
use Rattle.book.specs.Books.{or_else}
use Rattle.policy.specs.Policies.{Cs, Po}
use Rattle.policy.specs.declared.table.Action.{Action}
use Rattle.policy.specs.declared.table.Action.TheVariants.{Violate, Write}
use Rattle.policy.specs.declared.table.Term.{Term}
use Rattle.policy.specs.declared.table.Term.TheVariants.{Number, Field, Cell}
use Rattle.pruning.specs.Rules.{terms_of}
use Rattle.pruning.specs.declared.marks.Marks.{Marks}
use Rattle.pruning.specs.declared.marks.Reason.{Reason}
use Rattle.pruning.specs.declared.marks.Reason.TheVariants.{Violates, Writes}
use Rattle.std.specs.List.{slice_get}

-- the flag of a number is raised
abbrev pub Marked : List Bool → ℕ → Type 0
Marked flags n = slice_index_or flags n false ≡ true

-- why a clause with that action is marked where those cells are: it violates, or it writes one of them
abbrev pub reason_of : Option Action → List Bool → Option Reason
reason_of None cells = None
reason_of (Some Violate) cells = Some Violates
reason_of (Some (Write w d t)) cells = cond (slice_index_or cells d false) (Some (Writes d)) None

-- the flags of the cells, with that of a term's cell raised, in a policy of n cells
abbrev pub noted : ℕ → Term → List Bool → List Bool
noted n (Number v) cells = cells
noted n (Field m) cells = cells
noted n (Cell k) cells = cond (nat_lt k n) (slice_set cells k true) cells

-- the same for each of some terms
abbrev pub noted_all : ℕ → List Term → List Bool → List Bool
noted_all n [] cells = cells
noted_all n (t ∷ ts) cells = noted_all n ts (noted n t cells)

-- a clause of that number is not marked, and there is a reason to mark it
abbrev pub due : ℕ → Cs → Marks → Bool
due i c m = not (slice_index_or m.clauses i false) && is_some (reason_of c.action m.cells)

-- the first clause that passes a test of its number and itself, the clauses counted from i on
abbrev pub first_from : (ℕ → Cs → Bool) → ℕ → List Cs → Option ℕ
first_from test i [] = None
first_from test i (c ∷ cs) = cond (test i c) (Some i) (first_from test (i + 1) cs)

-- the first clause of the policy that is due
abbrev pub next_of : Po → Marks → Option ℕ
next_of p m = first_from (λ i c. due i c m) 0 p.clauses

-- the terms of clause i
abbrev pub terms_at : Po → ℕ → List Term
terms_at p i = or_else [] terms_of (slice_get p.clauses i)

-- the marks with clause i marked, and the cells that stand in its terms
abbrev pub marked_at : Po → ℕ → Marks → Marks
marked_at p i m = record { clauses = slice_set m.clauses i true; cells = noted_all (length p.cells) (terms_at p i) m.cells }

-- what go makes of the marks with one more clause marked, where one is due, and else the marks
abbrev pub turned : Po → (Marks → Marks) → Marks → Option ℕ → Marks
turned p go m None = m
turned p go m (Some i) = go (marked_at p i m)

-- one clause after another is marked while one is due, at most n of them
abbrev pub marked_from : Po → ℕ → Marks → Marks
marked_from p zero m = m
marked_from p (suc n) m = turned p (marked_from p n) m (next_of p m)

-- no marks: a flag for each of 256 clauses and of 128 cells
abbrev pub no_marks : Marks
no_marks = record { clauses = replicate 256 false; cells = replicate 128 false }

-- the marks of a policy
unfoldable pub marks_of : Po → Marks
marks_of p = marked_from p 256 no_marks
