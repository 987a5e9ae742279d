-- The lowest marked clause that has to do with a cell or with an operation, and the steps of a call that are kept.
use Rattle.std.specs.Prelude.{◌≡◌, ℕ, ◌+◌, ◌<◌, Bool, true, false, ◌&&◌, List, length, replicate, is_some, Some, None, count_by, Option, slice_index_or}
use Rattle.book.specs.Books.{Cl, or_else}
use Rattle.book.specs.declared.table.After.{After}
use Rattle.policy.specs.Policies.{Cs, Po}
use Rattle.pruning.specs.Marking.{Marked, first_from, noted_all, reason_of}
use Rattle.pruning.specs.Rules.{ClauseAt, MeaningfulClause, MeaningfulCell, Reads, terms_of}
use Rattle.pruning.specs.declared.marks.Marks.{Marks}
use Rattle.pruning.specs.declared.marks.Reason.{Reason}
use Rattle.pruning.specs.declared.marks.StepCount.{StepCount}
use Rattle.pruning.specs.declared.marks.Tie.{Tie}
use Rattle.pruning.specs.declared.marks.Tie.TheVariants.{Reads as READS, AppliesTo as APPLIES}
use Rattle.std.specs.List.{slice_get}

-- a clause reads that cell, or applies to that operation
abbrev pub Tied : Po → Tie → Cs → Type 0
Tied p (READS d) c = Reads p c d
Tied p (APPLIES o) c = slice_index_or c.covers o false ≡ true

-- the same as it is tested
abbrev pub tied : Po → Tie → Cs → Bool
tied p (READS d) c = slice_index_or (noted_all (length p.cells) (terms_of c) (replicate 128 false)) d false
tied p (APPLIES o) c = slice_index_or c.covers o false

-- clause c, of the number i, is marked and tied so
abbrev pub served : Po → Tie → List Bool → ℕ → Cs → Bool
served p t flags i c = slice_index_or flags i false && tied p t c

-- the first marked clause of the policy that is tied so
abbrev pub lowest_of : Po → Tie → Marks → Option ℕ
lowest_of p t m = first_from (served p t m.clauses) 0 p.clauses

-- clause i is marked and tied so
abbrev pub Serves : Po → Tie → List Bool → ℕ → Type 0
Serves p t flags i = (c : Cs) × ClauseAt p i c × Marked flags i × Tied p t c

-- r is the lowest marked clause that is tied so, or there is none
abbrev pub Lowest : Po → Tie → List Bool → Option ℕ → Type 0
Lowest p t flags None = (i : ℕ) → Serves p t flags i → ⊥
Lowest p t flags (Some i) = Serves p t flags i × ((k : ℕ) → k < i → Serves p t flags k → ⊥)

-- why clause i is marked where those marks stand, or nothing
abbrev pub why_of : Po → Marks → ℕ → Option Reason
why_of p m i = or_else None (λ c. reason_of c.action m.cells) (slice_get p.clauses i)

-- an operation is meaningful when a meaningful clause applies to it
abbrev pub MeaningfulOperation : Po → ℕ → Type 0
MeaningfulOperation p o = (i : ℕ) × (c : Cs) × ClauseAt p i c × MeaningfulClause p i × (slice_index_or c.covers o false ≡ true)

-- a cell that is tied is meaningful by the rules, an operation when a meaningful clause applies to it
abbrev pub Meaningful : Po → Tie → Type 0
Meaningful p (READS d) = MeaningfulCell p d
Meaningful p (APPLIES o) = MeaningfulOperation p o

-- a marked clause applies to the operation
abbrev pub operation_marked : Po → Marks → ℕ → Bool
operation_marked p m o = is_some (lowest_of p (APPLIES o) m)

-- a marked clause applies to the operation of an AFTER
abbrev pub after_marked : Po → Marks → After → Bool
after_marked p m a = operation_marked p m a.operation

-- how many steps of a call are kept: those BEFOREs and AFTERs to whose operation a marked clause applies
abbrev pub kept_of : Po → Marks → Cl → ℕ
kept_of p m c = count_by (operation_marked p m) c.befores + count_by (after_marked p m) c.afters

-- the steps of a call, its BEFOREs and its AFTERs: how many are kept, and how many there are
abbrev pub steps_of : Po → Marks → Cl → StepCount
steps_of p m c = record { kept = kept_of p m c; all = length c.befores + length c.afters }
