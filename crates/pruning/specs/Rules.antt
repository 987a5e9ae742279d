-- Which clauses and cells of a policy are meaningful: the three rules, and what they give.
use Rattle.std.specs.Prelude.{◌≡◌, ℕ, ◌<◌, Bool, true, List, [], ◌∷◌, ◌++◌, length, Some, None, Option}
use Rattle.policy.specs.Policies.{Cs, Po}
use Rattle.policy.specs.declared.table.Action.{Action}
use Rattle.policy.specs.declared.table.Action.TheVariants.{Violate, Write}
use Rattle.policy.specs.declared.table.Term.{Term}
use Rattle.policy.specs.declared.table.Term.TheVariants.{Cell}
use Rattle.policy.specs.declared.table.When.{When}
use Rattle.std.specs.List.{flat_map, ContainsAt as Among, slice_get}

-- The words of the rules.

-- the terms of a condition
abbrev pub when_terms : When → List Term
when_terms w = w.left ∷ w.right ∷ []

-- the term of an action, which only a write of a cell has
abbrev pub action_terms : Option Action → List Term
action_terms None = []
action_terms (Some Violate) = []
action_terms (Some (Write w k t)) = t ∷ []

-- the terms of a clause: those of its conditions, then that of its action
abbrev pub terms_of : Cs → List Term
terms_of c = flat_map when_terms c.whens ++ action_terms c.action

-- the cell that an action writes
abbrev pub written_by : Option Action → Option ℕ
written_by None = None
written_by (Some Violate) = None
written_by (Some (Write w k t)) = Some k

-- clause i of the policy is c
abbrev pub ClauseAt : Po → ℕ → Cs → Type 0
ClauseAt p i c = slice_get p.clauses i ≡ Some c

-- the action of the clause is a violation
abbrev pub Violates : Cs → Type 0
Violates c = c.action ≡ Some Violate

-- the clause writes cell d
abbrev pub Writes : Cs → ℕ → Type 0
Writes c d = written_by c.action ≡ Some d

-- d is a cell of the policy that stands in a term of the clause
abbrev pub Reads : Po → Cs → ℕ → Type 0
Reads p c d = (d < length p.cells) × Among (terms_of c) (Cell d)

-- The rules.

-- a choice C of clauses and D of cells obeys the three rules: it has each clause that violates, each cell that a clause of it reads, and each clause that writes a cell of it
pub record Obeys (p : Po) (C D : ℕ → Type 0) : Type 0 where
  pub violates : (i : ℕ) (c : Cs) → ClauseAt p i c → Violates c → C i
  pub reads : (i d : ℕ) (c : Cs) → ClauseAt p i c → C i → Reads p c d → D d
  pub writes : (i d : ℕ) (c : Cs) → ClauseAt p i c → Writes c d → D d → C i

-- the meaningful clauses and cells: what the rules give, and nothing else
mutual
  pub data MeaningfulClause (p : Po) : ℕ → Type 0 where
    by_violation : {i : ℕ} (c : Cs) → ClauseAt p i c → Violates c → MeaningfulClause p i
    by_write : {i : ℕ} (d : ℕ) (c : Cs) → ClauseAt p i c → Writes c d → MeaningfulCell p d → MeaningfulClause p i

  pub data MeaningfulCell (p : Po) : ℕ → Type 0 where
    by_reading : {d : ℕ} (i : ℕ) (c : Cs) → ClauseAt p i c → MeaningfulClause p i → Reads p c d → MeaningfulCell p d

-- what a choice chooses
abbrev pub Chosen : (ℕ → Bool) → ℕ → Type 0
Chosen C n = C n ≡ true
