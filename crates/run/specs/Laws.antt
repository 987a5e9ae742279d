-- What holds of every request, in words of its own: what is left as it was, that a stop is final, why a violation is reported, and that values count through their marks alone.
use Rattle.std.specs.Prelude.{◌≡◌, ℕ, true, false, List, length, take, Some, None, slice_index_or}
use Rattle.book.specs.Books.{Cl}
use Rattle.book.specs.declared.table.After.{After as Later}
use Rattle.policy.specs.Policies.{Cs}
use Rattle.policy.specs.declared.table.Action.TheVariants.{Violate}
use Rattle.run.specs.Calls.{St, Ended, befores_from, afters_from, met_by, given_before, given_after, call_of}
use Rattle.run.specs.Steps.{Gv, value_under, holds, step_from}
use Rattle.run.specs.declared.answers.Answer.TheVariants.{Done, Denied, Stopped, Refused, Value, NotKept}
use Rattle.run.specs.declared.answers.Answer.{Answer}
use Rattle.run.specs.declared.answers.Mode.TheVariants.{Stopped as STOPPED}
use Rattle.run.specs.declared.answers.Phase.TheVariants.{Before, After}
use Rattle.run.specs.declared.answers.Refusal.TheVariants.{Stopped as RunStopped}
use Rattle.run.specs.declared.answers.Request.TheVariants.{Call, Cell}
use Rattle.run.specs.declared.answers.Request.{Request}
use Rattle.run.specs.declared.answers.Violation.{Violation}
use Rattle.std.specs.List.{AllByRecursion, slice_get}

-- What is left as it was.

-- a request that is denied or refused, and a question, leave mode, cells and plots as they stood
abbrev pub Leaves : St → Ended → Type 0
Leaves s e = elim e.answer [ Done a ↦ Unit {0} | Denied v ↦ e.run ≡ s | Stopped v a ↦ Unit {0} | Refused r ↦ e.run ≡ s | Value v ↦ e.run ≡ s | NotKept ↦ e.run ≡ s ]

-- A stop is final.

-- the answer to a script call is that the run is stopped; a question may be answered
abbrev pub NoCall : Request → Answer → Type 0
NoCall (Call n vs) a = a ≡ Refused RunStopped
NoCall (Cell n) a = Unit {0}

-- a stopped run stays as it is, and takes no script call
abbrev pub Final : St → Request → Ended → Type 0
Final s q e = s.mode ≡ STOPPED → (e.run ≡ s) × NoCall q e.answer

-- Why a violation is reported.

-- clause i violates in a step of operation o that begins with those cells: the clauses before it come to some cells and none of them violates; it applies to the operation; each of its conditions holds of those cells; its action is a violation
pub record Violates (cs : List Cs) (o : ℕ) (g : Gv) (start : List ℕ) (i : ℕ) : Type 0 where
  pub clause : Cs
  pub cells : List ℕ
  pub at : slice_get cs i ≡ Some clause
  pub before : step_from o g 0 (take i cs) start ≡ record { cells = cells; violation = None }
  pub applies : slice_index_or clause.covers o false ≡ true
  pub conditions : AllByRecursion (λ w. holds g cells w ≡ true) clause.whens
  pub action : clause.action ≡ Some Violate

-- a violation among BEFOREs that begin with those cells: the steps before it come to some cells with none, and its clause violates in its step from there
pub record InBefores (cs : List Cs) (g : Gv) (os : List ℕ) (cells : List ℕ) (v : Violation) : Type 0 where
  pub start : List ℕ
  pub phase : v.phase ≡ Before
  pub at : slice_get os v.place ≡ Some v.operation
  pub before : befores_from cs g 0 (take v.place os) cells ≡ record { cells = start; violation = None }
  pub violates : Violates cs v.operation g start v.clause

-- the same among AFTERs, of which its step's condition holds
pub record InAfters (cs : List Cs) (g : Gv) (a : ℕ) (ss : List Later) (cells : List ℕ) (v : Violation) : Type 0 where
  pub start : List ℕ
  pub step : Later
  pub phase : v.phase ≡ After
  pub at : slice_get ss v.place ≡ Some step
  pub operation : step.operation ≡ v.operation
  pub met : met_by step.condition a ≡ true
  pub before : afters_from cs g a 0 (take v.place ss) cells ≡ record { cells = start; violation = None }
  pub violates : Violates cs v.operation g start v.clause

-- a call that is denied has such a violation among its BEFOREs
pub record DeniedBy (s : St) (n : ℕ) (vs : List ℕ) (v : Violation) : Type 0 where
  pub call : Cl
  pub at : slice_get s.table.book.calls n ≡ Some call
  pub why : InBefores s.table.policy.clauses (given_before call vs) call.befores s.cells v

-- a call that stops the run has come through its BEFOREs to some cells, and has such a violation among its AFTERs
pub record StoppedBy (s : St) (n : ℕ) (vs : List ℕ) (v : Violation) (a : ℕ) : Type 0 where
  pub call : Cl
  pub cells : List ℕ
  pub at : slice_get s.table.book.calls n ≡ Some call
  pub through : befores_from s.table.policy.clauses (given_before call vs) 0 call.befores s.cells ≡ record { cells = cells; violation = None }
  pub why : InAfters s.table.policy.clauses (given_after call vs a) a call.afters cells v

-- each violation that a script call reports is one
abbrev pub Reported : St → ℕ → List ℕ → Answer → Type 0
Reported s n vs (Done a) = Unit {0}
Reported s n vs (Denied v) = DeniedBy s n vs v
Reported s n vs (Stopped v a) = StoppedBy s n vs v a
Reported s n vs (Refused r) = Unit {0}
Reported s n vs (Value v) = Unit {0}
Reported s n vs NotKept = Unit {0}

-- Values count through their marks.

-- two lists of as many values, that give each mark of the call of that number the same value
pub record SameMarks (s : St) (n : ℕ) (vs ws : List ℕ) : Type 0 where
  pub count : length vs ≡ length ws
  pub marks : (c : Cl) → slice_get s.table.book.calls n ≡ Some c → (m : ℕ) → value_under c.fields vs m ≡ value_under c.fields ws m

-- such lists come to the same end
abbrev pub ByMarks : St → ℕ → List ℕ → Type 0
ByMarks s n vs = (ws : List ℕ) → SameMarks s n vs ws → call_of s n vs ≡ call_of s n ws
