-- A run in memory, over a register of any make, and what a request of it comes to.
use Rattle.std.specs.Prelude.{ℕ, List, Some, None, Ok, Err, Option, Result}
use Rattle.policy.specs.Meaning.{Tb, table_of}
use Rattle.run.specs.Calls.{St, Ended, call_of}
use Rattle.run.specs.Cells.{cells_of}
use Rattle.run.specs.declared.answers.Answer.TheVariants.{Refused, Value, NotKept}
use Rattle.run.specs.declared.answers.Answer.{Answer}
use Rattle.run.specs.declared.answers.Mode.TheVariants.{Open}
use Rattle.run.specs.declared.answers.Refusal.TheVariants.{NoSuchCell}
use Rattle.run.specs.declared.answers.Refusal.{Refusal}
use Rattle.run.specs.declared.answers.Request.TheVariants.{Call, Cell}
use Rattle.run.specs.declared.answers.Request.{Request}
use Rattle.run.specs.declared.run.Run.{Run}
use Rattle.std.specs.List.{slice_get}

-- a run, over a register that means those plots
abbrev pub state_of : {R : Type 0} → (R → List ℕ) → Run R → St
state_of plots r = record { table = table_of r.table; mode = r.mode; cells = cells_of r.held.cells; plots = plots r.register }

-- a run as it opens: with the cells' first values
abbrev pub opened : Tb → List ℕ → St
opened t plots = record { table = t; mode = Open; cells = t.policy.cells; plots = plots }

-- the value of a cell, or that there is no such cell
abbrev pub cell_of : St → ℕ → Result (Option ℕ) Refusal
cell_of s n = elim (slice_get s.cells n) [ None ↦ Err NoSuchCell | Some v ↦ Ok (Some v) ]

-- the answer to a question about a cell
abbrev pub cell_answer : Result (Option ℕ) Refusal → Answer
cell_answer (Ok (Some v)) = Value v
cell_answer (Ok None) = NotKept
cell_answer (Err e) = Refused e

-- what a request comes to: a question changes nothing
abbrev pub answer_of : St → Request → Ended
answer_of s (Call n vs) = call_of s n vs.now
answer_of s (Cell n) = record { answer = cell_answer (cell_of s n); run = s }
