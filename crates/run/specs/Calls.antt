-- What a script call and a question about a cell come to.
use Rattle.std.specs.Prelude.{ℕ, ◌+◌, Bool, true, cond, not, List, [], ◌∷◌, length, Some, None, Ok, Err, Option, Result, ◌==◌}
use Rattle.book.specs.Books.{Cl}
use Rattle.book.specs.declared.table.Act.TheVariants.{Look, Put}
use Rattle.book.specs.declared.table.Act.{Act}
use Rattle.book.specs.declared.table.After.{After as Later}
use Rattle.book.specs.declared.table.Condition.TheVariants.{Always, NotZero, Zero}
use Rattle.book.specs.declared.table.Condition.{Condition}
use Rattle.policy.specs.Meaning.{Tb}
use Rattle.policy.specs.Policies.{Cs}
use Rattle.register.specs.Plots.{entry_at, with_entry}
use Rattle.run.specs.Steps.{Gv, Stepped, fetched, step_from}
use Rattle.run.specs.declared.answers.Answer.TheVariants.{Done, Denied, Stopped, Refused}
use Rattle.run.specs.declared.answers.Answer.{Answer}
use Rattle.run.specs.declared.answers.Mode.TheVariants.{Open, Stopped as STOPPED}
use Rattle.run.specs.declared.answers.Mode.{Mode}
use Rattle.run.specs.declared.answers.Phase.TheVariants.{Before, After}
use Rattle.run.specs.declared.answers.Phase.{Phase}
use Rattle.run.specs.declared.answers.Refusal.TheVariants.{Stopped as RunStopped, NoSuchCall, WrongCount, NoSuchPlot}
use Rattle.run.specs.declared.answers.Refusal.{Refusal}
use Rattle.run.specs.declared.answers.Violation.{Violation}
use Rattle.std.specs.List.{slice_get}

-- The steps of a call.

-- what the steps of one phase come to: the cells, and the violation, where there is one
pub record Phased : Type 0 where
  pub cells : List ℕ
  pub violation : Option Violation

-- after a step: where a clause violated, the violation of that phase, place, operation and clause; else the rest goes on
abbrev pub after_step : Phase → ℕ → ℕ → Stepped → (List ℕ → Phased) → Phased
after_step phase place o s go = elim s.violation [ None ↦ go s.cells | Some i ↦ record { cells = s.cells; violation = Some (record { phase = phase; place = place; operation = o; clause = i }) } ]

-- the BEFOREs from a place on, under those clauses
abbrev pub befores_from : List Cs → Gv → ℕ → List ℕ → List ℕ → Phased
befores_from cs g place [] cells = record { cells = cells; violation = None }
befores_from cs g place (o ∷ os) cells = after_step Before place o (step_from o g 0 cs cells) (befores_from cs g (place + 1) os)

-- the condition of an AFTER holds of the register's answer
abbrev pub met_by : Condition → ℕ → Bool
met_by Always a = true
met_by NotZero a = not (a == 0)
met_by Zero a = a == 0

-- the AFTERs from a place on, of which those run whose condition holds
abbrev pub afters_from : List Cs → Gv → ℕ → ℕ → List Later → List ℕ → Phased
afters_from cs g a place [] cells = record { cells = cells; violation = None }
afters_from cs g a place (s ∷ ss) cells =
    cond (met_by s.condition a)
    (after_step After place s.operation (step_from s.operation g 0 cs cells) (afters_from cs g a (place + 1) ss))
    (afters_from cs g a (place + 1) ss cells)

-- the BEFOREs under trial: the cells then, and the violation, where there is one
pub record Tried : Type 0 where
  pub cells : List ℕ
  pub result : Result (Unit {0}) Violation

-- a violation puts the cells back to what they held at the start
abbrev pub tried_of : List ℕ → Phased → Tried
tried_of start x = elim x.violation [ None ↦ record { cells = x.cells; result = Ok tt } | Some v ↦ record { cells = start; result = Err v } ]

-- The act.

-- a look: the entry, and the plots as they are
abbrev pub looked_at : List ℕ → ℕ → Option (ℕ × List ℕ)
looked_at plots p = elim (entry_at plots p) [ None ↦ None | Some e ↦ Some (e, plots) ]

-- a put: the entry that stood there, and the plots then
abbrev pub put_into : List ℕ → ℕ → ℕ → Option (ℕ × List ℕ)
put_into plots p v = elim (entry_at plots p) [ None ↦ None | Some e ↦ Some (e, with_entry plots p v) ]

-- what the register answers and its plots then, or nothing where it refuses: a look takes its plot from field 1, a put its plot and its entry from fields 1 and 2, and without an act the answer is 0
abbrev pub acted_on : Option Act → Gv → List ℕ → Option (ℕ × List ℕ)
acted_on None g plots = Some (0, plots)
acted_on (Some Look) g plots = looked_at plots (fetched g 1)
acted_on (Some Put) g plots = put_into plots (fetched g 1) (fetched g 2)

-- The call.

-- a run: its table, its mode, its cells and the plots of its register
pub record St : Type 0 where
  pub table : Tb
  pub mode : Mode
  pub cells : List ℕ
  pub plots : List ℕ

-- what a request comes to: the answer, and the run then
pub record Ended : Type 0 where
  pub answer : Answer
  pub run : St

-- the run with other cells and plots
abbrev pub moved : St → List ℕ → List ℕ → Mode → St
moved s cells plots mode = record { table = s.table; mode = mode; cells = cells; plots = plots }

-- what fills the marks before the act
abbrev pub given_before : Cl → List ℕ → Gv
given_before c vs = record { fields = c.fields; values = vs; answer = None }

-- what fills the marks after the act
abbrev pub given_after : Cl → List ℕ → ℕ → Gv
given_after c vs a = record { fields = c.fields; values = vs; answer = Some a }

-- after the AFTERs: done, or stopped by a violation; cells and plots keep what they have
abbrev pub by_afters : St → ℕ → List ℕ → Phased → Ended
by_afters s a plots x = elim x.violation [ None ↦ record { answer = Done a; run = moved s x.cells plots s.mode } | Some v ↦ record { answer = Stopped v a; run = moved s x.cells plots STOPPED } ]

-- after the act: refused where the register refused, and nothing has changed; else the AFTERs run
abbrev pub by_act : St → Cl → List ℕ → List ℕ → Option (ℕ × List ℕ) → Ended
by_act s c vs cells None = record { answer = Refused NoSuchPlot; run = s }
by_act s c vs cells (Some x) = by_afters s x.0 x.1 (afters_from s.table.policy.clauses (given_after c vs x.0) x.0 0 c.afters cells)

-- after the BEFOREs: denied by a violation, and nothing has changed; else the act
abbrev pub by_befores : St → Cl → List ℕ → Phased → Ended
by_befores s c vs x = elim x.violation [ None ↦ by_act s c vs x.cells (acted_on c.act (given_before c vs) s.plots) | Some v ↦ record { answer = Denied v; run = s } ]

-- the call where there is one that takes as many values, or why there is none
abbrev pub call_for : List ℕ → Option Cl → Result Cl Refusal
call_for vs None = Err NoSuchCall
call_for vs (Some c) = cond (length vs == length c.fields) (Ok c) (Err WrongCount)

-- a call that there is: refused where the count of values is not the count of fields
abbrev pub of_call : St → List ℕ → Cl → Ended
of_call s vs c = cond (length vs == length c.fields) (by_befores s c vs (befores_from s.table.policy.clauses (given_before c vs) 0 c.befores s.cells)) (record { answer = Refused WrongCount; run = s })

-- the call of a number, where there is one
abbrev pub at_call : St → List ℕ → Option Cl → Ended
at_call s vs None = record { answer = Refused NoSuchCall; run = s }
at_call s vs (Some c) = of_call s vs c

-- a script call: a stopped run refuses it
abbrev pub called : Mode → St → ℕ → List ℕ → Ended
called STOPPED s n vs = record { answer = Refused RunStopped; run = s }
called Open s n vs = at_call s vs (slice_get s.table.book.calls n)

-- a script call of a run
abbrev pub call_of : St → ℕ → List ℕ → Ended
call_of s n vs = called s.mode s n vs
