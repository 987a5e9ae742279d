-- Values that give each mark the same value come to the same end.
use Rattle.std.proofs.Common.{◌≡◌, ℕ, ◌+◌, cond, List, [], ◌∷◌, length, Some, None, Option, refl, ap, ◌∙◌}
use Rattle.book.specs.Books.{Cl}
use Rattle.book.specs.declared.table.Act.TheVariants.{Look, Put}
use Rattle.book.specs.declared.table.Act.{Act}
use Rattle.book.specs.declared.table.After.{After as Later}
use Rattle.policy.specs.Policies.{Cs}
use Rattle.policy.specs.declared.table.Action.TheVariants.{Violate, Write}
use Rattle.policy.specs.declared.table.Action.{Action}
use Rattle.policy.specs.declared.table.Term.TheVariants.{Number, Field, Cell}
use Rattle.policy.specs.declared.table.Term.{Term}
use Rattle.policy.specs.declared.table.When.{When}
use Rattle.run.specs.Calls.{St, Phased, after_step, befores_from, met_by, afters_from, acted_on, given_before, given_after, by_act, by_befores, of_call, at_call, called, call_of}
use Rattle.run.specs.Laws.{SameMarks}
use Rattle.run.specs.Steps.{Gv, Stepped, value_under, fetched, term_value, holds, all_hold, acted, step_from}
use Rattle.run.specs.declared.answers.Mode.TheVariants.{Open, Stopped}
use Rattle.run.specs.declared.answers.Mode.{Mode}
use Rattle.run.specs.declared.answers.Phase.TheVariants.{Before, After}
use Rattle.run.specs.declared.answers.Phase.{Phase}
use Rattle.run.specs.declared.answers.Violation.{Violation}
use Rattle.std.specs.List.{slice_get}

-- two fillings that fill each mark alike
abbrev pub Alike : Gv → Gv → Type 0
Alike g h = (m : ℕ) → fetched g m ≡ fetched h m

module _ (g h : Gv) (same : Alike g h) where
  terms : (cells : List ℕ) (t : Term) → term_value g cells t ≡ term_value h cells t
  terms cells (Number n) = refl
  terms cells (Field m) = same m
  terms cells (Cell k) = refl

  one : (cells : List ℕ) (w : When) → holds g cells w ≡ holds h cells w
  one cells w = cc (terms cells w.left, terms cells w.right)

  all : (cells : List ℕ) (ws : List When) → all_hold g cells ws ≡ all_hold h cells ws
  all cells [] = refl
  all cells (w ∷ ws) = cc (one cells w, all cells ws)

  act : (cells : List ℕ) (a : Option Action) → acted g cells a ≡ acted h cells a
  act cells None = refl
  act cells (Some Violate) = refl
  act cells (Some (Write w k t)) = cc (terms cells t)

  pub steps : (o i : ℕ) (cs : List Cs) (cells : List ℕ) → step_from o g i cs cells ≡ step_from o h i cs cells
  steps o i [] cells = refl
  steps o i (c ∷ cs) cells = cc (all cells c.whens, act cells c.action, steps o (i + 1) cs (acted h cells c.action), steps o (i + 1) cs cells)

  pub plot_same : (a : Option Act) (plots : List ℕ) → acted_on a g plots ≡ acted_on a h plots
  plot_same None plots = refl
  plot_same (Some Look) plots = cc (same 1)
  plot_same (Some Put) plots = cc (same 1, same 2)

  goes_same : (phase : Phase) (o place : ℕ) (s : Stepped) (f k : List ℕ → Phased) → ((cells : List ℕ) → f cells ≡ k cells) → after_step phase place o s f ≡ after_step phase place o s k
  goes_same phase o place s f k e = at s.violation
    where
      at : (v : Option ℕ) → after_step phase place o (record { cells = s.cells; violation = v }) f ≡ after_step phase place o (record { cells = s.cells; violation = v }) k
      at None = e s.cells
      at (Some i) = refl

  pub befores_same : (cs : List Cs) (place : ℕ) (os : List ℕ) (cells : List ℕ) → befores_from cs g place os cells ≡ befores_from cs h place os cells
  befores_same cs place [] cells = refl
  befores_same cs place (o ∷ os) cells = cc (steps o 0 cs cells, goes_same Before o place (step_from o h 0 cs cells) (befores_from cs g (place + 1) os) (befores_from cs h (place + 1) os) (befores_same cs (place + 1) os))

  pub afters_same : (cs : List Cs) (a place : ℕ) (ss : List Later) (cells : List ℕ) → afters_from cs g a place ss cells ≡ afters_from cs h a place ss cells
  afters_same cs a place [] cells = refl
  afters_same cs a place (s ∷ ss) cells =
      ap (λ (x : Phased). cond (met_by s.condition a) x (afters_from cs g a (place + 1) ss cells)) (ap (λ (x : Stepped). after_step After place s.operation x (afters_from cs g a (place + 1) ss)) (steps s.operation 0 cs cells) ∙ goes_same After s.operation place (step_from s.operation h 0 cs cells) (afters_from cs g a (place + 1) ss) (afters_from cs h a (place + 1) ss) (afters_same cs a (place + 1) ss))
      ∙ ap (cond (met_by s.condition a) (after_step After place s.operation (step_from s.operation h 0 cs cells) (afters_from cs h a (place + 1) ss))) (afters_same cs a (place + 1) ss cells)

module _ (s : St) (c : Cl) (vs ws : List ℕ) (values : (m : ℕ) → value_under c.fields vs m ≡ value_under c.fields ws m) where
  before_alike : Alike (given_before c vs) (given_before c ws)
  before_alike m = values m

  after_alike : (a : ℕ) → Alike (given_after c vs a) (given_after c ws a)
  after_alike a m = cc (values m)

  acts_same : (cells : List ℕ) (o : Option (ℕ × List ℕ)) → by_act s c vs cells o ≡ by_act s c ws cells o
  acts_same cells None = refl
  acts_same cells (Some x) = cc (afters_same (given_after c vs x.0) (given_after c ws x.0) (after_alike x.0) s.table.policy.clauses x.0 0 c.afters cells)

  tried_same : (x : Phased) → by_befores s c vs x ≡ by_befores s c ws x
  tried_same x = at x.violation
    where
      at : (v : Option Violation) → by_befores s c vs (record { cells = x.cells; violation = v }) ≡ by_befores s c ws (record { cells = x.cells; violation = v })
      at None = cc (plot_same (given_before c vs) (given_before c ws) before_alike c.act s.plots, acts_same x.cells (acted_on c.act (given_before c ws) s.plots))
      at (Some v) = refl

  call_same : length vs ≡ length ws → of_call s vs c ≡ of_call s ws c
  call_same count = cc (count, befores_same (given_before c vs) (given_before c ws) before_alike s.table.policy.clauses 0 c.befores s.cells, tried_same (befores_from s.table.policy.clauses (given_before c ws) 0 c.befores s.cells))

-- lists of values with the same marks come to the same end
pub by_marks : (s : St) (n : ℕ) (vs ws : List ℕ) → SameMarks s n vs ws → call_of s n vs ≡ call_of s n ws
by_marks s n vs ws same = in_mode s.mode
  where
    at_call_is : (o : Option Cl) → slice_get s.table.book.calls n ≡ o → at_call s vs o ≡ at_call s ws o
    at_call_is None e = refl
    at_call_is (Some c) e = call_same s c vs ws (same.marks c e) same.count

    in_mode : (m : Mode) → called m s n vs ≡ called m s n ws
    in_mode Stopped = refl
    in_mode Open = at_call_is (slice_get s.table.book.calls n) refl
