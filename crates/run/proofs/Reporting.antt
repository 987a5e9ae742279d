-- Why a violation is reported: the clause, the step and the call that it came from.
use Rattle.std.proofs.Common.{◌≡◌, ℕ, suc, ◌+◌, Bool, true, false, cond, eqb, List, [], ◌∷◌, length, get_or, take, Some, None, Option, sym, refl, ap, ◌∙◌, subst, zero-add, arith}
use Rattle.book.specs.Books.{Cl}
use Rattle.book.specs.declared.table.After.{After as Later}
use Rattle.policy.specs.Policies.{Cs}
use Rattle.policy.specs.declared.table.Action.TheVariants.{Violate, Write}
use Rattle.policy.specs.declared.table.Action.{Action}
use Rattle.policy.specs.declared.table.When.{When}
use Rattle.run.specs.Calls.{St, Phased, after_step, befores_from, met_by, afters_from, acted_on, given_before, given_after, by_afters, by_act, by_befores, at_call, called, call_of}
use Rattle.run.specs.Laws.{Violates, InBefores, InAfters, Reported}
use Rattle.run.specs.Steps.{Gv, Stepped, holds, all_hold, acted, violates, acts, step_from}
use Rattle.run.specs.declared.answers.Answer.TheVariants.{Refused}
use Rattle.run.specs.declared.answers.Mode.TheVariants.{Open, Stopped}
use Rattle.run.specs.declared.answers.Mode.{Mode}
use Rattle.run.specs.declared.answers.Phase.TheVariants.{Before, After}
use Rattle.run.specs.declared.answers.Refusal.TheVariants.{WrongCount}
use Rattle.run.specs.declared.answers.Violation.{Violation}
use Rattle.std.proofs.lemmas.Bool.{false≢true, and_parts}
use Rattle.std.specs.List.{AllByRecursion, slice_get}

-- The step.

all_of : (g : Gv) (cells : List ℕ) (ws : List When) → all_hold g cells ws ≡ true → AllByRecursion (λ w. holds g cells w ≡ true) ws
all_of g cells [] e = tt
all_of g cells (w ∷ ws) e = let p = and_parts (holds g cells w) (all_hold g cells ws) e in (p.0, all_of g cells ws p.1)

violate_is : (a : Option Action) → violates a ≡ true → a ≡ Some Violate
violate_is None e = absurd (false≢true e)
violate_is (Some Violate) e = refl
violate_is (Some (Write w k t)) e = absurd (false≢true e)

-- clause j, the clauses counted from i on, violates
record FoundAt (o : ℕ) (g : Gv) (i : ℕ) (cs : List Cs) (start : List ℕ) (j : ℕ) : Type 0 where
  place : ℕ
  is : j ≡ i + place
  clause : Cs
  cells : List ℕ
  at : slice_get cs place ≡ Some clause
  before : step_from o g i (take place cs) start ≡ record { cells = cells; violation = None }
  does : acts o g cells clause ≡ true
  bad : violates clause.action ≡ true

module _ (o : ℕ) (g : Gv) where
  later : (i : ℕ) (c : Cs) (cs : List Cs) (start next : List ℕ) (j : ℕ) → ((ds : List Cs) → step_from o g i (c ∷ ds) start ≡ step_from o g (i + 1) ds next) → FoundAt o g (i + 1) cs next j → FoundAt o g i (c ∷ cs) start j
  later i c cs start next j e f = record { place = suc f.place; is = let w = f.is in omega arith; clause = f.clause; cells = f.cells; at = f.at; before = e (take f.place cs) ∙ f.before; does = f.does; bad = f.bad }

  found : (i : ℕ) (cs : List Cs) (start to : List ℕ) (j : ℕ) → step_from o g i cs start ≡ record { cells = to; violation = Some j } → FoundAt o g i cs start j
  found i [] start to j e = let z = ap (λ (x : Stepped). x.violation) e in cc
  found i (c ∷ cs) start to j e = at (acts o g start c) (violates c.action) refl refl e (found (i + 1) cs start to j) (found (i + 1) cs (acted g start c.action) to j)
    where
      at : (a v : Bool) → acts o g start c ≡ a → violates c.action ≡ v → cond a (cond v (record { cells = start; violation = Some i }) (step_from o g (i + 1) cs (acted g start c.action))) (step_from o g (i + 1) cs start) ≡ record { cells = to; violation = Some j } → (step_from o g (i + 1) cs start ≡ record { cells = to; violation = Some j } → FoundAt o g (i + 1) cs start j) → (step_from o g (i + 1) cs (acted g start c.action) ≡ record { cells = to; violation = Some j } → FoundAt o g (i + 1) cs (acted g start c.action) j) → FoundAt o g i (c ∷ cs) start j
      at true true p q h skip go = let z = ap (λ (x : Stepped). x.violation) h in let y : i ≡ j = cc in record { place = 0; is = omega arith; clause = c; cells = start; at = refl; before = refl; does = p; bad = q }
      at true false p q h skip go = later i c cs start (acted g start c.action) j (λ ds. cc (p, q)) (go h)
      at false v p q h skip go = later i c cs start start j (λ ds. cc p) (skip h)

  pub violation_is : (cs : List Cs) (start to : List ℕ) (j : ℕ) → step_from o g 0 cs start ≡ record { cells = to; violation = Some j } → Violates cs o g start j
  violation_is cs start to j e =
      let f = found 0 cs start to j e in
      let is : f.place ≡ j = sym (f.is ∙ zero-add f.place) in
      let p = and_parts (get_or f.clause.covers o false) (all_hold g f.cells f.clause.whens) f.does in
      record {
        clause = f.clause;
        cells = f.cells;
        at = subst (λ (k : ℕ). slice_get cs k ≡ Some f.clause) is f.at;
        before = subst (λ (k : ℕ). step_from o g 0 (take k cs) start ≡ record { cells = f.cells; violation = None }) is f.before;
        applies = p.0;
        conditions = all_of g f.cells f.clause.whens p.1;
        action = violate_is f.clause.action f.bad;
      }

-- The phases.

-- the violation v came in the BEFORE of that index, the places counted from k on
record BeforeAt (cs : List Cs) (g : Gv) (k : ℕ) (os : List ℕ) (cells : List ℕ) (v : Violation) : Type 0 where
  index : ℕ
  start : List ℕ
  is : v.place ≡ k + index
  phase : v.phase ≡ Before
  at : slice_get os index ≡ Some v.operation
  before : befores_from cs g k (take index os) cells ≡ record { cells = start; violation = None }
  violates : Violates cs v.operation g start v.clause

module _ (cs : List Cs) (g : Gv) where
  before_found : (k : ℕ) (os : List ℕ) (cells to : List ℕ) (v : Violation) → befores_from cs g k os cells ≡ record { cells = to; violation = Some v } → BeforeAt cs g k os cells v
  before_found k [] cells to v e = let z = ap (λ (x : Phased). x.violation) e in cc
  before_found k (o ∷ os) cells to v e = at (step_from o g 0 cs cells) refl e (λ next h. before_found (k + 1) os next to v h)
    where
      go_on : (next : List ℕ) → step_from o g 0 cs cells ≡ record { cells = next; violation = None } → BeforeAt cs g (k + 1) os next v → BeforeAt cs g k (o ∷ os) cells v
      go_on next s f = record { index = suc f.index; start = f.start; is = let w = f.is in omega arith; phase = f.phase; at = f.at; before = cc (s, f.before); violates = f.violates }

      at : (x : Stepped) → step_from o g 0 cs cells ≡ x → after_step Before k o x (befores_from cs g (k + 1) os) ≡ record { cells = to; violation = Some v } → ((next : List ℕ) → befores_from cs g (k + 1) os next ≡ record { cells = to; violation = Some v } → BeforeAt cs g (k + 1) os next v) → BeforeAt cs g k (o ∷ os) cells v
      at x s h go = by x.violation refl h
        where
          by : (w : Option ℕ) → x.violation ≡ w → after_step Before k o (record { cells = x.cells; violation = w }) (befores_from cs g (k + 1) os) ≡ record { cells = to; violation = Some v } → BeforeAt cs g k (o ∷ os) cells v
          by None q h = go_on x.cells (s ∙ ap (λ (w : Option ℕ). record { cells = x.cells; violation = w }) q) (go x.cells h)
          by (Some i) q h =
              let z : Some (record { phase = Before; place = k; operation = o; clause = i }) ≡ Some v = ap (λ (y : Phased). y.violation) h in
              let is : record { phase = Before; place = k; operation = o; clause = i } ≡ v = cc in
              subst (BeforeAt cs g k (o ∷ os) cells) is (record { index = 0; start = cells; is = omega arith; phase = refl; at = refl; before = refl; violates = violation_is o g cs cells x.cells i (s ∙ ap (λ (w : Option ℕ). record { cells = x.cells; violation = w }) q) })

  pub before_why : (os : List ℕ) (cells to : List ℕ) (v : Violation) → befores_from cs g 0 os cells ≡ record { cells = to; violation = Some v } → InBefores cs g os cells v
  before_why os cells to v e =
      let f = before_found 0 os cells to v e in
      let is : f.index ≡ v.place = sym (f.is ∙ zero-add f.index) in
      record {
        start = f.start;
        phase = f.phase;
        at = subst (λ (k : ℕ). slice_get os k ≡ Some v.operation) is f.at;
        before = subst (λ (k : ℕ). befores_from cs g 0 (take k os) cells ≡ record { cells = f.start; violation = None }) is f.before;
        violates = f.violates;
      }

-- the violation v came in the AFTER of that index, the places counted from k on
record AfterAt (cs : List Cs) (g : Gv) (a k : ℕ) (ss : List Later) (cells : List ℕ) (v : Violation) : Type 0 where
  index : ℕ
  start : List ℕ
  step : Later
  is : v.place ≡ k + index
  phase : v.phase ≡ After
  at : slice_get ss index ≡ Some step
  operation : step.operation ≡ v.operation
  met : met_by step.condition a ≡ true
  before : afters_from cs g a k (take index ss) cells ≡ record { cells = start; violation = None }
  violates : Violates cs v.operation g start v.clause

module _ (cs : List Cs) (g : Gv) (a : ℕ) where
  after_found : (k : ℕ) (ss : List Later) (cells to : List ℕ) (v : Violation) → afters_from cs g a k ss cells ≡ record { cells = to; violation = Some v } → AfterAt cs g a k ss cells v
  after_found k [] cells to v e = let z = ap (λ (x : Phased). x.violation) e in cc
  after_found k (s ∷ ss) cells to v e = at (met_by s.condition a) (step_from s.operation g 0 cs cells) refl refl e (λ next h. after_found (k + 1) ss next to v h)
    where
      go_on : (next : List ℕ) → ((rs : List Later) → afters_from cs g a k (s ∷ rs) cells ≡ afters_from cs g a (k + 1) rs next) → AfterAt cs g a (k + 1) ss next v → AfterAt cs g a k (s ∷ ss) cells v
      go_on next e f = record { index = suc f.index; start = f.start; step = f.step; is = let w = f.is in omega arith; phase = f.phase; at = f.at; operation = f.operation; met = f.met; before = e (take f.index ss) ∙ f.before; violates = f.violates }

      at : (b : Bool) (x : Stepped) → met_by s.condition a ≡ b → step_from s.operation g 0 cs cells ≡ x → cond b (after_step After k s.operation x (afters_from cs g a (k + 1) ss)) (afters_from cs g a (k + 1) ss cells) ≡ record { cells = to; violation = Some v } → ((next : List ℕ) → afters_from cs g a (k + 1) ss next ≡ record { cells = to; violation = Some v } → AfterAt cs g a (k + 1) ss next v) → AfterAt cs g a k (s ∷ ss) cells v
      at false x m t h go = go_on cells (λ rs. ap (λ (b : Bool). cond b (after_step After k s.operation (step_from s.operation g 0 cs cells) (afters_from cs g a (k + 1) rs)) (afters_from cs g a (k + 1) rs cells)) m) (go cells h)
      at true x m t h go = by x.violation refl h
        where
          by : (w : Option ℕ) → x.violation ≡ w → after_step After k s.operation (record { cells = x.cells; violation = w }) (afters_from cs g a (k + 1) ss) ≡ record { cells = to; violation = Some v } → AfterAt cs g a k (s ∷ ss) cells v
          by None q h =
              go_on x.cells
              (λ rs.
              ap (λ (b : Bool). cond b (after_step After k s.operation (step_from s.operation g 0 cs cells) (afters_from cs g a (k + 1) rs)) (afters_from cs g a (k + 1) rs cells)) m
              ∙ ap (λ (y : Stepped). after_step After k s.operation y (afters_from cs g a (k + 1) rs)) (t ∙ ap (λ (w : Option ℕ). record { cells = x.cells; violation = w }) q))
              (go x.cells h)
          by (Some i) q h =
              let z : Some (record { phase = After; place = k; operation = s.operation; clause = i }) ≡ Some v = ap (λ (y : Phased). y.violation) h in
              let is : record { phase = After; place = k; operation = s.operation; clause = i } ≡ v = cc in
              subst (AfterAt cs g a k (s ∷ ss) cells) is (record { index = 0; start = cells; step = s; is = omega arith; phase = refl; at = refl; operation = refl; met = m; before = refl; violates = violation_is s.operation g cs cells x.cells i (t ∙ ap (λ (w : Option ℕ). record { cells = x.cells; violation = w }) q) })

  pub after_why : (ss : List Later) (cells to : List ℕ) (v : Violation) → afters_from cs g a 0 ss cells ≡ record { cells = to; violation = Some v } → InAfters cs g a ss cells v
  after_why ss cells to v e =
      let f = after_found 0 ss cells to v e in
      let is : f.index ≡ v.place = sym (f.is ∙ zero-add f.index) in
      record {
        start = f.start;
        step = f.step;
        phase = f.phase;
        at = subst (λ (k : ℕ). slice_get ss k ≡ Some f.step) is f.at;
        operation = f.operation;
        met = f.met;
        before = subst (λ (k : ℕ). afters_from cs g a 0 (take k ss) cells ≡ record { cells = f.start; violation = None }) is f.before;
        violates = f.violates;
      }

-- The call.

module _ (s : St) (n : ℕ) (vs : List ℕ) where
  abbrev clauses : List Cs
  clauses = s.table.policy.clauses

  module _ (c : Cl) (at : slice_get s.table.book.calls n ≡ Some c) where
    ends : (cells : List ℕ) → befores_from clauses (given_before c vs) 0 c.befores s.cells ≡ record { cells = cells; violation = None } → (a : ℕ) (plots : List ℕ) (x : Phased) → afters_from clauses (given_after c vs a) a 0 c.afters cells ≡ x → Reported s n vs (by_afters s a plots x).answer
    ends cells through a plots x is = by x.violation refl
      where
        by : (w : Option Violation) → x.violation ≡ w → Reported s n vs (by_afters s a plots (record { cells = x.cells; violation = w })).answer
        by None q = tt
        by (Some v) q = record { call = c; cells = cells; at = at; through = through; why = after_why clauses (given_after c vs a) a c.afters cells x.cells v (is ∙ ap (λ (w : Option Violation). record { cells = x.cells; violation = w }) q) }

    acting : (cells : List ℕ) → befores_from clauses (given_before c vs) 0 c.befores s.cells ≡ record { cells = cells; violation = None } → (o : Option (ℕ × List ℕ)) → Reported s n vs (by_act s c vs cells o).answer
    acting cells through None = tt
    acting cells through (Some x) = ends cells through x.0 x.1 (afters_from clauses (given_after c vs x.0) x.0 0 c.afters cells) refl

    trying : (x : Phased) → befores_from clauses (given_before c vs) 0 c.befores s.cells ≡ x → Reported s n vs (by_befores s c vs x).answer
    trying x is = by x.violation refl
      where
        by : (w : Option Violation) → x.violation ≡ w → Reported s n vs (by_befores s c vs (record { cells = x.cells; violation = w })).answer
        by None q = acting x.cells (is ∙ ap (λ (w : Option Violation). record { cells = x.cells; violation = w }) q) (acted_on c.act (given_before c vs) s.plots)
        by (Some v) q = record { call = c; at = at; why = before_why clauses (given_before c vs) c.befores s.cells x.cells v (is ∙ ap (λ (w : Option Violation). record { cells = x.cells; violation = w }) q) }

    counting : (b : Bool) → Reported s n vs (cond b (by_befores s c vs (befores_from clauses (given_before c vs) 0 c.befores s.cells)) (record { answer = Refused WrongCount; run = s })).answer
    counting true = trying (befores_from clauses (given_before c vs) 0 c.befores s.cells) refl
    counting false = tt

  finding : (o : Option Cl) → slice_get s.table.book.calls n ≡ o → Reported s n vs (at_call s vs o).answer
  finding None e = tt
  finding (Some c) e = counting c e (eqb (length vs) (length c.fields))

  calling : (m : Mode) → Reported s n vs (called m s n vs).answer
  calling Stopped = tt
  calling Open = finding (slice_get s.table.book.calls n) refl

  -- each violation that a script call reports is one
  pub reported : Reported s n vs (call_of s n vs).answer
  reported = calling s.mode
