-- The marking: what each clause that is marked keeps, and what stands when none is due.
use Rattle.std.proofs.Common.{◌≡◌, ℕ, zero, suc, ◌<◌, ◌≤◌, Bool, true, false, cond, not, List, [], length, get_or, is_some, Some, None, Decides, Option, sym, refl, ap, ◌∙◌, subst, ⊎_elim, zero-add, arith}
use Rattle.book.specs.Books.{or_else}
use Rattle.policy.specs.Policies.{Cs, Po}
use Rattle.policy.specs.declared.table.Action.TheVariants.{Violate, Write}
use Rattle.policy.specs.declared.table.Action.{Action}
use Rattle.policy.specs.declared.table.Term.TheVariants.{Cell}
use Rattle.policy.specs.declared.table.Term.{Term}
use Rattle.pruning.proofs.Firsts.{first_some, first_none}
use Rattle.pruning.proofs.Flags.{flag_set, down, down_set, down_none, none_up}
use Rattle.pruning.proofs.Noting.{noted_all_length, noted_back, noted_kept, noted_new}
use Rattle.pruning.specs.Marking.{Marked, reason_of, due, next_of, terms_at, marked_at, turned, marked_from, no_marks, marks_of}
use Rattle.pruning.specs.Reasons.{why_of}
use Rattle.pruning.specs.Rules.MeaningfulCell.{by_reading}
use Rattle.pruning.specs.Rules.MeaningfulClause.{by_violation, by_write}
use Rattle.pruning.specs.Rules.{ClauseAt, written_by, Reads, Obeys, MeaningfulClause, MeaningfulCell, terms_of}
use Rattle.pruning.specs.declared.marks.Marks.{Marks}
use Rattle.pruning.specs.declared.marks.Reason.TheVariants.{Writes as WRITES}
use Rattle.pruning.specs.declared.marks.Reason.{Reason}
use Rattle.std.proofs.lemmas.List.{length-set, length-replicate}
use Rattle.std.proofs.lemmas.Option.{slice_get_within}
use Rattle.std.proofs.lemmas.Bool.{false≢true, and_parts, and_from, not-true, not_from_false, cases_Bool}
use Rattle.std.specs.List.{ContainsAt as Among, slice_get}

-- marks so far: what is marked is meaningful, and what a marked clause reads is marked
pub record Kept (p : Po) (m : Marks) : Type 0 where
  pub clauses_long : length m.clauses ≡ 256
  pub cells_long : length m.cells ≡ 128
  pub clauses_mean : (i : ℕ) → Marked m.clauses i → MeaningfulClause p i
  pub cells_mean : (d : ℕ) → Marked m.cells d → MeaningfulCell p d
  pub read : (i d : ℕ) (c : Cs) → ClauseAt p i c → Marked m.clauses i → Reads p c d → Marked m.cells d

-- no clause is due
abbrev pub Settled : Po → Marks → Type 0
Settled p m = next_of p m ≡ None

-- a reason is a violation or a write of a marked cell
reason_means : (p : Po) (m : Marks) → Kept p m → (i : ℕ) (c : Cs) → ClauseAt p i c → (a : Option Action) → c.action ≡ a → is_some (reason_of a m.cells) ≡ true → MeaningfulClause p i
reason_means p m k i c at None e h = absurd (false≢true h)
reason_means p m k i c at (Some Violate) e h = by_violation c at e
reason_means p m k i c at (Some (Write w d t)) e h = cell (get_or m.cells d false) refl h
  where
    cell : (b : Bool) → get_or m.cells d false ≡ b → is_some (cond b (Some (WRITES d)) None) ≡ true → MeaningfulClause p i
    cell true q r = by_write d c at (ap written_by e) (k.cells_mean d q)
    cell false q r = absurd (false≢true r)

-- what a due clause is
pub record DueAt (p : Po) (m : Marks) (i : ℕ) : Type 0 where
  pub clause : Cs
  pub at : ClauseAt p i clause
  pub down_yet : get_or m.clauses i false ≡ false
  pub reason : is_some (reason_of clause.action m.cells) ≡ true

pub next_due : (p : Po) (m : Marks) (i : ℕ) → next_of p m ≡ Some i → DueAt p m i
next_due p m i e =
    let f = first_some (λ j c. due j c m) 0 p.clauses i e in
    let s : i ≡ f.place = f.is ∙ zero-add f.place in
    let q = f.passes in
    let both = and_parts (not (get_or m.clauses i false)) (is_some (reason_of q.0.action m.cells)) (subst (λ (j : ℕ). due j q.0 m ≡ true) (sym f.is) q.2) in
    record { clause = q.0; at = subst (λ (j : ℕ). ClauseAt p j q.0) (sym s) q.1; down_yet = not-true _ both.0; reason = both.1 }

-- where no clause is due, each with a reason is marked
pub settled_marked : (p : Po) (m : Marks) → Settled p m → (i : ℕ) (c : Cs) → ClauseAt p i c → is_some (reason_of c.action m.cells) ≡ true → Marked m.clauses i
settled_marked p m s i c at r =
    ⊎_elim (λ y. y) (λ n. absurd (first_none (λ j c. due j c m) 0 p.clauses s i (c, at, subst (λ (j : ℕ). due j c m ≡ true) (sym (zero-add i)) (and_from _ _ (not_from_false _ n) r)))) (cases_Bool (get_or m.clauses i false))

module _ (p : Po) (few_clauses : length p.clauses ≤ 256) (few_cells : length p.cells ≤ 128) where
  within : (m : Marks) → length m.clauses ≡ 256 → (i : ℕ) → DueAt p m i → i < length m.clauses
  within m long i d = let l = slice_get_within p.clauses i d.clause d.at in omega arith

  -- one clause fewer is down
  pub falls : (m : Marks) → length m.clauses ≡ 256 → (i : ℕ) → next_of p m ≡ Some i → down m.clauses ≡ suc (down (marked_at p i m).clauses)
  falls m long i e = let d = next_due p m i e in down_set m.clauses i (within m long i d) d.down_yet

  terms_are : (i : ℕ) (c : Cs) → ClauseAt p i c → terms_at p i ≡ terms_of c
  terms_are i c at = ap (or_else [] terms_of) at

  -- a due clause may be marked, with the cells in its terms
  pub kept_more : (m : Marks) (i : ℕ) → Kept p m → next_of p m ≡ Some i → Kept p (marked_at p i m)
  kept_more m i k e =
      let d = next_due p m i e in
      let n = length p.cells in
      let ts = terms_at p i in
      let room : n ≤ length m.cells = let l = k.cells_long in omega arith in
      let means : MeaningfulClause p i = reason_means p m k i d.clause d.at d.clause.action refl d.reason in
      let same = terms_are i d.clause d.at in
      record {
        clauses_long = length-set m.clauses i true ∙ k.clauses_long;
        cells_long = noted_all_length n ts m.cells ∙ k.cells_long;
        clauses_mean = λ j h. ⊎_elim (λ q. subst (MeaningfulClause p) (sym q) means) (k.clauses_mean j) (flag_set m.clauses i j h);
        cells_mean = λ x h. ⊎_elim (k.cells_mean x) (λ r. by_reading i d.clause d.at means (r.0, subst (λ (l : List Term). Among l (Cell x)) same r.1)) (noted_back n ts m.cells x h);
        read = λ j x c at h r. ⊎_elim (λ q. noted_new n ts m.cells x room (r.0, subst (λ (l : List Term). Among l (Cell x)) (sym (terms_are i c (subst (λ (y : ℕ). ClauseAt p y c) q at))) r.1)) (λ q. noted_kept n ts m.cells x room (k.read j x c at q r)) (flag_set m.clauses i j h);
      }

  -- at the end of the marking no clause is due
  pub settles : (n : ℕ) (m : Marks) → Kept p m → down m.clauses ≤ n → Kept p (marked_from p n m) × Settled p (marked_from p n m)
  settles zero m k l = at (next_of p m) refl
    where
      at : (o : Option ℕ) → next_of p m ≡ o → Kept p m × Settled p m
      at None e = (k, e)
      at (Some i) e = absurd (let f = falls m k.clauses_long i e in omega arith)
  settles (suc n) m k l = at (next_of p m) refl (λ i e. settles n (marked_at p i m) (kept_more m i k e) (let f = falls m k.clauses_long i e in omega arith))
    where
      at : (o : Option ℕ) → next_of p m ≡ o → ((i : ℕ) → next_of p m ≡ Some i → Kept p (marked_from p n (marked_at p i m)) × Settled p (marked_from p n (marked_at p i m))) → Kept p (turned p (marked_from p n) m o) × Settled p (turned p (marked_from p n) m o)
      at None e go = (k, e)
      at (Some i) e go = go i e

  -- what has been marked so far leads to the same marks
  pub leads_on : (m : Marks) (i : ℕ) → length m.clauses ≡ 256 → next_of p m ≡ Some i → marked_from p (down m.clauses) m ≡ marked_from p (down (marked_at p i m).clauses) (marked_at p i m)
  leads_on m i long e = ap (λ (n : ℕ). marked_from p n m) (falls m long i e) ∙ ap (turned p (marked_from p (down (marked_at p i m).clauses)) m) e

-- where none is due the marks stay
pub leads_off : (p : Po) (n : ℕ) (m : Marks) → Settled p m → marked_from p n m ≡ m
leads_off p zero m e = refl
leads_off p (suc n) m e = ap (turned p (marked_from p n) m) e

-- no marks are kept, and lead to the marks of the policy
pub kept_none : (p : Po) → Kept p no_marks
kept_none p = record {
  clauses_long = length-replicate 256 false;
  cells_long = length-replicate 128 false;
  clauses_mean = λ i h. absurd (false≢true (sym (none_up 256 i) ∙ h));
  cells_mean = λ d h. absurd (false≢true (sym (none_up 128 d) ∙ h));
  read = λ i d c at h r. absurd (false≢true (sym (none_up 256 i) ∙ h));
}

-- what is marked so far leads to the marks of the policy
abbrev pub Going : Po → Marks → Type 0
Going p m = (length m.clauses ≡ 256) × (marked_from p (down m.clauses) m ≡ marks_of p)

pub starts : (p : Po) → Going p no_marks
unfolding marks_of
starts p = (length-replicate 256 false, ap (λ (n : ℕ). marked_from p n no_marks) (down_none 256))

pub goes : (p : Po) → length p.clauses ≤ 256 → length p.cells ≤ 128 → (m : Marks) (i : ℕ) → Going p m → next_of p m ≡ Some i → Going p (marked_at p i m)
goes p fc fd m i g e = (length-set m.clauses i true ∙ g.0, sym (leads_on p fc fd m i g.0 e) ∙ g.1)

-- the marks of a policy are kept, and none is due
pub ends : (p : Po) → length p.clauses ≤ 256 → length p.cells ≤ 128 → Kept p (marks_of p) × Settled p (marks_of p)
unfolding marks_of
ends p fc fd = settles p fc fd 256 no_marks (kept_none p) (let e = down_none 256 in omega arith)

-- The marks when none is due.

-- whatever obeys the rules has all that they give
mutual
  pub least_clause : (p : Po) (C D : ℕ → Type 0) → Obeys p C D → (i : ℕ) → MeaningfulClause p i → C i
  least_clause p C D o i (by_violation c at v) = o.violates i c at v
  least_clause p C D o i (by_write d c at w m) = o.writes i d c at w (least_cell p C D o d m)

  pub least_cell : (p : Po) (C D : ℕ → Type 0) → Obeys p C D → (d : ℕ) → MeaningfulCell p d → D d
  least_cell p C D o d (by_reading i c at m r) = o.reads i d c at (least_clause p C D o i m) r

-- a clause that writes a marked cell has a reason
write_reason : (a : Option Action) (d : ℕ) (cells : List Bool) → written_by a ≡ Some d → Marked cells d → is_some (reason_of a cells) ≡ true
write_reason None d cells e h = let z : ◌≡◌ {A = ℕ} 0 1 = cc in absurd (omega arith)
write_reason (Some Violate) d cells e h = refl
write_reason (Some (Write w k t)) d cells e h =
    let s : k ≡ d = cc in
    ap (λ (b : Bool). is_some (cond b (Some (WRITES k)) None)) (subst (Marked cells) (sym s) h)

module _ (p : Po) (m : Marks) (k : Kept p m) (s : Settled p m) where
  pub obeys : Obeys p (Marked m.clauses) (Marked m.cells)
  obeys = record {
    violates = λ i c at v. settled_marked p m s i c at (ap (λ (a : Option Action). is_some (reason_of a m.cells)) v);
    reads = λ i d c at h r. k.read i d c at h r;
    writes = λ i d c at w h. settled_marked p m s i c at (write_reason c.action d m.cells w h);
  }

  pub exact_clause : (i : ℕ) → Decides (get_or m.clauses i false) (MeaningfulClause p i)
  exact_clause i = (k.clauses_mean i, least_clause p (Marked m.clauses) (Marked m.cells) obeys i)

  pub exact_cell : (d : ℕ) → Decides (get_or m.cells d false) (MeaningfulCell p d)
  exact_cell d = (k.cells_mean d, least_cell p (Marked m.clauses) (Marked m.cells) obeys d)

  pub least : (C D : ℕ → Type 0) → Obeys p C D → ((i : ℕ) → Marked m.clauses i → C i) × ((d : ℕ) → Marked m.cells d → D d)
  least C D o = (λ i h. least_clause p C D o i (k.clauses_mean i h), λ d h. least_cell p C D o d (k.cells_mean d h))

-- what is promised of marks
pub record Right (p : Po) (m : Marks) : Type 0 where
  pub kept : Kept p m
  pub settled : Settled p m

pub right : (p : Po) → length p.clauses ≤ 256 → length p.cells ≤ 128 → Right p (marks_of p)
right p fc fd = let e = ends p fc fd in record { kept = e.0; settled = e.1 }

-- a clause has a reason exactly when it is meaningful
pub why_decides : (p : Po) (m : Marks) → Right p m → (i : ℕ) → Decides (is_some (why_of p m i)) (MeaningfulClause p i)
why_decides p m r i = (forth (slice_get p.clauses i) refl, back)
  where
    reason : Cs → Option Reason
    reason c = reason_of c.action m.cells

    forth : (o : Option Cs) → slice_get p.clauses i ≡ o → is_some (or_else None reason o) ≡ true → MeaningfulClause p i
    forth None e h = absurd (false≢true h)
    forth (Some c) e h = reason_means p m r.kept i c e c.action refl h

    at_clause : (c : Cs) → ClauseAt p i c → is_some (reason_of c.action m.cells) ≡ true → is_some (why_of p m i) ≡ true
    at_clause c at h = ap (λ (o : Option Cs). is_some (or_else None reason o)) at ∙ h

    back : MeaningfulClause p i → is_some (why_of p m i) ≡ true
    back (by_violation c at v) = at_clause c at (ap (λ (a : Option Action). is_some (reason_of a m.cells)) v)
    back (by_write d c at w x) = at_clause c at (write_reason c.action d m.cells w ((exact_cell p m r.kept r.settled d).1 x))
