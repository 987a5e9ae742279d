-- The lowest marked clause that is tied to a cell or an operation.
use Rattle.std.proofs.Common.{◌≡◌, ℕ, ◌≤◌, Bool, true, false, List, length, get_or, replicate, is_some, Some, None, Decides, Option, sym, refl, ap, ◌∙◌, subst, ⊎_elim, zero-add, arith}
use Rattle.book.specs.Books.{or_else}
use Rattle.policy.specs.Meaning.{cs_of, policy_of}
use Rattle.policy.specs.Policies.{Cs, Po}
use Rattle.policy.specs.declared.table.Clause.{Clause}
use Rattle.policy.specs.declared.table.Table.{Table}
use Rattle.pruning.proofs.Firsts.{first_some, first_none}
use Rattle.pruning.proofs.Flags.{none_up}
use Rattle.policy.proofs.Few.{few_clauses, few_cells}
use Rattle.pruning.proofs.Noting.{noted_back, noted_new}
use Rattle.pruning.proofs.Settling.{Right, right, exact_clause, why_decides}
use Rattle.pruning.specs.Marking.{Marked, first_from, marks_of, reason_of}
use Rattle.pruning.specs.Reasons.{Tied, tied, served, lowest_of, Serves, Lowest, why_of, Meaningful}
use Rattle.pruning.specs.Rules.MeaningfulCell.{by_reading}
use Rattle.pruning.specs.Rules.{ClauseAt, MeaningfulClause, terms_of}
use Rattle.pruning.specs.declared.marks.Marks.{Marks}
use Rattle.pruning.specs.declared.marks.Tie.TheVariants.{Reads as READS, AppliesTo as APPLIES}
use Rattle.pruning.specs.declared.marks.Tie.{Tie}
use Rattle.std.proofs.lemmas.List.{length-replicate}
use Rattle.std.specs.List.{slice_get}
use Rattle.std.proofs.lemmas.Bool.{false≢true, and_parts, and_from}
use Rattle.std.proofs.lemmas.Bool.Decides.{Decides-at}

module _ (p : Po) (few_cells : length p.cells ≤ 128) where
  tied_decides : (t : Tie) (c : Cs) → Decides (tied p t c) (Tied p t c)
  tied_decides (READS d) c = (
    λ h. ⊎_elim (λ q. absurd (false≢true (sym (none_up 128 d) ∙ q))) (λ q. q) (noted_back (length p.cells) (terms_of c) (replicate 128 false) d h),
    λ q. noted_new (length p.cells) (terms_of c) (replicate 128 false) d (let e = length-replicate 128 false in omega arith) q,
  )
  tied_decides (APPLIES o) c = (λ h. h, λ h. h)

  module _ (t : Tie) (flags : List Bool) where
    serves_when : (i : ℕ) (c : Cs) → ClauseAt p i c → served p t flags i c ≡ true → Serves p t flags i
    serves_when i c at h = let b = and_parts (get_or flags i false) (tied p t c) h in (c, at, b.0, (tied_decides t c).0 b.1)

    served_when : (i : ℕ) → (s : Serves p t flags i) → served p t flags i s.0 ≡ true
    served_when i s = and_from (get_or flags i false) (tied p t s.0) s.2 ((tied_decides t s.0).1 s.3)

    none_there : first_from (served p t flags) 0 p.clauses ≡ None → (i : ℕ) → Serves p t flags i → ⊥
    none_there e i s = first_none (served p t flags) 0 p.clauses e i (s.0, s.1, subst (λ (k : ℕ). served p t flags k s.0 ≡ true) (sym (zero-add i)) (served_when i s))

    first_there : (i : ℕ) → first_from (served p t flags) 0 p.clauses ≡ Some i → Lowest p t flags (Some i)
    first_there i e =
        let f = first_some (served p t flags) 0 p.clauses i e in
        let is : i ≡ f.place = f.is ∙ zero-add f.place in
        let q = f.passes in (
          serves_when i q.0 (subst (λ (k : ℕ). ClauseAt p k q.0) (sym is) q.1) (subst (λ (k : ℕ). served p t flags k q.0 ≡ true) (sym f.is) q.2),
          λ k l s. f.before k (omega arith) (s.0, s.1, subst (λ (j : ℕ). served p t flags j s.0 ≡ true) (sym (zero-add k)) (served_when k s)),
        )

    found : (o : Option ℕ) → first_from (served p t flags) 0 p.clauses ≡ o → Lowest p t flags o
    found None e = none_there e
    found (Some i) e = first_there i e

  pub lowest_is : (t : Tie) (m : Marks) → Lowest p t m.clauses (lowest_of p t m)
  lowest_is t m = found t m.clauses (lowest_of p t m) refl

-- a clause that serves is what makes its cell or operation meaningful
module _ (p : Po) (m : Marks) (r : Right p m) where
  served_means : (t : Tie) (i : ℕ) → Serves p t m.clauses i → Meaningful p t
  served_means (READS d) i s = by_reading i s.0 s.1 (r.kept.clauses_mean i s.2) s.3
  served_means (APPLIES o) i s = (i, s.0, s.1, r.kept.clauses_mean i s.2, s.3)

  marked : (i : ℕ) → MeaningfulClause p i → Marked m.clauses i
  marked i x = (exact_clause p m r.kept r.settled i).1 x

  means_served : (t : Tie) → Meaningful p t → (i : ℕ) × Serves p t m.clauses i
  means_served (READS d) (by_reading i c at x q) = (i, (c, at, marked i x, q))
  means_served (APPLIES o) x = (x.0, (x.1, x.2, marked x.0 x.3, x.4))

  pub own_decides : (t : Tie) (o : Option ℕ) → Lowest p t m.clauses o → Decides (is_some o) (Meaningful p t)
  own_decides t None l = (λ h. absurd (false≢true h), λ x. absurd (let s = means_served t x in l s.0 s.1))
  own_decides t (Some i) l = (λ h. served_means t i l.0, λ x. refl)

-- What is promised of a table's clauses.

-- the lowest clause is the lowest, and of the table's own marks it tells what is meaningful
pub lowest_promised : (x : Table) (t : Tie) (m : Marks) (r : Option ℕ) → r ≡ lowest_of (policy_of x) t m → Lowest (policy_of x) t m.clauses r × (m ≡ marks_of (policy_of x) → Decides (is_some r) (Meaningful (policy_of x) t))
lowest_promised x t m r is =
    let p = policy_of x in
    let l = subst (Lowest p t m.clauses) (sym is) (lowest_is p (few_cells x) t m) in
    (l, λ e. own_decides p m (subst (Right p) (sym e) (right p (few_clauses x) (few_cells x))) t r l)

-- the reason of a clause that is read tells, of the table's own marks, which clauses are meaningful
pub why_promised : (x : Table) (m : Marks) (i : ℕ) (c : Clause) → slice_get (policy_of x).clauses i ≡ Some (cs_of c) → m ≡ marks_of (policy_of x) → Decides (is_some (reason_of c.action m.cells)) (MeaningfulClause (policy_of x) i)
why_promised x m i c at e =
    let p = policy_of x in
    let why : Option Cs → Bool = λ o. is_some (or_else None (λ (k : Cs). reason_of k.action m.cells) o) in
    Decides-at (is_some (reason_of c.action m.cells)) (is_some (why_of p m i)) (ap why (sym at)) (why_decides p m (subst (Right p) (sym e) (right p (few_clauses x) (few_cells x))) i)
