-- The tests on parts of a policy, as the plain conditions that they decide.
use Rattle.std.proofs.Common.{◌≡◌, ℕ, zero, suc, ◌+◌, ◌<◌, ◌≤◌, Bool, true, false, cond, not, ◌&&◌, ltb, List, [], ◌∷◌, ◌++◌, length, get_or, is_some, Some, None, Option, sym, refl, ap, ◌∙◌, subst, ⊎_elim, add-zero, arith, le-leb}
use Rattle.book.proofs.Sets.{has_decides}
use Rattle.book.specs.Books.{Op, or_else, marks_at, has}
use Rattle.book_file.proofs.Parts.{nth_less, less_nth}
use Rattle.policy.proofs.Among.{among_nil}
use Rattle.policy.proofs.Coverage.{applies_decides, flagged_has, has_flagged}
use Rattle.policy.specs.Coverage.Covers.{by_has, by_nest}
use Rattle.policy.specs.Coverage.{Gr, members_at, Covers, Applies, applies_to, flags}
use Rattle.policy.specs.Policies.{Cs, pending, lacked_from, lacks}
use Rattle.policy.specs.declared.table.Comparison.TheVariants.{Equal, Unequal, Less, AtMost}
use Rattle.policy.specs.declared.table.Comparison.{Comparison}
use Rattle.policy.specs.declared.table.Member.TheVariants.{Has}
use Rattle.policy.specs.declared.table.Target.TheVariants.{Operation, Group}
use Rattle.policy.specs.declared.table.Target.{Target}
use Rattle.policy.specs.declared.table.Term.TheVariants.{Number, Field, Cell}
use Rattle.policy.specs.declared.table.Term.{Term}
use Rattle.policy_file.specs.Law.{Numbered, before_last, LawfulMember, LawfulGr, LawfulTarget, LawfulTerm, Acted, raw_of, comparison_number}
use Rattle.policy.specs.Comparisons.{comparison_of}
use Rattle.policy_file.specs.Terms.{is_mark, known, term_of}
use Rattle.policy_file.specs.Tests.{absent}
use Rattle.policy_file.specs.declared.commands.RawTerm.{RawTerm}
use Rattle.std.proofs.ByRecursion.{all-has}
use Rattle.std.proofs.lemmas.Bool.Decides.{nat_tests}
use Rattle.std.proofs.lemmas.Bool.{or_parts, or_from, and_cases, not_from_true, false≢true}
use Rattle.std.specs.List.{ContainsAt as Among, AllByRecursion, slice_get}
use Rattle.tables.specs.Lists.{last_of}
use Rattle.std.proofs.lemmas.Bool.{not-false}

-- Elements with their numbers.

module _ {X : Type 0} (P : ℕ → X → Type 0) where
  pub numbered_push : (k : ℕ) (xs : List X) (x : X) → Numbered P k xs → P (k + length xs) x → Numbered P k (xs ++ x ∷ [])
  numbered_push k [] x h p = (subst (λ n. P n x) (add-zero k) p, tt)
  numbered_push k (y ∷ ys) x h p =
      let e : k + suc (length ys) ≡ suc k + length ys = omega arith in
      (h.0, numbered_push (suc k) ys x h.1 (subst (λ n. P n x) e p))

  -- another in the place of the last
  pub numbered_swap : (k : ℕ) (xs : List X) (x y : X) → ((n : ℕ) → n ≡ k + length xs → P n x → P n y) → Numbered P k (xs ++ x ∷ []) → Numbered P k (xs ++ y ∷ [])
  numbered_swap k [] x y f h = (f k (sym (add-zero k)) h.0, tt)
  numbered_swap k (z ∷ zs) x y f h = (h.0, numbered_swap (suc k) zs x y (λ n e. f n (omega arith)) h.1)

  pub numbered_mid : (k : ℕ) (xs : List X) (y : X) (ys : List X) → Numbered P k (xs ++ y ∷ ys) → P (k + length xs) y
  numbered_mid k [] y ys h = subst (λ n. P n y) (sym (add-zero k)) h.0
  numbered_mid k (z ∷ zs) y ys h =
      let e : suc k + length zs ≡ k + suc (length zs) = omega arith in
      subst (λ n. P n y) e (numbered_mid (suc k) zs y ys h.1)

-- Clauses with and without their action.

pub before_push : {X : Type 0} (xs : List X) (x : X) → before_last (xs ++ x ∷ []) ≡ xs
before_push [] x = refl
before_push (y ∷ []) x = refl
before_push (y ∷ (z ∷ zs)) x = ap (λ l. y ∷ l) (before_push (z ∷ zs) x)

-- what holds of all but the last holds of those before one
pub before_front : {X : Type 0} (P : X → Type 0) (xs : List X) (y : X) (ys : List X) → AllByRecursion P (before_last (xs ++ y ∷ ys)) → AllByRecursion P xs
before_front P [] y ys h = tt
before_front P (x ∷ []) y ys h = (h.0, tt)
before_front P (x ∷ (z ∷ zs)) y ys h = (h.0, before_front P (z ∷ zs) y ys h.1)

-- the last clause is not pending: then none is
pub all_acted : (cs : List Cs) → AllByRecursion Acted (before_last cs) → or_else false pending (last_of cs) ≡ false → AllByRecursion Acted cs
all_acted [] h e = tt
all_acted (c ∷ []) h e = (not-false (is_some c.action) e, tt)
all_acted (c ∷ (d ∷ ds)) h e = (h.0, all_acted (d ∷ ds) h.1 e)

pub none_pending : (cs : List Cs) → AllByRecursion Acted cs → or_else false pending (last_of cs) ≡ false
none_pending [] h = refl
none_pending (c ∷ []) h = not_from_true (is_some c.action) h.0
none_pending (c ∷ (d ∷ ds)) h = none_pending (d ∷ ds) h.1

-- Numbers that are there.

pub there : {X : Type 0} (xs : List X) (k : ℕ) → absent xs k ≡ false → k < length xs
there xs k h = nth_less xs k (not-false (is_some (slice_get xs k)) h)

pub not_absent : {X : Type 0} (xs : List X) (k : ℕ) → k < length xs → absent xs k ≡ false
not_absent xs k h = not_from_true (is_some (slice_get xs k)) (less_nth xs k h)

pub below : (k n : ℕ) → not (ltb k n) ≡ false → k < n
below k n h = grind (arith, nat_tests)

pub not_below : (k n : ℕ) → k < n → not (ltb k n) ≡ false
not_below k n h = grind (arith, nat_tests)

-- Comparisons by number.

pub comparison_is : (q : ℕ) → not (is_some (comparison_of q)) ≡ false → (x : Comparison) × (comparison_of q ≡ Some x) × (q ≡ comparison_number x)
comparison_is q h = at (comparison_of q) refl
  where
    at : (o : Option Comparison) → comparison_of q ≡ o → (x : Comparison) × (comparison_of q ≡ Some x) × (q ≡ comparison_number x)
    at None e = grind arith
    at (Some Equal) e = (Equal, e, grind (arith, nat_tests))
    at (Some Unequal) e = (Unequal, e, grind (arith, nat_tests))
    at (Some Less) e = (Less, e, grind (arith, nat_tests))
    at (Some AtMost) e = (AtMost, e, grind (arith, nat_tests))

pub comparison_back : (x : Comparison) → comparison_of (comparison_number x) ≡ Some x
comparison_back Equal = refl
comparison_back Unequal = refl
comparison_back Less = refl
comparison_back AtMost = refl

-- Terms.

-- a field's number is a mark, and a cell is one of those
abbrev pub Basic : List ℕ → Term → Type 0
Basic cells (Number n) = Unit {0}
Basic cells (Field m) = (1 ≤ m) × (m ≤ 255)
Basic cells (Cell k) = k < length cells

is_mark_within : (m : ℕ) → 1 ≤ m → m ≤ 255 → is_mark m ≡ true
is_mark_within m p q = grind (arith, nat_tests)

pub term_is : (cells : List ℕ) (r : RawTerm) → not (is_some (term_of cells r)) ≡ false → (t : Term) × (term_of cells r ≡ Some t) × (r ≡ raw_of t) × Basic cells t
term_is cells r h = at (term_of cells r) refl
  where
    at : (o : Option Term) → term_of cells r ≡ o → (t : Term) × (term_of cells r ≡ Some t) × (r ≡ raw_of t) × Basic cells t
    at None e = grind arith
    at (Some (Number n)) e = (Number n, e, grind (arith, nat_tests), tt)
    at (Some (Field m)) e = (Field m, e, grind (arith, nat_tests), grind (arith, nat_tests))
    at (Some (Cell k)) e = (Cell k, e, grind (arith, nat_tests), grind (arith, nat_tests))

pub term_known : (cells : List ℕ) (t : Term) → Basic cells t → not (known (raw_of t)) ≡ false
term_known cells (Number n) h = refl
term_known cells (Field m) h = not_from_true (is_mark m) (is_mark_within m h.0 h.1)
term_known cells (Cell k) h = refl

pub term_back : (cells : List ℕ) (t : Term) → Basic cells t → term_of cells (raw_of t) ≡ Some t
term_back cells (Number n) h = refl
term_back cells (Field m) h = ap (λ (b : Bool). cond b (Some (Field m)) None) (is_mark_within m h.0 h.1)
term_back cells (Cell k) h = ap (λ (b : Bool). cond b (Some (Cell k)) None) (le-leb (suc k) (length cells) h)

-- Marks of the operations to which a clause applies.

module _ (ops : List Op) (m : ℕ) where
  lacked_none : (k : ℕ) (fs : List Bool) → lacked_from ops m k fs ≡ false → (i : ℕ) → get_or fs i false ≡ true → has (marks_at ops (k + i)) m ≡ true
  lacked_none k [] h i e = absurd (false≢true e)
  lacked_none k (f ∷ fs) h zero e =
      let p = or_parts (f && not (has (marks_at ops k) m)) (lacked_from ops m (k + 1) fs) h in
      subst (λ n. has (marks_at ops n) m ≡ true) (sym (add-zero k)) (⊎_elim (λ q. absurd (false≢true (sym q ∙ e))) (λ q. not-false (has (marks_at ops k) m) q) (and_cases f (not (has (marks_at ops k) m)) p.0))
  lacked_none k (f ∷ fs) h (suc i) e =
      let p = or_parts (f && not (has (marks_at ops k) m)) (lacked_from ops m (k + 1) fs) h in
      let j : k + 1 + i ≡ k + suc i = omega arith in
      subst (λ n. has (marks_at ops n) m ≡ true) j (lacked_none (k + 1) fs p.1 i e)

  none_lacked : (k : ℕ) (fs : List Bool) → ((i : ℕ) → get_or fs i false ≡ true → has (marks_at ops (k + i)) m ≡ true) → lacked_from ops m k fs ≡ false
  none_lacked k [] h = refl
  none_lacked k (f ∷ fs) h = or_from (f && not (has (marks_at ops k) m)) (lacked_from ops m (k + 1) fs) (here f refl) (none_lacked (k + 1) fs (λ i e. let j : k + suc i ≡ k + 1 + i = omega arith in subst (λ n. has (marks_at ops n) m ≡ true) j (h (suc i) e)))
    where
      here : (g : Bool) → f ≡ g → (g && not (has (marks_at ops k) m)) ≡ false
      here true e = not_from_true (has (marks_at ops k) m) (subst (λ n. has (marks_at ops n) m ≡ true) (add-zero k) (h 0 e))
      here false e = refl

-- An operation to which a lawful clause applies is one of the book's.

-- what a group of lawful groups has is an operation of the book
members_lawful : (ops : List Op) (j : ℕ) (gs : List Gr) (k : ℕ) → Numbered (LawfulGr ops) j gs → (o : ℕ) → Among (members_at gs k) (Has o) → o < length ops
members_lawful ops j [] k h o a = absurd (among_nil (Has o) a)
members_lawful ops j (g ∷ gs) zero h o a = all-has (LawfulMember ops j) g.members (Has o) h.0.members a
members_lawful ops j (g ∷ gs) (suc k) h o a = members_lawful ops (suc j) gs k h.1 o a

covers_defined : (ops : List Op) (gs : List Gr) (k o : ℕ) → Numbered (LawfulGr ops) 0 gs → Covers gs k o → o < length ops
covers_defined ops gs k o h (by_has a) = members_lawful ops 0 gs k h o a
covers_defined ops gs k o h (by_nest j a l c) = covers_defined ops gs j o h c

pub applies_defined : (ops : List Op) (gs : List Gr) (t : Target) (o : ℕ) → Numbered (LawfulGr ops) 0 gs → LawfulTarget ops gs t → Applies gs t o → o < length ops
applies_defined ops gs (Operation k) o h l e = omega (arith, l, e)
applies_defined ops gs (Group k) o h l c = covers_defined ops gs k o h c

module _ (ops : List Op) (cells : List ℕ) (gs : List Gr) (t : Target) where
  -- a term whose mark is not lacked
  pub term_lawful : (x : Term) → Basic cells x → lacks ops (flags (applies_to gs t)) x ≡ false → ((o : ℕ) → Applies gs t o → o < 64) → LawfulTerm ops cells gs t x
  term_lawful (Number n) b h f = tt
  term_lawful (Cell k) b h f = b
  term_lawful (Field m) b h f = (b.0, b.1, λ o a. (has_decides (marks_at ops o) m).0 (subst (λ n. has (marks_at ops n) m ≡ true) (zero_plus o) (lacked_none ops m 0 (flags (applies_to gs t)) h o (flagged_has 64 (applies_to gs t) o (f o a) ∙ (applies_decides gs t o).1 a))))
    where
      zero_plus : (o : ℕ) → 0 + o ≡ o
      zero_plus o = omega arith

  pub lawful_basic : (x : Term) → LawfulTerm ops cells gs t x → Basic cells x
  lawful_basic (Number n) h = tt
  lawful_basic (Field m) h = (h.0, h.1)
  lawful_basic (Cell k) h = h

  pub lawful_lacks : (x : Term) → LawfulTerm ops cells gs t x → lacks ops (flags (applies_to gs t)) x ≡ false
  lawful_lacks (Number n) h = refl
  lawful_lacks (Cell k) h = refl
  lawful_lacks (Field m) h = none_lacked ops m 0 (flags (applies_to gs t)) (λ o e. subst (λ n. has (marks_at ops n) m ≡ true) (plus_zero o) ((has_decides (marks_at ops o) m).1 (h.2 o ((applies_decides gs t o).0 (has_flagged 64 (applies_to gs t) o e)))))
    where
      plus_zero : (o : ℕ) → o ≡ 0 + o
      plus_zero o = omega arith
