-- The tests on parts of a book, as the plain conditions that they decide.
use Rattle.std.proofs.Common.{◌≡◌, ℕ, suc, ◌+◌, ◌<◌, ◌≤◌, Bool, true, false, cond, not, ◌&&◌, eqb, List, [], ◌∷◌, ◌++◌, length, is_some, Some, None, Option, Decides, refl, arith, ltb-true, ne_eqb, le-leb}
use Rattle.book.proofs.Sets.{has_decides}
use Rattle.book.specs.Books.{Op, marks_at, has, has_all, full, named}
use Rattle.book.specs.declared.table.Act.TheVariants.{Look, Put}
use Rattle.book.specs.declared.table.Act.{Act}
use Rattle.book.specs.declared.table.Condition.TheVariants.{Always, NotZero, Zero}
use Rattle.book.specs.declared.table.Condition.{Condition}
use Rattle.book_file.specs.Law.{Apart, Prints, Proper, Marked, Met, act_number, condition_number}
use Rattle.book.specs.Operands.{act_of, condition_of}
use Rattle.std.proofs.ByRecursion.{All-push, Decides-by_and}
use Rattle.std.proofs.lemmas.Slice.Eq.{bytes_eq-Decides}
use Rattle.std.proofs.lemmas.List.{length-append, length_push}
use Rattle.std.proofs.lemmas.Option.{slice_get_cases}
use Rattle.std.proofs.lemmas.Bool.{or_parts, false_from_ne_true, or_from, not_from_true}
use Rattle.std.proofs.lemmas.Bool.Decides.{not_from_Decides, nat_tests}
use Rattle.std.specs.List.{ContainsAt as Has, AllByRecursion, slice_get}
use Rattle.std.specs.Str.{bytes_eq}
use Rattle.tables.specs.Lists.{roomy}
use Rattle.tables.specs.Names.{prints, proper}
use Rattle.tables.specs.Search.{first_from}
use Rattle.std.proofs.lemmas.Bool.{eqb-false, not-false}

-- what holds of all holds of one in the middle
pub all_mid : {X : Type 0} (P : X → Type 0) (xs : List X) (y : X) (ys : List X) → AllByRecursion P (xs ++ y ∷ ys) → P y
all_mid P [] y ys h = h.0
all_mid P (x ∷ xs) y ys h = all_mid P xs y ys h.1

-- another in the place of the last
pub all_swap : {X : Type 0} (P : X → Type 0) (xs : List X) (x y : X) → (P x → P y) → AllByRecursion P (xs ++ x ∷ []) → AllByRecursion P (xs ++ y ∷ [])
all_swap P [] x y f h = (f h.0, tt)
all_swap P (z ∷ xs) x y f h = (h.0, all_swap P xs x y f h.1)

pub apart_push : {X : Type 0} (xs : List X) (x : X) → Apart xs → AllByRecursion (λ y. y ≡ x → ⊥) xs → Apart (xs ++ x ∷ [])
apart_push [] x h a = (tt, tt)
apart_push (z ∷ xs) x h a = (All-push (λ y. z ≡ y → ⊥) xs x h.0 a.0, apart_push xs x h.1 a.1)

pub apart_mid : {X : Type 0} (xs : List X) (x : X) (ys : List X) → Apart (xs ++ x ∷ ys) → AllByRecursion (λ y. y ≡ x → ⊥) xs
apart_mid [] x ys h = tt
apart_mid (z ∷ xs) x ys h = (all_mid (λ y. z ≡ y → ⊥) xs x ys h.0, apart_mid xs x ys h.1)

-- Counts.

pub full_less : {X : Type 0} (n : ℕ) (xs : List X) → full n xs ≡ false → length xs < n
full_less n xs h = ltb-true (length xs) n (not-false (roomy n xs) h)

pub less_full : {X : Type 0} (n : ℕ) (xs : List X) → length xs < n → full n xs ≡ false
less_full n xs h = not_from_true (roomy n xs) (le-leb (suc (length xs)) n h)

-- Names.

out_from : (i : ℕ) (xs : List (List ℕ)) (x : List ℕ) → is_some (first_from i xs x) ≡ false → AllByRecursion (λ y. y ≡ x → ⊥) xs
out_from i [] x h = tt
out_from i (y ∷ ys) x h =
    let p : (bytes_eq y x ≡ false) × (is_some (first_from (i + 1) ys x) ≡ false) = grind arith in
    (not_from_Decides (bytes_eq y x) (bytes_eq-Decides y x) p.0, out_from (i + 1) ys x p.1)

from_out : (i : ℕ) (xs : List (List ℕ)) (x : List ℕ) → AllByRecursion (λ y. y ≡ x → ⊥) xs → is_some (first_from i xs x) ≡ false
from_out i [] x h = refl
from_out i (y ∷ ys) x h = rw (false_from_ne_true (bytes_eq y x) (λ e. h.0 ((bytes_eq-Decides y x).0 e))) (from_out (i + 1) ys x h.1)

pub named_out : (xs : List (List ℕ)) (x : List ℕ) → named xs x ≡ false → AllByRecursion (λ y. y ≡ x → ⊥) xs
named_out = out_from 0

pub out_named : (xs : List (List ℕ)) (x : List ℕ) → AllByRecursion (λ y. y ≡ x → ⊥) xs → named xs x ≡ false
out_named = from_out 0

cond_and : (t u : Bool) → cond t u false ≡ (t && u)
cond_and true u = refl
cond_and false u = refl

prints_decides : (x : ℕ) → Decides (prints x) (Prints x)
prints_decides x = grind (arith, nat_tests)

proper_decides : (xs : List ℕ) → Decides (proper xs) (AllByRecursion Prints xs)
proper_decides xs = Decides-by_and prints Prints proper prints_decides refl (λ y ys. cond_and (prints y) (proper ys)) xs

pub name_is : (n : List ℕ) → length n ≡ 8 → not (proper n) ≡ false → Proper n
name_is n h p = record { eight = h; prints = (proper_decides n).0 (not-false (proper n) p) }

pub is_name : (n : List ℕ) → Proper n → not (proper n) ≡ false
is_name n h = not_from_true (proper n) ((proper_decides n).1 h.prints)

-- Marks.

has_all_decides : (ms ns : List ℕ) → Decides (has_all ms ns) (AllByRecursion (Has ms) ns)
has_all_decides ms ns = Decides-by_and (has ms) (Has ms) (has_all ms) (has_decides ms) refl (λ _ _. refl) ns

pub has_all_true : (ms ns : List ℕ) → not (has_all ms ns) ≡ false → AllByRecursion (Has ms) ns
has_all_true ms ns h = (has_all_decides ms ns).0 (not-false (has_all ms ns) h)

pub all_has : (ms ns : List ℕ) → AllByRecursion (Has ms) ns → not (has_all ms ns) ≡ false
all_has ms ns h = not_from_true (has_all ms ns) ((has_all_decides ms ns).1 h)

has_out : (xs : List ℕ) (x : ℕ) → has xs x ≡ false → AllByRecursion (λ y. y ≡ x → ⊥) xs
has_out [] x h = tt
has_out (y ∷ ys) x h = let p = or_parts (eqb y x) (has ys x) h in (eqb-false y x p.0, has_out ys x p.1)

out_has : (xs : List ℕ) (x : ℕ) → AllByRecursion (λ y. y ≡ x → ⊥) xs → has xs x ≡ false
out_has [] x h = refl
out_has (y ∷ ys) x h = or_from (eqb y x) (has ys x) (ne_eqb y x h.0) (out_has ys x h.1)

pub marks_push : (most : ℕ) (ms : List ℕ) (m : ℕ) → Marked most ms → full most ms ≡ false → eqb m 0 ≡ false → has ms m ≡ false → Marked most (ms ++ m ∷ [])
marks_push most ms m h p q r =
    let n : m ≡ 0 → ⊥ = eqb-false m 0 q in
    record { few = omega (arith, length_push ms m, full_less most ms p); proper = All-push (λ m. 0 < m) ms m h.proper (omega arith); apart = apart_push ms m h.apart (has_out ms m r) }

-- a list that has more behind its beginning has a shorter beginning
pub shorter_front : {X : Type 0} (n : ℕ) (ds : List X) (m : X) (ms : List X) → length (ds ++ m ∷ ms) ≤ n → length ds < n
shorter_front n ds m ms h = omega (arith, length-append ds (m ∷ ms), h)

pub record NextMark (most : ℕ) (ds : List ℕ) (m : ℕ) : Type 0 where
  pub room : full most ds ≡ false
  pub proper : eqb m 0 ≡ false
  pub fresh : has ds m ≡ false

pub marks_mid : (most : ℕ) (ds : List ℕ) (m : ℕ) (ms : List ℕ) → Marked most (ds ++ m ∷ ms) → NextMark most ds m
marks_mid most ds m ms h =
    let p : 0 < m = all_mid (λ m. 0 < m) ds m ms h.proper in
    record { room = less_full most ds (shorter_front most ds m ms h.few); proper = ne_eqb m 0 (λ e. omega arith); fresh = out_has ds m (apart_mid ds m ms h.apart) }

-- Operations by number.

pub nth_less : {X : Type 0} (xs : List X) (k : ℕ) → is_some (slice_get xs k) ≡ true → k < length xs
nth_less xs k h = grind (arith, slice_get_cases xs k)

pub less_nth : {X : Type 0} (xs : List X) (k : ℕ) → k < length xs → is_some (slice_get xs k) ≡ true
less_nth xs k h = grind (arith, slice_get_cases xs k)

pub met_there : (ops : List Op) (ms : List ℕ) (k : ℕ) → not (is_some (slice_get ops k)) ≡ false → not (has_all ms (marks_at ops k)) ≡ false → Met ops ms k
met_there ops ms k p q = record { defined = nth_less ops k (not-false (is_some (slice_get ops k)) p); filled = has_all_true ms (marks_at ops k) q }

pub met_defined : (ops : List Op) (ms : List ℕ) (k : ℕ) → Met ops ms k → not (is_some (slice_get ops k)) ≡ false
met_defined ops ms k h = not_from_true (is_some (slice_get ops k)) (less_nth ops k h.defined)

pub met_filled : (ops : List Op) (ms : List ℕ) (k : ℕ) → Met ops ms k → not (has_all ms (marks_at ops k)) ≡ false
met_filled ops ms k h = all_has ms (marks_at ops k) h.filled

-- Acts and conditions by number.

pub act_is : (a : ℕ) → not (is_some (act_of a)) ≡ false → (x : Act) × (act_of a ≡ Some x) × (a ≡ act_number x)
act_is a h = at (act_of a) refl
  where
    at : (o : Option Act) → act_of a ≡ o → (x : Act) × (act_of a ≡ Some x) × (a ≡ act_number x)
    at None e = grind arith
    at (Some Look) e = (Look, e, grind (arith, nat_tests))
    at (Some Put) e = (Put, e, grind (arith, nat_tests))

pub act_back : (x : Act) → act_of (act_number x) ≡ Some x
act_back Look = refl
act_back Put = refl

pub condition_is : (q : ℕ) → not (is_some (condition_of q)) ≡ false → (x : Condition) × (condition_of q ≡ Some x) × (q ≡ condition_number x)
condition_is q h = at (condition_of q) refl
  where
    at : (o : Option Condition) → condition_of q ≡ o → (x : Condition) × (condition_of q ≡ Some x) × (q ≡ condition_number x)
    at None e = grind arith
    at (Some Always) e = (Always, e, grind (arith, nat_tests))
    at (Some NotZero) e = (NotZero, e, grind (arith, nat_tests))
    at (Some Zero) e = (Zero, e, grind (arith, nat_tests))

pub condition_back : (x : Condition) → condition_of (condition_number x) ≡ Some x
condition_back Always = refl
condition_back NotZero = refl
condition_back Zero = refl
