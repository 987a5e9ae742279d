-- A book that ends in a known operation or call, and what the tests see at its end.
use Rattle.std.proofs.Common.{◌≡◌, ℕ, Bool, true, false, not, ◌||◌, eqb, List, [], ◌∷◌, ◌++◌, Some, Option, refl, ap, ◌∙◌}
use Rattle.book.specs.Books.{Op, Cl, Bk, or_else, marks_at, marked, fielded, preceded, acting, followed, in_last_cl, filled, full, has, has_all, act_needs}
use Rattle.book.specs.declared.table.Act.{Act}
use Rattle.book.specs.declared.table.After.{After}
use Rattle.book_file.specs.Changes.{obey}
use Rattle.book.specs.Operands.{act_of, condition_of}
use Rattle.book_file.specs.Tests.{misplaced, crowded, outside, undefined, taken, lacking, command_tests, acted, begun, answered}
use Rattle.book_file.specs.declared.commands.Command.TheVariants.{Field, Before, Act as ACT, After as AFTER}
use Rattle.book_file.specs.declared.commands.Command.{Command}
use Rattle.std.specs.List.{AllByRecursion}
use Rattle.tables.specs.Lists.{last_of, in_last}
use Rattle.tables.specs.declared.name.Name.{Name}

abbrev pub book : List Op → List Cl → Bk
book os cs = record { operations = os; calls = cs }

abbrev pub call : Name → List ℕ → List ℕ → Option Act → List After → Cl
call n fs bs a ss = record { name = n; fields = fs; befores = bs; act = a; afters = ss }

-- no test speaks against the command
abbrev pub Clear : Bk → Command → Type 0
Clear b c = AllByRecursion (λ (t : Bk → Command → Bool). t b c ≡ false) command_tests

-- the same test by test
pub record Fits (b : Bk) (c : Command) : Type 0 where
  pub placed : misplaced b c ≡ false
  pub room : crowded b c ≡ false
  pub inside : outside b c ≡ false
  pub defined : undefined b c ≡ false
  pub fresh : taken b c ≡ false
  pub met : lacking b c ≡ false

pub fits : {b : Bk} {c : Command} → Clear b c → Fits b c
fits h = record { placed = h.0; room = h.1.0; inside = h.1.1.0; defined = h.1.1.1.0; fresh = h.1.1.1.1.0; met = h.1.1.1.1.1.0 }

pub clear : {b : Bk} {c : Command} → Fits b c → Clear b c
clear h = (h.placed, (h.room, (h.inside, (h.defined, (h.fresh, (h.met, tt))))))

-- a list with an element has a last one
pub view : {X : Type 0} (x : X) (xs : List X) → (ys : List X) × (y : X) × (x ∷ xs ≡ ys ++ y ∷ [])
view x [] = ([], x, refl)
view x (z ∷ zs) = let v = view z zs in (x ∷ v.0, v.1, ap (λ l. x ∷ l) v.2)

pub filled_push : {X : Type 0} (xs : List X) (x : X) → filled (xs ++ x ∷ []) ≡ true
filled_push [] x = refl
filled_push (y ∷ ys) x = refl

last_push : {X : Type 0} (xs : List X) (x : X) → last_of (xs ++ x ∷ []) ≡ Some x
last_push [] x = refl
last_push (y ∷ []) x = refl
last_push (y ∷ z ∷ zs) x = last_push (z ∷ zs) x

-- what is asked of the last element is asked of x
pub at_last : {X R : Type 0} (xs : List X) (x : X) (d : R) (f : X → R) → or_else d f (last_of (xs ++ x ∷ [])) ≡ f x
at_last xs x d f = ap (or_else d f) (last_push xs x)

-- what is changed of the last element is changed of x
pub in_last_is : {X : Type 0} (xs : List X) (x : X) (f : X → X) → in_last f (xs ++ x ∷ []) ≡ xs ++ f x ∷ []
in_last_is [] x f = refl
in_last_is (y ∷ []) x f = refl
in_last_is (y ∷ z ∷ zs) x f = ap (λ l. y ∷ l) (in_last_is (z ∷ zs) x f)

-- A FIELD at a book that ends in the operation o.
module _ (os : List Op) (o : Op) (m : ℕ) where
  pub mark_misplaced : misplaced (book (os ++ o ∷ []) []) (Field m) ≡ false
  mark_misplaced = ap not (filled_push os o)

  pub mark_crowded : crowded (book (os ++ o ∷ []) []) (Field m) ≡ full 6 o.marks
  mark_crowded = at_last os o _ _

  pub mark_taken : taken (book (os ++ o ∷ []) []) (Field m) ≡ has o.marks m
  mark_taken = at_last os o _ _

  pub mark_obey : obey (book (os ++ o ∷ []) []) (Field m) ≡ book (os ++ marked m o ∷ []) []
  mark_obey = ap (λ l. book l []) (in_last_is os o (marked m))

-- The commands in a call, at a book that ends in the call c.
module _ (os : List Op) (cs : List Cl) (c : Cl) where
  pub field_misplaced : (m : ℕ) → misplaced (book os (cs ++ c ∷ [])) (Field m) ≡ begun c
  field_misplaced m = at_last cs c _ _

  pub field_crowded : (m : ℕ) → crowded (book os (cs ++ c ∷ [])) (Field m) ≡ full 8 c.fields
  field_crowded m = at_last cs c _ _

  pub field_outside : (m : ℕ) → outside (book os (cs ++ c ∷ [])) (Field m) ≡ (eqb m 0 || eqb m 255)
  field_outside m = at_last cs c _ _

  pub field_taken : (m : ℕ) → taken (book os (cs ++ c ∷ [])) (Field m) ≡ has c.fields m
  field_taken m = at_last cs c _ _

  in_call : (f : Cl → Cl) → in_last_cl f (book os (cs ++ c ∷ [])) ≡ book os (cs ++ f c ∷ [])
  in_call f = ap (book os) (in_last_is cs c f)

  pub field_obey : (m : ℕ) → obey (book os (cs ++ c ∷ [])) (Field m) ≡ book os (cs ++ fielded m c ∷ [])
  field_obey m = at_last cs c _ _ ∙ in_call (fielded m)

  pub before_misplaced : (k : ℕ) → misplaced (book os (cs ++ c ∷ [])) (Before k) ≡ acted c
  before_misplaced k = at_last cs c _ _

  pub before_crowded : (k : ℕ) → crowded (book os (cs ++ c ∷ [])) (Before k) ≡ full 8 c.befores
  before_crowded k = at_last cs c _ _

  pub before_lacking : (k : ℕ) → lacking (book os (cs ++ c ∷ [])) (Before k) ≡ not (has_all c.fields (marks_at os k))
  before_lacking k = at_last cs c _ _

  pub before_obey : (k : ℕ) → obey (book os (cs ++ c ∷ [])) (Before k) ≡ book os (cs ++ preceded k c ∷ [])
  before_obey k = in_call (preceded k)

  pub act_misplaced : (a : ℕ) → misplaced (book os (cs ++ c ∷ [])) (ACT a) ≡ acted c
  act_misplaced a = at_last cs c _ _

  pub act_lacking : (a : ℕ) → lacking (book os (cs ++ c ∷ [])) (ACT a) ≡ not (has_all c.fields (or_else [] act_needs (act_of a)))
  act_lacking a = at_last cs c _ _

  pub act_obey : (a : ℕ) → obey (book os (cs ++ c ∷ [])) (ACT a) ≡ book os (cs ++ acting (act_of a) c ∷ [])
  act_obey a = in_call (acting (act_of a))

  pub after_misplaced : (k q : ℕ) → misplaced (book os (cs ++ c ∷ [])) (AFTER k q) ≡ not (acted c)
  after_misplaced k q = at_last cs c _ _

  pub after_crowded : (k q : ℕ) → crowded (book os (cs ++ c ∷ [])) (AFTER k q) ≡ full 8 c.afters
  after_crowded k q = at_last cs c _ _

  pub after_lacking : (k q : ℕ) → lacking (book os (cs ++ c ∷ [])) (AFTER k q) ≡ not (has_all (answered c) (marks_at os k))
  after_lacking k q = at_last cs c _ _

  pub after_obey : (k q : ℕ) → obey (book os (cs ++ c ∷ [])) (AFTER k q) ≡ book os (cs ++ followed k (condition_of q) c ∷ [])
  after_obey k q = in_call (followed k (condition_of q))
