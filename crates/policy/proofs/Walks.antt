-- What a walk over the members of one group keeps.
use Rattle.std.proofs.Common.{◌≡◌, ℕ, ◌+◌, ◌<◌, ◌≤◌, Bool, true, false, ◌⊎◌, List, [], length, get_or, set, replicate, Some, None, Option, sym, ap, ◌∙◌, subst, inl, inr, ⊎_elim, arith}
use Rattle.book.specs.Books.{or_else}
use Rattle.policy.proofs.Coverage.{flags_are}
use Rattle.policy.specs.Coverage.Covers.{by_has, by_nest}
use Rattle.policy.specs.Coverage.{Gr, members_of, members_at, Covers, covered, flags}
use Rattle.policy.specs.Meaning.{policy_of}
use Rattle.policy.specs.Walks.{Complete, Grown}
use Rattle.policy.specs.declared.table.Member.TheVariants.{Has, Nest}
use Rattle.policy.specs.declared.table.Member.{Member}
use Rattle.policy.specs.declared.table.Table.{Table}
use Rattle.policy.specs.declared.table.Target.TheVariants.{Group}
use Rattle.std.proofs.ByRecursion.{has_get_or}
use Rattle.std.proofs.lemmas.List.{get_or-set_same, get_or-set_other, get_or_past, get_or-replicate, length-map, length-replicate}
use Rattle.std.proofs.lemmas.Option.{slice_get_past}
use Rattle.std.proofs.lemmas.Bool.{cases_eq, cases_lt}
use Rattle.std.specs.List.{ContainsAt as Among, slice_get}
use Rattle.tables.proofs.Long.{rows_long}

-- the member at a place
abbrev pub member_at : List Member → ℕ → Member
member_at ms j = get_or ms j (Has 0)

-- what the member at place j of group g brings
abbrev pub Through : List Gr → ℕ → List Member → ℕ → ℕ → Type 0
Through gs g ms j o = (member_at ms j ≡ Has o) ⊎ ((h : ℕ) × (member_at ms j ≡ Nest h) × (h < g) × Covers gs h o)

-- the first k members of group g were seen
pub record Kept (gs : List Gr) (g : ℕ) (ms : List Member) (k : ℕ) (walked before after : List Bool) : Type 0 where
  pub complete : Complete gs walked after
  pub sound : (o : ℕ) → o < 64 → get_or after o false ≡ true → (get_or before o false ≡ true) ⊎ Covers gs g o
  pub keeps : (o : ℕ) → o < 64 → get_or before o false ≡ true → get_or after o false ≡ true
  pub passed : (j o : ℕ) → j < k → o < 64 → Through gs g ms j o → get_or after o false ≡ true

set_here : (xs : List Bool) (i j : ℕ) → i < length xs → j ≡ i → get_or (set xs i true) j false ≡ true
set_here xs i j l e = ap (λ n. get_or (set xs i true) n false) e ∙ get_or-set_same xs i true false l

-- a flag that is raised, and those beside it
set-flag : (xs : List Bool) (i j : ℕ) → i < length xs → (j ≡ i) ⊎ (get_or xs j false ≡ true) → get_or (set xs i true) j false ≡ true
set-flag xs i j l (inl e) = set_here xs i j l e
set-flag xs i j l (inr h) = ⊎_elim (set_here xs i j l) (λ n. get_or-set_other xs i j true false n ∙ h) (cases_eq j i)

flag_set : (xs : List Bool) (i j : ℕ) → get_or (set xs i true) j false ≡ true → (j ≡ i) ⊎ (get_or xs j false ≡ true)
flag_set xs i j h = ⊎_elim (λ e. inl e) (λ n. inr (sym (get_or-set_other xs i j true false n) ∙ h)) (cases_eq j i)

has_nest : (a h : ℕ) → Has a ≡ Nest h → ⊥
has_nest a h q = let z : ◌≡◌ {A = ℕ} 0 1 = cc in omega arith

has_same : (a b : ℕ) → Has a ≡ Has b → a ≡ b
has_same a b q = cc

nest_same : (a b : ℕ) → Nest a ≡ Nest b → a ≡ b
nest_same a b q = cc

module _ (gs : List Gr) (g : ℕ) (ms : List Member) (mine : members_at gs g ≡ ms) (k : ℕ) (walked before after : List Bool) (kept : Kept gs g ms k walked before after) (within : k < length ms) where
  among : (m : Member) → member_at ms k ≡ m → Among (members_at gs g) m
  among m e = subst (λ (l : List Member). Among l m) (sym mine) (subst (Among ms) e (has_get_or ms k (Has 0) within))

  -- one member more
  step : (walked' after' : List Bool) → Complete gs walked' after'
      → ((o : ℕ) → o < 64 → get_or after o false ≡ true → get_or after' o false ≡ true)
      → ((o : ℕ) → o < 64 → get_or after' o false ≡ true → (get_or after o false ≡ true) ⊎ Through gs g ms k o)
      → ((o : ℕ) → o < 64 → Through gs g ms k o → get_or after' o false ≡ true)
      → Kept gs g ms (k + 1) walked' before after'
  step walked' after' complete up down here = record {
    complete = complete;
    sound = λ o l h. ⊎_elim (kept.sound o l) (λ t. inr (⊎_elim (λ e. by_has (among (Has o) e)) (λ n. by_nest n.0 (among (Nest n.0) n.1) n.2 n.3) t)) (down o l h);
    keeps = λ o l h. up o l (kept.keeps o l h);
    passed = λ j o m l t. ⊎_elim (λ e. here o l (subst (λ i. Through gs g ms i o) e t)) (λ n. up o l (kept.passed j o (omega arith) l t)) (cases_eq j k);
  }

  -- a member that brings nothing
  idle : ((o : ℕ) → o < 64 → Through gs g ms k o → ⊥) → Kept gs g ms (k + 1) walked before after
  idle none = step walked after kept.complete (λ o l h. h) (λ o l h. inl h) (λ o l t. absurd (none o l t))

  module _ (a : ℕ) (e : member_at ms k ≡ Has a) where
    pub at_has_over : 64 ≤ a → Kept gs g ms (k + 1) walked before after
    at_has_over m = idle (λ o l t. ⊎_elim (λ f. let q : a ≡ o = has_same a o (sym e ∙ f) in omega arith) (λ n. has_nest a n.0 (sym e ∙ n.1)) t)

    pub at_has : length after ≡ 64 → a < 64 → Kept gs g ms (k + 1) walked before (set after a true)
    at_has long m = step walked (set after a true)
        (λ h o w l t. set-flag after a o (omega arith) (inr (kept.complete h o w l t)))
        (λ o l h. set-flag after a o (omega arith) (inr h))
        (λ o l h. ⊎_elim (λ q. inr (inl (e ∙ ap Has (sym q)))) (λ q. inl q) (flag_set after a o h))
        (λ o l t. ⊎_elim (λ f. set-flag after a o (omega arith) (inl (sym (has_same a o (sym e ∙ f))))) (λ n. absurd (has_nest a n.0 (sym e ∙ n.1))) t)

  module _ (h : ℕ) (e : member_at ms k ≡ Nest h) where
    pub at_nest_over : g ≤ h → Kept gs g ms (k + 1) walked before after
    at_nest_over m = idle (λ o l t. ⊎_elim (λ f. has_nest o h (sym f ∙ e)) (λ n. let q : n.0 ≡ h = nest_same n.0 h (sym n.1 ∙ e) in omega (arith, n.2)) t)

    pub at_nest : h < g → (walked' after' : List Bool) → Complete gs walked' after' → Grown gs h after after' → Kept gs g ms (k + 1) walked' before after'
    at_nest m walked' after' complete grown = step walked' after' complete
        (λ o l b. (grown o l).1 (inl b))
        (λ o l b. ⊎_elim (λ q. inl q) (λ v. inr (inr (h, e, m, v))) ((grown o l).0 b))
        (λ o l t. ⊎_elim (λ f. absurd (has_nest o h (sym f ∙ e))) (λ n. (grown o l).1 (inr (subst (λ i. Covers gs i o) (nest_same n.0 h (sym n.1 ∙ e)) n.3))) t)

-- the whole group
module _ (gs : List Gr) (g : ℕ) (ms : List Member) (mine : members_at gs g ≡ ms) (k : ℕ) (walked before after : List Bool) (kept : Kept gs g ms k walked before after) (all : length ms ≤ k) where
  there : (o : ℕ) → o < 64 → Covers gs g o → get_or after o false ≡ true
  there o l (by_has a) =
      let b : Among ms (Has o) = subst (λ (n : List Member). Among n (Has o)) mine a in
      let m : b.0 < length ms = b.1 in
      kept.passed b.0 o (omega arith) l (inl (b.2 (Has 0)))
  there o l (by_nest h a m t) =
      let b : Among ms (Nest h) = subst (λ (n : List Member). Among n (Nest h)) mine a in
      let i : b.0 < length ms = b.1 in
      kept.passed b.0 o (omega arith) l (inr (h, b.2 (Has 0), m, t))

  pub grown : Grown gs g before after
  grown o l = (kept.sound o l, ⊎_elim (kept.keeps o l) (there o l))

  pub complete : Complete gs (set walked g true) after
  complete h o w l t = ⊎_elim (λ e. there o l (subst (λ i. Covers gs i o) e t)) (λ q. kept.complete h o q l t) (flag_set walked g h w)

-- the members of a group that there is
pub members_are : (gs : List Gr) (g : ℕ) (x : Gr) → Some x ≡ slice_get gs g → members_at gs g ≡ x.members
members_are gs g x e = ap (or_else [] members_of) (sym e)

some_none : {X : Type 0} (x : X) → ◌≡◌ {A = Option X} (Some x) None → ⊥
some_none x e = let z : ◌≡◌ {A = ℕ} 0 1 = cc in omega arith

-- a table has at most 32 groups
pub group_within : (t : Table) (g : ℕ) (x : Gr) → Some x ≡ slice_get (policy_of t).groups g → g < 32
group_within t g x e =
    let ok = t.groups.ok in
    let l : length (policy_of t).groups ≤ 32 = simp length-map (omega (arith, rows_long t.groups, ok.0)) in
    ⊎_elim (λ (h : g < 32). h) (λ (h : 32 ≤ g). absurd (some_none x (e ∙ slice_get_past (policy_of t).groups g (omega arith)))) (cases_lt g 32)

unflagged : (n k : ℕ) → get_or (replicate n false) k false ≡ false
unflagged n k = ⊎_elim (λ (h : k < n). get_or-replicate n k false false h) (λ (h : n ≤ k). get_or_past (replicate n false) k false (omega (arith, length-replicate n false))) (cases_lt k n)

true_false : true ≡ false → ⊥
true_false e = let z : ◌≡◌ {A = ℕ} 0 1 = cc in omega arith

-- before a walk no group was walked
pub none_walked : (gs : List Gr) (covers : List Bool) → Complete gs (replicate 32 false) covers
none_walked gs covers k o w l t = absurd (true_false (sym w ∙ unflagged 32 k))

-- what a walk that began with no flags has flagged
pub first_grown : (gs : List Gr) (g : ℕ) (after : List Bool) → length after ≡ 64 → Grown gs g (replicate 64 false) after → after ≡ flags (covered gs g)
first_grown gs g after long h = flags_are gs (Group g) after long (λ o l. (λ e. ⊎_elim (λ w. absurd (true_false (sym w ∙ unflagged 64 o))) (λ t. t) ((h o l).0 e), λ t. (h o l).1 (inr t)))
