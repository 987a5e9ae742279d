-- What a group covers and to what a clause applies: as it is computed, and in the subject's words.
use Rattle.std.proofs.Common.{◌≡◌, ℕ, zero, suc, ◌<◌, ◌≤◌, Bool, true, false, ◌||◌, eqb, ◌⊎◌, List, [], ◌∷◌, ◌++◌, length, get_or, set, Decides, sym, refl, ap, ◌∙◌, subst, inl, inr, ⊎_elim, le_of_suc-le-suc, not-suc-le-zero, arith}
use Rattle.book.proofs.Sets.{has_decides}
use Rattle.book.specs.Books.{has}
use Rattle.policy.proofs.Among.{among_nil, among_here, among_later, among_cons, among_append, among_joined}
use Rattle.policy.specs.Coverage.Covers.{by_has, by_nest}
use Rattle.policy.specs.Coverage.{Gr, members_at, Covers, Applies, brought, coverages_from, coverages, covered, applies_to, flagged, flags}
use Rattle.policy.specs.declared.table.Member.TheVariants.{Has, Nest}
use Rattle.policy.specs.declared.table.Member.{Member}
use Rattle.policy.specs.declared.table.Target.TheVariants.{Operation, Group}
use Rattle.policy.specs.declared.table.Target.{Target}
use Rattle.std.proofs.lemmas.List.{append-nil, append_assoc, length_push, length-set, length-replicate, get_or_append_left, get_or_push, get_or-replicate, get_or-set_same, get_or-set_other, ext_get_or}
use Rattle.std.proofs.lemmas.Bool.{cases_eq, or_cases, or_left, eq-eqb, ne_eqb, eqb-true, false≢true}
use Rattle.std.proofs.lemmas.Bool.Decides.{same_from_decides}
use Rattle.std.specs.List.{flat_map, ContainsAt as Among}
use lib.ListN.{get_or-eq_default}
use Rattle.std.proofs.lemmas.Bool.{cases_lt}

-- What the members of a group bring.

-- o is had by a member, or covered by a group before that a member nests
abbrev Through : List (List ℕ) → List Member → ℕ → Type 0
Through before ms o = Among ms (Has o) ⊎ ((h : ℕ) × Among ms (Nest h) × Among (get_or before h []) o)

brings : (before : List (List ℕ)) (ms : List Member) (o : ℕ) → Among (flat_map (brought before) ms) o → Through before ms o
brings before [] o h = absurd (among_nil o h)
brings before (m ∷ ms) o h = ⊎_elim (first m) (λ t. later (brings before ms o t)) (among_append (brought before m) (flat_map (brought before) ms) o h)
  where
    first : (n : Member) → Among (brought before n) o → Through before (n ∷ ms) o
    first (Has x) a = ⊎_elim (λ e. inl (subst (λ y. Among (Has x ∷ ms) (Has y)) e (among_here (Has x) ms))) (λ t. absurd (among_nil o t)) (among_cons x [] o a)
    first (Nest h) a = inr (h, among_here (Nest h) ms, a)

    later : Through before ms o → Through before (m ∷ ms) o
    later (inl a) = inl (among_later m ms (Has o) a)
    later (inr t) = inr (t.0, among_later m ms (Nest t.0) t.1, t.2)

brought_in : (before : List (List ℕ)) (ms : List Member) (o : ℕ) → Through before ms o → Among (flat_map (brought before) ms) o
brought_in before ms o (inl a) = among_joined (brought before) ms (Has o) o a (among_here o [])
brought_in before ms o (inr t) = among_joined (brought before) ms (Nest t.0) o t.1 t.2

-- What is computed from the left is right of each group.

abbrev Right : List Gr → List (List ℕ) → Type 0
Right gs before = (k o : ℕ) → k < length before → (Among (get_or before k []) o → Covers gs k o) × (Covers gs k o → Among (get_or before k []) o)

some_below : (before : List (List ℕ)) (h o : ℕ) → Among (get_or before h []) o → h < length before
some_below before h o a = at (cases_lt h (length before))
  where
    at : (h < length before) ⊎ (length before ≤ h) → h < length before
    at (inl l) = l
    at (inr l) = absurd (among_nil o (subst (λ (os : List ℕ). Among os o) (get_or-eq_default before [] l) a))

module _ (gs : List Gr) (before : List (List ℕ)) (ms : List Member) (e : members_at gs (length before) ≡ ms) (r : Right gs before) where
  next_covers : (o : ℕ) → Among (flat_map (brought before) ms) o → Covers gs (length before) o
  next_covers o a = at (brings before ms o a)
    where
      at : Through before ms o → Covers gs (length before) o
      at (inl t) = by_has (subst (λ (l : List Member). Among l (Has o)) (sym e) t)
      at (inr t) = let l = some_below before t.0 o t.2 in by_nest t.0 (subst (λ (l : List Member). Among l (Nest t.0)) (sym e) t.1) l ((r t.0 o l).0 t.2)

  covers_next : (n o : ℕ) → length before ≡ n → Covers gs n o → Among (flat_map (brought before) ms) o
  covers_next n o i (by_has a) = brought_in before ms o (inl (subst (λ (l : List Member). Among l (Has o)) (ap (members_at gs) (sym i) ∙ e) a))
  covers_next n o i (by_nest h a l c) =
      let m : h < length before = omega arith in
      brought_in before ms o (inr (h, subst (λ (l : List Member). Among l (Nest h)) (ap (members_at gs) (sym i) ∙ e) a, (r h o m).1 c))

  abbrev new : List ℕ
  new = flat_map (brought before) ms

  right_push : Right gs (before ++ new ∷ [])
  right_push k o l = ⊎_elim last (λ n. earlier (omega (arith, length_push before new, l, n))) (cases_eq k (length before))
    where
      last : k ≡ length before → (Among (get_or (before ++ new ∷ []) k []) o → Covers gs k o) × (Covers gs k o → Among (get_or (before ++ new ∷ []) k []) o)
      last i =
          let g : get_or (before ++ new ∷ []) k [] ≡ new = get_or_push before new [] k (sym i) in
          (λ a. subst (λ (n : ℕ). Covers gs n o) (sym i) (next_covers o (subst (λ (os : List ℕ). Among os o) g a)), λ c. subst (λ (os : List ℕ). Among os o) (sym g) (covers_next k o (sym i) c))

      earlier : k < length before → (Among (get_or (before ++ new ∷ []) k []) o → Covers gs k o) × (Covers gs k o → Among (get_or (before ++ new ∷ []) k []) o)
      earlier m =
          let g = get_or_append_left before (new ∷ []) [] k m in
          (λ a. (r k o m).0 (subst (λ (os : List ℕ). Among os o) g a), λ c. subst (λ (os : List ℕ). Among os o) (sym g) ((r k o m).1 c))

members_mid : (ds : List Gr) (g : Gr) (gs : List Gr) → members_at (ds ++ g ∷ gs) (length ds) ≡ g.members
members_mid [] g gs = refl
members_mid (d ∷ ds) g gs = members_mid ds g gs

members_beyond : (gs : List Gr) (k : ℕ) → length gs ≤ k → members_at gs k ≡ []
members_beyond [] k l = refl
members_beyond (g ∷ gs) zero l = absurd (not-suc-le-zero l)
members_beyond (g ∷ gs) (suc k) l = members_beyond gs k (le_of_suc-le-suc l)

right_from : (gs ds rest : List Gr) (before : List (List ℕ)) → ds ++ rest ≡ gs → length before ≡ length ds → Right gs before → Right gs (coverages_from before rest) × (length (coverages_from before rest) ≡ length gs)
right_from gs ds [] before e l r = (r, l ∙ ap length (sym (append-nil ds) ∙ e))
right_from gs ds (g ∷ rest) before e l r =
    let new = flat_map (brought before) g.members in
    let m : members_at gs (length before) ≡ g.members = ap (members_at gs) l ∙ ap (λ (xs : List Gr). members_at xs (length ds)) (sym e) ∙ members_mid ds g rest in
    right_from gs (ds ++ g ∷ []) rest (before ++ new ∷ []) (append_assoc ds (g ∷ []) rest ∙ e) (omega (arith, length_push before new, length_push ds g, l)) (right_push gs before g.members m r)

beyond : (gs : List Gr) (k o : ℕ) → length gs ≤ k → Covers gs k o → ⊥
beyond gs k o l (by_has a) = among_nil (Has o) (subst (λ (ms : List Member). Among ms (Has o)) (members_beyond gs k l) a)
beyond gs k o l (by_nest h a m c) = among_nil (Nest h) (subst (λ (ms : List Member). Among ms (Nest h)) (members_beyond gs k l) a)

-- o is among what group k is computed to cover exactly when group k covers o
pub covered_decides : (gs : List Gr) (k o : ℕ) → Decides (has (covered gs k) o) (Covers gs k o)
covered_decides gs k o =
    let r = right_from gs [] gs [] refl refl (λ i j l. absurd (not-suc-le-zero l)) in
    let d = has_decides (covered gs k) o in
    ⊎_elim (λ (l : k < length gs). let m : k < length (coverages gs) = omega (arith, l, r.1) in (λ h. (r.0 k o m).0 (d.0 h), λ c. d.1 ((r.0 k o m).1 c)))
    (λ (l : length gs ≤ k). let e : covered gs k ≡ [] = get_or-eq_default (coverages gs) [] (omega (arith, l, r.1)) in (λ h. absurd (false≢true (ap (λ (os : List ℕ). has os o) (sym e) ∙ h)), λ c. absurd (beyond gs k o l c)))
    (cases_lt k (length gs))

-- the same of a clause's target
pub applies_decides : (gs : List Gr) (t : Target) (o : ℕ) → Decides (has (applies_to gs t) o) (Applies gs t o)
applies_decides gs (Operation k) o = (λ h. ⊎_elim (λ e. sym (eqb-true k o e)) (λ f. absurd (false≢true f)) (or_cases (eqb k o) false h), λ e. or_left (eqb k o) false (eq-eqb k o (sym e)))
applies_decides gs (Group k) o = covered_decides gs k o

-- The flags.

pub flagged_length : (n : ℕ) (os : List ℕ) → length (flagged n os) ≡ n
flagged_length n [] = length-replicate n false
flagged_length n (o ∷ os) = length-set (flagged n os) o true ∙ flagged_length n os

-- a flag is raised exactly for those of the list
pub flagged_has : (n : ℕ) (os : List ℕ) (o : ℕ) → o < n → get_or (flagged n os) o false ≡ has os o
flagged_has n [] o l = get_or-replicate n o false false l
flagged_has n (x ∷ os) o l = ⊎_elim here (there (flagged_has n os o l)) (cases_eq o x)
  where
    here : o ≡ x → get_or (set (flagged n os) x true) o false ≡ (eqb x o || has os o)
    here e = ap (λ i. get_or (set (flagged n os) x true) i false) e ∙ get_or-set_same (flagged n os) x true false (omega (arith, l, e, flagged_length n os)) ∙ sym (or_left (eqb x o) (has os o) (eq-eqb x o (sym e)))

    there : get_or (flagged n os) o false ≡ has os o → (o ≡ x → ⊥) → get_or (set (flagged n os) x true) o false ≡ (eqb x o || has os o)
    there f d = get_or-set_other (flagged n os) x o true false d ∙ f ∙ ap (λ (b : Bool). b || has os o) (sym (ne_eqb x o (λ e. d (sym e))))

-- what is flagged is in the list
pub has_flagged : (n : ℕ) (os : List ℕ) (o : ℕ) → get_or (flagged n os) o false ≡ true → has os o ≡ true
has_flagged n os o e = ⊎_elim (λ l. sym (flagged_has n os o l) ∙ e) (λ l. absurd (false≢true (sym (get_or-eq_default (flagged n os) false (omega (arith, l, flagged_length n os))) ∙ e))) (cases_lt o n)

-- flags of which each is raised exactly for what a clause with that target applies to
pub flags_are : (gs : List Gr) (t : Target) (fs : List Bool) → length fs ≡ 64 → ((o : ℕ) → o < 64 → Decides (get_or fs o false) (Applies gs t o)) → fs ≡ flags (applies_to gs t)
flags_are gs t fs l h = ext_get_or false fs (flags (applies_to gs t)) (l ∙ sym (flagged_length 64 (applies_to gs t))) (λ o m.
    let k : o < 64 = omega (arith, l, m) in
    same_from_decides (get_or fs o false) (has (applies_to gs t) o) (h o k) (applies_decides gs t o) ∙ sym (flagged_has 64 (applies_to gs t) o k))
