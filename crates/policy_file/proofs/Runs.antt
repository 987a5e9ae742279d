-- The commands of a policy so far, one after the other, make that policy.
use Rattle.std.proofs.Common.{◌≡◌, ℕ, ◌+◌, ◌<◌, ◌≤◌, Bool, false, not, List, [], ◌∷◌, ◌++◌, map, length, is_some, Some, None, Option, sym, refl, ap, ◌∙◌, subst, arith}
use Rattle.book.specs.Books.{Op, Bk, or_else, full, named}
use Rattle.book_file.proofs.Parts.{all_mid, less_full, shorter_front, out_named, is_name}
use Rattle.book_file.proofs.Runs.{unlike}
use Rattle.book_file.specs.Law.{Apart, Proper}
use Rattle.format.proofs.Runs.{Ran, ran_append, ran_joined, ran_map}
use Rattle.policy.specs.Coverage.{Gr, applies_to, flags}
use Rattle.policy.specs.Policies.{Cs, Po, empty_policy, cs_label, unfinished, guarded, acting, with_clause, lacks}
use Rattle.policy.specs.declared.table.Action.TheVariants.{Violate, Write}
use Rattle.policy.specs.declared.table.Action.{Action}
use Rattle.policy.specs.declared.table.Comparison.{Comparison}
use Rattle.policy.specs.declared.table.Member.TheVariants.{Has, Nest}
use Rattle.policy.specs.declared.table.Member.{Member}
use Rattle.policy.specs.declared.table.Target.TheVariants.{Operation, Group}
use Rattle.policy.specs.declared.table.Target.{Target}
use Rattle.policy.specs.declared.table.Term.{Term}
use Rattle.policy.specs.declared.table.When.{When}
use Rattle.policy_file.proofs.Bytes.{Sized}
use Rattle.policy_file.proofs.Ends.{policy, clause, Fits, member_misplaced, member_crowded, member_obey, last_unfinished, when_crowded, when_lacking, write_lacking, in_clause}
use Rattle.policy_file.proofs.Parts.{numbered_mid, before_front, none_pending, not_absent, not_below, comparison_back, term_known, term_back, lawful_basic, lawful_lacks}
use Rattle.policy_file.specs.Changes.{obey}
use Rattle.policy_file.specs.Law.{as_cell, as_member, as_target, as_when, as_action, of_gr, of_cs, commands_of, comparison_number, raw_of, Numbered, before_last, LawfulMember, LawfulGr, LawfulTarget, LawfulTerm, LawfulWhen, LawfulAction, LawfulCs, Acted, SoFar}
use Rattle.policy.specs.Comparisons.{comparison_of}
use Rattle.policy_file.specs.Terms.{term_of, when_with, write_with}
use Rattle.policy_file.specs.Tests.{undefined, lacks_in}
use Rattle.policy_file.specs.declared.commands.Command.{Command}
use Rattle.std.proofs.lemmas.List.{length_push}
use Rattle.std.proofs.lemmas.Bool.{or_from}
use Rattle.std.specs.List.{flat_map, AllByRecursion}
use Rattle.tables.specs.declared.name.Name.{Name}

module _ (b : Bk) where
  abbrev ops : List Op
  ops = b.operations

  -- the command has a whole label and fits
  abbrev pub Good : Po → Command → Type 0
  Good p c = Sized c × Fits b p c

  -- the commands fit one after the other and make a of p
  abbrev pub Made : List Command → Po → Po → Type 0
  Made = Ran obey Good

  -- Cells and groups.

  cells_ran : (vs : List ℕ) → length vs ≤ 128 → Made (map as_cell vs) (policy [] [] []) (policy vs [] [])
  cells_ran = ran_map obey Good as_cell (λ ds. policy ds [] []) (λ vs. length vs ≤ 128) (λ ds v vs h.
      ((tt, record { placed = refl; room = less_full 128 ds (shorter_front 128 ds v vs h); inside = refl; defined = refl; fresh = refl; met = refl }), refl))

  abbrev group : List Member → Gr
  group ms = record { members = ms }

  module _ (vs : List ℕ) (gs : List Gr) where
    abbrev ending_group : List Member → Po
    ending_group ms = policy vs (gs ++ group ms ∷ []) []

    member_good : (ds : List Member) (m : Member) → length ds < 16 → LawfulMember ops (0 + length gs) m → Good (ending_group ds) (as_member m)
    member_good ds (Has o) l h = (tt, record { placed = member_misplaced vs gs (group ds) (Has o); room = member_crowded vs gs (group ds) (Has o) ∙ less_full 16 ds l; inside = refl; defined = not_absent ops o h; fresh = refl; met = refl })
    member_good ds (Nest k) l h = (tt, record { placed = member_misplaced vs gs (group ds) (Nest k); room = member_crowded vs gs (group ds) (Nest k) ∙ less_full 16 ds l; inside = refl; defined = not_below (k + 1) (length (gs ++ group ds ∷ [])) (omega (arith, h, length_push gs (group ds))); fresh = refl; met = refl })

    abbrev Members : List Member → Type 0
    Members ms = (length ms ≤ 16) × AllByRecursion (LawfulMember ops (0 + length gs)) ms

    members_ran : (ms : List Member) → Members ms → Made (map as_member ms) (ending_group []) (ending_group ms)
    members_ran = ran_map obey Good as_member ending_group Members (λ ds m ms h.
        (member_good ds m (shorter_front 16 ds m ms h.0) (all_mid (LawfulMember ops (0 + length gs)) ds m ms h.1), member_obey vs gs (group ds) m))

  abbrev Groups : List Gr → Type 0
  Groups gs = (length gs ≤ 32) × Numbered (LawfulGr ops) 0 gs

  groups_ran : (vs : List ℕ) (gs : List Gr) → Groups gs → Made (flat_map of_gr gs) (policy vs [] []) (policy vs gs [])
  groups_ran vs = ran_joined obey Good of_gr (λ ds. policy vs ds []) Groups (λ ds g gs h.
      let w = numbered_mid (LawfulGr ops) 0 ds g gs h.1 in
      ((tt, record { placed = refl; room = less_full 32 ds (shorter_front 32 ds g gs h.0); inside = refl; defined = refl; fresh = refl; met = refl }), members_ran vs ds g.members (w.few_members, w.members)))

  -- The parts of a clause.

  module _ (vs : List ℕ) (gs : List Gr) (cs : List Cs) (n : Name) (t : Target) where
    -- the policy that ends in the clause
    abbrev ending : List When → Option Action → Po
    ending ws a = policy vs gs (cs ++ clause n t (flags (applies_to gs t)) ws a ∷ [])

    abbrev Terms : Term → Type 0
    Terms = LawfulTerm ops vs gs t

    found : (x : Term) → Terms x → term_of vs (raw_of x) ≡ Some x
    found x h = term_back vs x (lawful_basic ops vs gs t x h)

    term_found : (x : Term) → Terms x → not (is_some (term_of vs (raw_of x))) ≡ false
    term_found x h = ap (λ (o : Option Term). not (is_some o)) (found x h)

    term_met : (ws : List When) (a : Option Action) (x : Term) → Terms x → lacks_in ops vs (clause n t (flags (applies_to gs t)) ws a) (raw_of x) ≡ false
    term_met ws a x h = ap (or_else false (lacks ops (flags (applies_to gs t)))) (found x h) ∙ lawful_lacks ops vs gs t x h

    abbrev Whens : List When → Type 0
    Whens ws = (length ws ≤ 3) × AllByRecursion (LawfulWhen ops vs gs t) ws

    whens_ran : (ws : List When) → Whens ws → Made (map as_when ws) (ending [] None) (ending ws None)
    whens_ran = ran_map obey Good as_when (λ ds. ending ds None) Whens (λ ds w ws h.
        let c = clause n t (flags (applies_to gs t)) ds None in
        let q = comparison_number w.comparison in
        let l = raw_of w.left in
        let r = raw_of w.right in
        let k = all_mid (LawfulWhen ops vs gs t) ds w ws h.1 in
        let e = comparison_back w.comparison in
        let made : when_with (comparison_of q) (term_of vs l) (term_of vs r) ≡ Some w = ap (λ (o : Option Comparison). when_with o (term_of vs l) (term_of vs r)) e ∙ ap (λ (o : Option Term). when_with (Some w.comparison) o (term_of vs r)) (found w.left k.left) ∙ ap (λ (o : Option Term). when_with (Some w.comparison) (Some w.left) o) (found w.right k.right) in (
          (
            tt,
            record {
              placed = ap not (last_unfinished vs gs cs c);
              room = when_crowded vs gs cs c q l r ∙ less_full 3 ds (shorter_front 3 ds w ws h.0);
              inside = or_from _ _ (ap (λ (o : Option Comparison). not (is_some o)) e) (or_from _ _ (term_known vs w.left (lawful_basic ops vs gs t w.left k.left)) (term_known vs w.right (lawful_basic ops vs gs t w.right k.right)));
              defined = or_from _ _ (term_found w.left k.left) (term_found w.right k.right);
              fresh = refl;
              met = when_lacking vs gs cs c ops q l r ∙ or_from _ _ (term_met ds None w.left k.left) (term_met ds None w.right k.right);
            },
          ),
          in_clause vs gs cs c (guarded (when_with (comparison_of q) (term_of vs l) (term_of vs r))) ∙ ap (λ (o : Option When). policy vs gs (cs ++ guarded o c ∷ [])) made,
        ))

    action_ran : (ws : List When) (a : Option Action) → LawfulAction ops vs gs t a → Made (as_action a) (ending ws None) (ending ws a)
    action_ran ws None h = refl
    action_ran ws (Some Violate) h =
        let c = clause n t (flags (applies_to gs t)) ws None in
        ((tt, record { placed = ap not (last_unfinished vs gs cs c); room = refl; inside = refl; defined = refl; fresh = refl; met = refl }), in_clause vs gs cs c (acting (Some Violate)))
    action_ran ws (Some (Write w k x)) h =
        let c = clause n t (flags (applies_to gs t)) ws None in
        let r = raw_of x in (
          (
            tt,
            record {
              placed = ap not (last_unfinished vs gs cs c);
              room = refl;
              inside = term_known vs x (lawful_basic ops vs gs t x h.1);
              defined = or_from _ _ (not_below k (length vs) h.0) (term_found x h.1);
              fresh = refl;
              met = write_lacking vs gs cs c ops w k r ∙ term_met ws None x h.1;
            },
          ),
          in_clause vs gs cs c (acting (write_with w k (term_of vs r))) ∙ ap (λ (o : Option Term). policy vs gs (cs ++ acting (write_with w k o) c ∷ [])) (found x h.1),
        )

  -- Clauses.

  abbrev Clauses : List ℕ → List Gr → List Cs → Type 0
  Clauses vs gs cs = (length cs ≤ 256) × Apart (map cs_label cs) × AllByRecursion (LawfulCs ops vs gs) cs × AllByRecursion Acted (before_last cs)

  target_there : (p : Po) (t : Target) (n : Name) → LawfulTarget ops p.groups t → undefined ops p (as_target t n) ≡ false
  target_there p (Operation o) n d = not_absent ops o d
  target_there p (Group k) n d = not_absent p.groups k d

  target_fits : (p : Po) (t : Target) (n : Name) → Proper n.letters → unfinished p ≡ false → full 256 p.clauses ≡ false → undefined ops p (as_target t n) ≡ false → named (map cs_label p.clauses) n.letters ≡ false → Good p (as_target t n)
  target_fits p (Operation o) n w u f d q = (w.eight, record { placed = u; room = f; inside = is_name n.letters w; defined = d; fresh = q; met = refl })
  target_fits p (Group k) n w u f d q = (w.eight, record { placed = u; room = f; inside = is_name n.letters w; defined = d; fresh = q; met = refl })

  target_good : (vs : List ℕ) (gs : List Gr) (ds : List Cs) (c : Cs) (cs : List Cs) → LawfulTarget ops gs c.target → Clauses vs gs (ds ++ c ∷ cs) → Good (policy vs gs ds) (as_target c.target c.label)
  target_good vs gs ds c cs d h =
      let p = policy vs gs ds in
      let k = all_mid (LawfulCs ops vs gs) ds c cs h.2 in
      target_fits p c.target c.label k.label (none_pending ds (before_front Acted ds c cs h.3)) (less_full 256 ds (shorter_front 256 ds c cs h.0)) (target_there p c.target c.label d) (out_named (map cs_label ds) (cs_label c) (unlike cs_label ds c cs h.1))

  target_obey : (p : Po) (t : Target) (n : Name) → obey p (as_target t n) ≡ with_clause t n p
  target_obey p (Operation o) n = refl
  target_obey p (Group k) n = refl

  clause_ran : (vs : List ℕ) (gs : List Gr) (ds : List Cs) (c : Cs) (cs : List Cs) → Clauses vs gs (ds ++ c ∷ cs) → Made (of_cs c) (policy vs gs ds) (policy vs gs (ds ++ c ∷ []))
  clause_ran vs gs ds c cs h =
      let k = all_mid (LawfulCs ops vs gs) ds c cs h.2 in
      let n = c.label in
      let t = c.target in
      let parts : List Command = map as_when c.whens ++ as_action c.action in
      let made : Made parts (ending vs gs ds n t [] None) (ending vs gs ds n t c.whens c.action) = ran_append obey Good _ _ _ _ _ (whens_ran vs gs ds n t c.whens (k.few_whens, k.whens)) (action_ran vs gs ds n t c.whens c.action k.action) in
      (target_good vs gs ds c cs k.target h, subst (λ (p : Po). Made parts p (policy vs gs (ds ++ c ∷ []))) (sym (target_obey (policy vs gs ds) t n)) (subst (λ (fs : List Bool). Made parts (ending vs gs ds n t [] None) (policy vs gs (ds ++ clause n t fs c.whens c.action ∷ []))) (sym k.covers) made))

  clauses_ran : (vs : List ℕ) (gs : List Gr) (cs : List Cs) → Clauses vs gs cs → Made (flat_map of_cs cs) (policy vs gs []) (policy vs gs cs)
  clauses_ran vs gs = ran_joined obey Good of_cs (policy vs gs) (Clauses vs gs) (clause_ran vs gs)

  pub complete : (p : Po) → SoFar b p → Made (commands_of p) empty_policy p
  complete p h =
      let vs = p.cells in
      let gs = p.groups in
      ran_append obey Good (map as_cell vs) _ empty_policy (policy vs [] []) p (cells_ran vs h.few_cells)
      (ran_append obey Good (flat_map of_gr gs) (flat_map of_cs p.clauses) (policy vs [] []) (policy vs gs []) p (groups_ran vs gs (h.few_groups, h.each_group))
      (clauses_ran vs gs p.clauses (h.few_clauses, h.labels_apart, h.each_clause, h.acted_before)))
