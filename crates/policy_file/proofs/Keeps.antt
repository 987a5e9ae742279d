-- A command that no test speaks against makes of a policy so far a policy so far, which is written as before with the command at the end.
use Rattle.std.proofs.Common.{◌≡◌, ℕ, ◌+◌, ◌<◌, ◌≤◌, Bool, false, not, List, [], ◌∷◌, ◌++◌, map, length, is_some, Some, None, Option, sym, refl, ap, ◌∙◌, subst, arith}
use Rattle.book.specs.Books.{Op, Bk, or_else, full, named}
use Rattle.book_file.proofs.Ends.{view}
use Rattle.book_file.proofs.Keeps.{grown, grown_nil}
use Rattle.book_file.proofs.Parts.{all_mid, all_swap, apart_push, full_less, named_out, name_is}
use Rattle.book_file.specs.Law.{Apart, Proper}
use Rattle.policy.specs.Coverage.{Gr, Applies}
use Rattle.policy.specs.Policies.{Cs, Po, new_gr, new_cs, cs_label, joining, guarded, acting, unfinished, lacks}
use Rattle.policy.specs.declared.table.Action.TheVariants.{Violate, Write}
use Rattle.policy.specs.declared.table.Action.{Action}
use Rattle.policy.specs.declared.table.Comparison.{Comparison}
use Rattle.policy.specs.declared.table.Member.TheVariants.{Has, Nest}
use Rattle.policy.specs.declared.table.Member.{Member}
use Rattle.policy.specs.declared.table.Target.TheVariants.{Operation, Group}
use Rattle.policy.specs.declared.table.Target.{Target}
use Rattle.policy.specs.declared.table.Term.{Term}
use Rattle.policy.specs.declared.table.When.{When}
use Rattle.policy.specs.declared.table.Write.{Write as Change}
use Rattle.policy_file.proofs.Bytes.{Sized}
use Rattle.policy_file.proofs.Ends.{policy, clause, Fits, member_crowded, member_obey, last_unfinished, when_crowded, when_lacking, write_lacking, in_clause}
use Rattle.policy_file.proofs.Parts.{numbered_push, numbered_swap, before_push, all_acted, there, below, comparison_is, Basic, term_is, applies_defined, term_lawful}
use Rattle.policy_file.specs.Changes.{obey}
use Rattle.policy_file.specs.Law.{as_cell, as_member, as_target, as_when, as_action, of_gr, of_cs, commands_of, raw_of, LawfulMember, LawfulGr, LawfulTarget, LawfulTerm, LawfulWhen, LawfulCs, Acted, SoFar}
use Rattle.policy.specs.Comparisons.{comparison_of}
use Rattle.policy_file.specs.Terms.{term_of, when_with, write_with}
use Rattle.policy_file.specs.Tests.{lacks_in}
use Rattle.policy_file.specs.declared.commands.Command.TheVariants.{Cell as CELL, Group as GROUP, Has as HAS, Nest as NEST, On as ON, OnGroup as ONGROUP, When as WHEN, Violate as VIOLATE, Write as WRITE}
use Rattle.policy_file.specs.declared.commands.Command.{Command}
use Rattle.policy_file.specs.declared.commands.RawTerm.{RawTerm}
use Rattle.std.proofs.ByRecursion.{All-push}
use Rattle.std.proofs.lemmas.List.{length_push, flat_map_more, map_push}
use Rattle.std.proofs.lemmas.Bool.{or_parts, false≢true}
use Rattle.std.specs.List.{flat_map, AllByRecursion}
use Rattle.tables.specs.declared.name.Name.{Name}

-- The commands of a policy that has grown by one command.

-- another in the place of the last, written with one command more
joined_grown : {X : Type 0} (f : X → List Command) (xs : List X) (x y : X) (c : Command) → f y ≡ f x ++ c ∷ [] → flat_map f (xs ++ y ∷ []) ≡ flat_map f (xs ++ x ∷ []) ++ c ∷ []
joined_grown f xs x y c e = sym (flat_map_more f [] xs y) ∙ grown (flat_map f xs) (f x) (f y) c e ∙ ap (λ (l : List Command). l ++ c ∷ []) (flat_map_more f [] xs x)

groups_grown : (vs : List ℕ) (gs hs : List Gr) (x : Command) → flat_map of_gr hs ≡ flat_map of_gr gs ++ x ∷ [] → commands_of (policy vs hs []) ≡ commands_of (policy vs gs []) ++ x ∷ []
groups_grown vs gs hs x e = grown (map as_cell vs) (flat_map of_gr gs ++ []) (flat_map of_gr hs ++ []) x (grown_nil (flat_map of_gr gs) (flat_map of_gr hs) x e)

clauses_grown : (vs : List ℕ) (gs : List Gr) (cs ds : List Cs) (x : Command) → flat_map of_cs ds ≡ flat_map of_cs cs ++ x ∷ [] → commands_of (policy vs gs ds) ≡ commands_of (policy vs gs cs) ++ x ∷ []
clauses_grown vs gs cs ds x e = grown (map as_cell vs) (flat_map of_gr gs ++ flat_map of_cs cs) (flat_map of_gr gs ++ flat_map of_cs ds) x (grown (flat_map of_gr gs) (flat_map of_cs cs) (flat_map of_cs ds) x e)

module _ (b : Bk) (short : length b.operations ≤ 64) where
  abbrev ops : List Op
  ops = b.operations

  -- a is so far and written as p with the command at the end
  abbrev Kept : Po → Command → Po → Type 0
  Kept p c a = SoFar b a × (commands_of a ≡ commands_of p ++ c ∷ [])

  abbrev Keeps : Po → Command → Type 0
  Keeps p c = Sized c → Fits b p c → SoFar b p → Kept p c (obey p c)

  -- Cells and groups.

  keeps_cell : (vs : List ℕ) (gs : List Gr) (cs : List Cs) (v : ℕ) → Keeps (policy vs gs cs) (CELL v)
  keeps_cell vs [] [] v s h l = (record { few_cells = omega (arith, length_push vs v, full_less 128 vs h.room); few_groups = l.few_groups; few_clauses = l.few_clauses; each_group = tt; labels_apart = tt; each_clause = tt; acted_before = tt }, grown_nil (map as_cell vs) (map as_cell (vs ++ v ∷ [])) (CELL v) (map_push as_cell vs v))
  keeps_cell vs [] (c ∷ cs) v s h l = absurd (false≢true (sym h.placed))
  keeps_cell vs (g ∷ gs) cs v s h l = absurd (false≢true (sym h.placed))

  keeps_group : (vs : List ℕ) (gs : List Gr) (cs : List Cs) → Keeps (policy vs gs cs) GROUP
  keeps_group vs gs [] s h l = (record { few_cells = l.few_cells; few_groups = omega (arith, length_push gs new_gr, full_less 32 gs h.room); few_clauses = l.few_clauses; each_group = numbered_push (LawfulGr ops) 0 gs new_gr l.each_group (record { few_members = omega arith; members = tt }); labels_apart = tt; each_clause = tt; acted_before = tt }, groups_grown vs gs (gs ++ new_gr ∷ []) GROUP (sym (flat_map_more of_gr [] gs new_gr)))
  keeps_group vs gs (c ∷ cs) s h l = absurd (false≢true (sym h.placed))

  -- one more member of the last group
  member_kept : (vs : List ℕ) (gs : List Gr) (g : Gr) (m : Member) → Fits b (policy vs (gs ++ g ∷ []) []) (as_member m) → ((n : ℕ) → n ≡ 0 + length gs → LawfulMember ops n m) → SoFar b (policy vs (gs ++ g ∷ []) []) → Kept (policy vs (gs ++ g ∷ []) []) (as_member m) (obey (policy vs (gs ++ g ∷ []) []) (as_member m))
  member_kept vs gs g m h f l =
      let room = full_less 16 g.members (sym (member_crowded vs gs g m) ∙ h.room) in
      subst (Kept (policy vs (gs ++ g ∷ []) []) (as_member m)) (sym (member_obey vs gs g m)) (
        record { few_cells = l.few_cells; few_groups = omega (arith, length_push gs g, length_push gs (joining m g), l.few_groups); few_clauses = l.few_clauses; each_group = numbered_swap (LawfulGr ops) 0 gs g (joining m g) (λ n e w. record { few_members = omega (arith, length_push g.members m, room); members = All-push (LawfulMember ops n) g.members m w.members (f n e) }) l.each_group; labels_apart = tt; each_clause = tt; acted_before = tt },
        groups_grown vs (gs ++ g ∷ []) (gs ++ joining m g ∷ []) (as_member m) (joined_grown of_gr gs g (joining m g) (as_member m) (ap (λ (k : List Command). GROUP ∷ k) (map_push as_member g.members m))),
      )

  has_kept : (vs : List ℕ) (gs : List Gr) (g : Gr) (o : ℕ) → Keeps (policy vs (gs ++ g ∷ []) []) (HAS o)
  has_kept vs gs g o s h l = member_kept vs gs g (Has o) h (λ n e. there ops o h.defined) l

  nest_kept : (vs : List ℕ) (gs : List Gr) (g : Gr) (k : ℕ) → Keeps (policy vs (gs ++ g ∷ []) []) (NEST k)
  nest_kept vs gs g k s h l = member_kept vs gs g (Nest k) h (λ n e. omega (arith, e, length_push gs g, below (k + 1) (length (gs ++ g ∷ [])) h.defined)) l

  in_last_group : (x : Command) → ((vs : List ℕ) (gs : List Gr) (g : Gr) → Keeps (policy vs (gs ++ g ∷ []) []) x) → (vs : List ℕ) (g : Gr) (gs : List Gr) → Keeps (policy vs (g ∷ gs) []) x
  in_last_group x f vs g gs = let v = view g gs in subst (λ (l : List Gr). Keeps (policy vs l []) x) (sym v.2) (f vs v.0 v.1)

  keeps_has : (vs : List ℕ) (gs : List Gr) (cs : List Cs) (o : ℕ) → Keeps (policy vs gs cs) (HAS o)
  keeps_has vs [] [] o = λ s h l. absurd (false≢true (sym h.placed))
  keeps_has vs (g ∷ gs) [] o = in_last_group (HAS o) (λ vs gs g. has_kept vs gs g o) vs g gs
  keeps_has vs gs (c ∷ cs) o = λ s h l. absurd (false≢true (sym h.placed))

  keeps_nest : (vs : List ℕ) (gs : List Gr) (cs : List Cs) (k : ℕ) → Keeps (policy vs gs cs) (NEST k)
  keeps_nest vs [] [] k = λ s h l. absurd (false≢true (sym h.placed))
  keeps_nest vs (g ∷ gs) [] k = in_last_group (NEST k) (λ vs gs g. nest_kept vs gs g k) vs g gs
  keeps_nest vs gs (c ∷ cs) k = λ s h l. absurd (false≢true (sym h.placed))

  -- One more clause at the end, or another in the place of the last.

  clause_begun : (vs : List ℕ) (gs : List Gr) (cs : List Cs) (t : Target) (n : Name) → Proper n.letters → LawfulTarget ops gs t → unfinished (policy vs gs cs) ≡ false → full 256 cs ≡ false → named (map cs_label cs) n.letters ≡ false → SoFar b (policy vs gs cs) → Kept (policy vs gs cs) (as_target t n) (policy vs gs (cs ++ new_cs gs t n ∷ []))
  clause_begun vs gs cs t n w d u f q l =
      let c = new_cs gs t n in (
        record { few_cells = l.few_cells; few_groups = l.few_groups; few_clauses = omega (arith, length_push cs c, full_less 256 cs f); each_group = l.each_group; labels_apart = subst Apart (sym (map_push cs_label cs c)) (apart_push (map cs_label cs) (cs_label c) l.labels_apart (named_out (map cs_label cs) (cs_label c) q)); each_clause = All-push (LawfulCs ops vs gs) cs c l.each_clause (record { label = w; target = d; covers = refl; few_whens = omega arith; whens = tt; action = tt }); acted_before = subst (AllByRecursion Acted) (sym (before_push cs c)) (all_acted cs l.acted_before u) },
        clauses_grown vs gs cs (cs ++ c ∷ []) (as_target t n) (sym (flat_map_more of_cs [] cs c)),
      )

  keeps_on : (vs : List ℕ) (gs : List Gr) (cs : List Cs) (o : ℕ) (n : Name) → Keeps (policy vs gs cs) (ON o n)
  keeps_on vs gs cs o n s h l = clause_begun vs gs cs (Operation o) n (name_is n.letters s h.inside) (there ops o h.defined) h.placed h.room h.fresh l

  keeps_ongroup : (vs : List ℕ) (gs : List Gr) (cs : List Cs) (k : ℕ) (n : Name) → Keeps (policy vs gs cs) (ONGROUP k n)
  keeps_ongroup vs gs cs k n s h l = clause_begun vs gs cs (Group k) n (name_is n.letters s h.inside) (there gs k h.defined) h.placed h.room h.fresh l

  clause_swapped : (vs : List ℕ) (gs : List Gr) (cs : List Cs) (c d : Cs) (x : Command) → cs_label c ≡ cs_label d → of_cs d ≡ of_cs c ++ x ∷ [] → (LawfulCs ops vs gs c → LawfulCs ops vs gs d) → SoFar b (policy vs gs (cs ++ c ∷ [])) → Kept (policy vs gs (cs ++ c ∷ [])) x (policy vs gs (cs ++ d ∷ []))
  clause_swapped vs gs cs c d x e i f l = (
    record { few_cells = l.few_cells; few_groups = l.few_groups; few_clauses = omega (arith, length_push cs c, length_push cs d, l.few_clauses); each_group = l.each_group; labels_apart = subst Apart (map_push cs_label cs c ∙ ap (λ (n : List ℕ). map cs_label cs ++ n ∷ []) e ∙ sym (map_push cs_label cs d)) l.labels_apart; each_clause = all_swap (LawfulCs ops vs gs) cs c d f l.each_clause; acted_before = subst (AllByRecursion Acted) (before_push cs c ∙ sym (before_push cs d)) l.acted_before },
    clauses_grown vs gs (cs ++ c ∷ []) (cs ++ d ∷ []) x (joined_grown of_cs cs c d x i),
  )

  -- The commands in the last clause.

  -- a term in the last clause that the tests let pass
  term_passed : (vs : List ℕ) (gs : List Gr) (c : Cs) (r : RawTerm) (x : Term) → term_of vs r ≡ Some x → Basic vs x → lacks_in ops vs c r ≡ false → ((o : ℕ) → Applies gs c.target o → o < 64) → LawfulCs ops vs gs c → LawfulTerm ops vs gs c.target x
  term_passed vs gs c r x e basic h f w = term_lawful ops vs gs c.target x basic (ap (λ (fs : List Bool). lacks ops fs x) (sym w.covers) ∙ ap (or_else false (lacks ops c.covers)) (sym e) ∙ h) f

  -- the operations to which a lawful clause applies have flags
  flagged_all : (vs : List ℕ) (gs : List Gr) (cs : List Cs) (c : Cs) → SoFar b (policy vs gs (cs ++ c ∷ [])) → (o : ℕ) → Applies gs c.target o → o < 64
  flagged_all vs gs cs c l o a = let w = all_mid (LawfulCs ops vs gs) cs c [] l.each_clause in omega (arith, short, applies_defined ops gs c.target o l.each_group w.target a)

  when_kept : (vs : List ℕ) (gs : List Gr) (cs : List Cs) (n : Name) (t : Target) (fs : List Bool) (ws : List When) (a : Option Action) (q : ℕ) (l r : RawTerm) → Keeps (policy vs gs (cs ++ clause n t fs ws a ∷ [])) (WHEN q l r)
  when_kept vs gs cs n t fs ws (Some a) q l r s h k = absurd (false≢true (sym (ap not (sym (last_unfinished vs gs cs (clause n t fs ws (Some a)))) ∙ h.placed)))
  when_kept vs gs cs n t fs ws None q l r s h k =
      let c = clause n t fs ws None in
      let outs = or_parts (not (is_some (comparison_of q))) _ h.inside in
      let v = comparison_is q outs.0 in
      let undefs = or_parts (not (is_some (term_of vs l))) (not (is_some (term_of vs r))) h.defined in
      let x = term_is vs l undefs.0 in
      let y = term_is vs r undefs.1 in
      let lack = or_parts (lacks_in ops vs c l) (lacks_in ops vs c r) (sym (when_lacking vs gs cs c ops q l r) ∙ h.met) in
      let z : When = record { comparison = v.0; left = x.0; right = y.0 } in
      let made : when_with (comparison_of q) (term_of vs l) (term_of vs r) ≡ Some z = ap (λ (o : Option Comparison). when_with o (term_of vs l) (term_of vs r)) v.1 ∙ ap (λ (o : Option Term). when_with (Some v.0) o (term_of vs r)) x.1 ∙ ap (λ (o : Option Term). when_with (Some v.0) (Some x.0) o) y.1 in
      let same : as_when z ≡ WHEN q l r = ap (λ (i : ℕ). WHEN i (raw_of x.0) (raw_of y.0)) (sym v.2) ∙ ap (λ (i : RawTerm). WHEN q i (raw_of y.0)) (sym x.2) ∙ ap (λ (i : RawTerm). WHEN q l i) (sym y.2) in
      let all = flagged_all vs gs cs c k in
      subst (Kept (policy vs gs (cs ++ c ∷ [])) (WHEN q l r)) (sym (in_clause vs gs cs c (guarded (when_with (comparison_of q) (term_of vs l) (term_of vs r))) ∙ ap (λ (o : Option When). policy vs gs (cs ++ guarded o c ∷ [])) made))
      (clause_swapped vs gs cs c (guarded (Some z) c) (WHEN q l r) refl
      (ap (λ (y : List Command). as_target t n ∷ y) (grown_nil (map as_when ws) (map as_when (ws ++ z ∷ [])) (WHEN q l r) (map_push as_when ws z ∙ ap (λ (y : Command). map as_when ws ++ y ∷ []) same)))
      (λ w. record { label = w.label; target = w.target; covers = w.covers; few_whens = omega (arith, length_push ws z, full_less 3 ws (sym (when_crowded vs gs cs c q l r) ∙ h.room)); whens = All-push (LawfulWhen ops vs gs t) ws z w.whens (record { left = term_passed vs gs c l x.0 x.1 x.3 lack.0 all w; right = term_passed vs gs c r y.0 y.1 y.3 lack.1 all w }); action = tt }) k)

  -- an action of the last clause
  acted_kept : (vs : List ℕ) (gs : List Gr) (cs : List Cs) (n : Name) (t : Target) (fs : List Bool) (ws : List When) (a : Action) (x : Command) → as_action (Some a) ≡ x ∷ [] → (LawfulCs ops vs gs (clause n t fs ws None) → LawfulCs ops vs gs (clause n t fs ws (Some a))) → SoFar b (policy vs gs (cs ++ clause n t fs ws None ∷ [])) → Kept (policy vs gs (cs ++ clause n t fs ws None ∷ [])) x (policy vs gs (cs ++ clause n t fs ws (Some a) ∷ []))
  acted_kept vs gs cs n t fs ws a x e f k = clause_swapped vs gs cs (clause n t fs ws None) (clause n t fs ws (Some a)) x refl (ap (λ (y : List Command). as_target t n ∷ y) (grown (map as_when ws) [] (as_action (Some a)) x e)) f k

  violate_kept : (vs : List ℕ) (gs : List Gr) (cs : List Cs) (n : Name) (t : Target) (fs : List Bool) (ws : List When) (a : Option Action) → Keeps (policy vs gs (cs ++ clause n t fs ws a ∷ [])) VIOLATE
  violate_kept vs gs cs n t fs ws (Some a) s h k = absurd (false≢true (sym (ap not (sym (last_unfinished vs gs cs (clause n t fs ws (Some a)))) ∙ h.placed)))
  violate_kept vs gs cs n t fs ws None s h k =
      let c = clause n t fs ws None in
      subst (Kept (policy vs gs (cs ++ c ∷ [])) VIOLATE) (sym (in_clause vs gs cs c (acting (Some Violate))))
      (acted_kept vs gs cs n t fs ws Violate VIOLATE refl (λ w. record { label = w.label; target = w.target; covers = w.covers; few_whens = w.few_whens; whens = w.whens; action = tt }) k)

  write_kept : (vs : List ℕ) (gs : List Gr) (cs : List Cs) (n : Name) (t : Target) (fs : List Bool) (ws : List When) (a : Option Action) (w : Change) (k : ℕ) (r : RawTerm) → Keeps (policy vs gs (cs ++ clause n t fs ws a ∷ [])) (WRITE w k r)
  write_kept vs gs cs n t fs ws (Some a) w k r s h l = absurd (false≢true (sym (ap not (sym (last_unfinished vs gs cs (clause n t fs ws (Some a)))) ∙ h.placed)))
  write_kept vs gs cs n t fs ws None w k r s h l =
      let c = clause n t fs ws None in
      let undefs = or_parts _ (not (is_some (term_of vs r))) h.defined in
      let x = term_is vs r undefs.1 in
      let lack = sym (write_lacking vs gs cs c ops w k r) ∙ h.met in
      let all = flagged_all vs gs cs c l in
      subst (Kept (policy vs gs (cs ++ c ∷ [])) (WRITE w k r)) (sym (in_clause vs gs cs c (acting (write_with w k (term_of vs r))) ∙ ap (λ (o : Option Term). policy vs gs (cs ++ acting (write_with w k o) c ∷ [])) x.1))
      (acted_kept vs gs cs n t fs ws (Write w k x.0) (WRITE w k r) (ap (λ (i : RawTerm). WRITE w k i ∷ []) (sym x.2)) (λ v. record { label = v.label; target = v.target; covers = v.covers; few_whens = v.few_whens; whens = v.whens; action = (below k (length vs) undefs.0, term_passed vs gs c r x.0 x.1 x.3 lack all v) }) l)

  -- The same wherever the policy ends.

  in_last_clause : (x : Command) → ((vs : List ℕ) (gs : List Gr) (cs : List Cs) (n : Name) (t : Target) (fs : List Bool) (ws : List When) (a : Option Action) → Keeps (policy vs gs (cs ++ clause n t fs ws a ∷ [])) x) → (vs : List ℕ) (gs : List Gr) (c : Cs) (cs : List Cs) → Keeps (policy vs gs (c ∷ cs)) x
  in_last_clause x f vs gs c cs =
      let v = view c cs in
      let d = v.1 in
      subst (λ (l : List Cs). Keeps (policy vs gs l) x) (sym v.2) (f vs gs v.0 d.label d.target d.covers d.whens d.action)

  keeps_when : (vs : List ℕ) (gs : List Gr) (cs : List Cs) (q : ℕ) (l r : RawTerm) → Keeps (policy vs gs cs) (WHEN q l r)
  keeps_when vs gs [] q l r = λ s h k. absurd (false≢true (sym h.placed))
  keeps_when vs gs (c ∷ cs) q l r = in_last_clause (WHEN q l r) (λ vs gs cs n t fs ws a. when_kept vs gs cs n t fs ws a q l r) vs gs c cs

  keeps_violate : (vs : List ℕ) (gs : List Gr) (cs : List Cs) → Keeps (policy vs gs cs) VIOLATE
  keeps_violate vs gs [] = λ s h k. absurd (false≢true (sym h.placed))
  keeps_violate vs gs (c ∷ cs) = in_last_clause VIOLATE violate_kept vs gs c cs

  keeps_write : (vs : List ℕ) (gs : List Gr) (cs : List Cs) (w : Change) (k : ℕ) (r : RawTerm) → Keeps (policy vs gs cs) (WRITE w k r)
  keeps_write vs gs [] w k r = λ s h l. absurd (false≢true (sym h.placed))
  keeps_write vs gs (c ∷ cs) w k r = in_last_clause (WRITE w k r) (λ vs gs cs n t fs ws a. write_kept vs gs cs n t fs ws a w k r) vs gs c cs

  pub keeps : (p : Po) (c : Command) → Keeps p c
  keeps p (CELL v) = keeps_cell p.cells p.groups p.clauses v
  keeps p GROUP = keeps_group p.cells p.groups p.clauses
  keeps p (HAS o) = keeps_has p.cells p.groups p.clauses o
  keeps p (NEST k) = keeps_nest p.cells p.groups p.clauses k
  keeps p (ON o n) = keeps_on p.cells p.groups p.clauses o n
  keeps p (ONGROUP k n) = keeps_ongroup p.cells p.groups p.clauses k n
  keeps p (WHEN q l r) = keeps_when p.cells p.groups p.clauses q l r
  keeps p VIOLATE = keeps_violate p.cells p.groups p.clauses
  keeps p (WRITE w k t) = keeps_write p.cells p.groups p.clauses w k t
