-- A command that no test speaks against makes a lawful book of a lawful book, which is written as before with the command at the end.
use Rattle.std.proofs.Common.{◌≡◌, ℕ, false, eqb, List, [], ◌∷◌, ◌++◌, map, Some, None, Option, sym, refl, ap, ◌∙◌, subst, arith}
use Rattle.book.specs.Books.{Op, Cl, Bk, new_op, new_cl, op_name, cl_name, or_else, marked, fielded, preceded, acting, followed, after_of, filled, full, named, act_needs}
use Rattle.book.specs.declared.table.Act.{Act}
use Rattle.book.specs.declared.table.After.{After}
use Rattle.book.specs.declared.table.Condition.{Condition}
use Rattle.book_file.proofs.Bytes.{Sized}
use Rattle.book_file.proofs.Ends.{book, call, Fits, view, mark_crowded, mark_taken, mark_obey, field_misplaced, field_crowded, field_outside, field_taken, field_obey, before_misplaced, before_crowded, before_lacking, before_obey, act_misplaced, act_lacking, act_obey, after_misplaced, after_crowded, after_lacking, after_obey}
use Rattle.book_file.proofs.Parts.{all_mid, all_swap, apart_push, full_less, named_out, name_is, marks_push, has_all_true, met_there, act_is, condition_is}
use Rattle.book_file.specs.Changes.{obey}
use Rattle.book_file.specs.Law.{of_op, of_cl, as_field, as_before, as_act, as_after, act_number, condition_number, commands_of, Apart, Met, LawfulOp, LawfulCl, Lawful}
use Rattle.book.specs.Operands.{act_of}
use Rattle.book_file.specs.Tests.{answered}
use Rattle.book_file.specs.declared.commands.Command.TheVariants.{Operation, Field, Call, Before, Act as ACT, After as AFTER}
use Rattle.book_file.specs.declared.commands.Command.{Command}
use Rattle.std.proofs.ByRecursion.{All-push}
use Rattle.std.proofs.lemmas.List.{length_push, flat_map_more, append-nil, append_assoc, map_push}
use Rattle.std.proofs.lemmas.Bool.{or_parts, false≢true}
use Rattle.std.proofs.lemmas.Option.{none-some}
use Rattle.std.specs.List.{ContainsAt as Has, flat_map, AllByRecursion}
use Rattle.tables.specs.declared.name.Name.{Name}
use Rattle.std.proofs.lemmas.Bool.{eqb-false}

-- a is lawful and written as b with the command at the end
abbrev Kept : Bk → Command → Bk → Type 0
Kept b c a = Lawful a × (commands_of a ≡ commands_of b ++ c ∷ [])

abbrev Keeps : Bk → Command → Type 0
Keeps b c = Sized c → Fits b c → Lawful b → Kept b c (obey b c)

-- The commands of a book that ends in an operation or a call.

cmds_op : (os : List Op) (o : Op) → commands_of (book (os ++ o ∷ []) []) ≡ commands_of (book os []) ++ of_op o
cmds_op os o = append-nil (flat_map of_op (os ++ o ∷ [])) ∙ sym (flat_map_more of_op [] os o) ∙ ap (λ (l : List Command). l ++ of_op o) (sym (append-nil (flat_map of_op os)))

cmds_cl : (os : List Op) (cs : List Cl) (c : Cl) → commands_of (book os (cs ++ c ∷ [])) ≡ commands_of (book os cs) ++ of_cl c
cmds_cl os cs c = sym (flat_map_more of_cl (flat_map of_op os) cs c)

-- one more at the end of a list's last part is one more at its end
pub grown : {C : Type 0} (front l l' : List C) (x : C) → l' ≡ l ++ x ∷ [] → front ++ l' ≡ (front ++ l) ++ x ∷ []
grown front l l' x e = ap (λ k. front ++ k) e ∙ sym (append_assoc front l (x ∷ []))

pub grown_nil : {C : Type 0} (l l' : List C) (x : C) → l' ≡ l ++ x ∷ [] → l' ++ [] ≡ (l ++ []) ++ x ∷ []
grown_nil l l' x e = append-nil l' ∙ e ∙ ap (λ k. k ++ x ∷ []) (sym (append-nil l))

grown_op : (os : List Op) (o o' : Op) (x : Command) → of_op o' ≡ of_op o ++ x ∷ [] → commands_of (book (os ++ o' ∷ []) []) ≡ commands_of (book (os ++ o ∷ []) []) ++ x ∷ []
grown_op os o o' x e = cmds_op os o' ∙ grown (commands_of (book os [])) (of_op o) (of_op o') x e ∙ ap (λ (l : List Command). l ++ x ∷ []) (sym (cmds_op os o))

grown_cl : (os : List Op) (cs : List Cl) (c c' : Cl) (x : Command) → of_cl c' ≡ of_cl c ++ x ∷ [] → commands_of (book os (cs ++ c' ∷ [])) ≡ commands_of (book os (cs ++ c ∷ [])) ++ x ∷ []
grown_cl os cs c c' x e = cmds_cl os cs c' ∙ grown (commands_of (book os cs)) (of_cl c) (of_cl c') x e ∙ ap (λ (l : List Command). l ++ x ∷ []) (sym (cmds_cl os cs c))

-- One more operation or call at the end, or another in the place of the last.

push_op : (os : List Op) (o : Op) → full 64 os ≡ false → named (map op_name os) (op_name o) ≡ false → LawfulOp o → Lawful (book os []) → Lawful (book (os ++ o ∷ []) [])
push_op os o p q k h = record { few_operations = omega (arith, length_push os o, full_less 64 os p); few_calls = h.few_calls; operations_apart = subst Apart (sym (map_push op_name os o)) (apart_push (map op_name os) (op_name o) h.operations_apart (named_out (map op_name os) (op_name o) q)); calls_apart = tt; each_operation = All-push LawfulOp os o h.each_operation k; each_call = tt }

push_cl : (os : List Op) (cs : List Cl) (c : Cl) → full 64 cs ≡ false → named (map cl_name cs) (cl_name c) ≡ false → LawfulCl os c → Lawful (book os cs) → Lawful (book os (cs ++ c ∷ []))
push_cl os cs c p q k h = record { few_operations = h.few_operations; few_calls = omega (arith, length_push cs c, full_less 64 cs p); operations_apart = h.operations_apart; calls_apart = subst Apart (sym (map_push cl_name cs c)) (apart_push (map cl_name cs) (cl_name c) h.calls_apart (named_out (map cl_name cs) (cl_name c) q)); each_operation = h.each_operation; each_call = All-push (LawfulCl os) cs c h.each_call k }

swap_op : (os : List Op) (o o' : Op) → op_name o ≡ op_name o' → (LawfulOp o → LawfulOp o') → Lawful (book (os ++ o ∷ []) []) → Lawful (book (os ++ o' ∷ []) [])
swap_op os o o' e f h = record { few_operations = omega (arith, length_push os o, length_push os o', h.few_operations); few_calls = h.few_calls; operations_apart = subst Apart (map_push op_name os o ∙ ap (λ (n : List ℕ). map op_name os ++ n ∷ []) e ∙ sym (map_push op_name os o')) h.operations_apart; calls_apart = tt; each_operation = all_swap LawfulOp os o o' f h.each_operation; each_call = tt }

swap_cl : (os : List Op) (cs : List Cl) (c c' : Cl) → cl_name c ≡ cl_name c' → (LawfulCl os c → LawfulCl os c') → Lawful (book os (cs ++ c ∷ [])) → Lawful (book os (cs ++ c' ∷ []))
swap_cl os cs c c' e f h = record { few_operations = h.few_operations; few_calls = omega (arith, length_push cs c, length_push cs c', h.few_calls); operations_apart = h.operations_apart; calls_apart = subst Apart (map_push cl_name cs c ∙ ap (λ (n : List ℕ). map cl_name cs ++ n ∷ []) e ∙ sym (map_push cl_name cs c')) h.calls_apart; each_operation = h.each_operation; each_call = all_swap (LawfulCl os) cs c c' f h.each_call }

-- The commands one by one.

keeps_operation : (os : List Op) (cs : List Cl) (n : Name) → Keeps (book os cs) (Operation n)
keeps_operation os [] n s h l = (push_op os (new_op n) h.room h.fresh (record { name = name_is n.letters s h.inside; marks = record { few = omega arith; proper = tt; apart = tt } }) l, cmds_op os (new_op n))
keeps_operation os (c ∷ cs) n s h l = absurd (false≢true (sym h.placed))

keeps_call : (os : List Op) (cs : List Cl) (n : Name) → Keeps (book os cs) (Call n)
keeps_call os cs n s h l = (push_cl os cs (new_cl n) h.room h.fresh (record { name = name_is n.letters s h.inside; fields = record { few = omega arith; proper = tt; apart = tt }; unanswered = tt; few_befores = omega arith; few_afters = omega arith; befores_met = tt; act_met = tt; afters_met = tt; afters_acted = λ _. refl }) l, cmds_cl os cs (new_cl n))

mark_op : (os : List Op) (o : Op) (m : ℕ) → Keeps (book (os ++ o ∷ []) []) (Field m)
mark_op os o m s h l =
    subst (Kept (book (os ++ o ∷ []) []) (Field m)) (sym (mark_obey os o m)) (
      swap_op os o (marked m o) refl (λ k. record { name = k.name; marks = marks_push 6 o.marks m k.marks (sym (mark_crowded os o m) ∙ h.room) h.inside (sym (mark_taken os o m) ∙ h.fresh) }) l,
      grown_op os o (marked m o) (Field m) (ap (λ (k : List Command). Operation o.name ∷ k) (map_push as_field o.marks m)),
    )

-- a call that has no ACT has no AFTER
none_after : (os : List Op) (cs : List Cl) (c : Cl) → Lawful (book os (cs ++ c ∷ [])) → c.act ≡ None → c.afters ≡ []
none_after os cs c l = (all_mid (LawfulCl os) cs c [] l.each_call).afters_acted

cons_nil : {X : Type 0} (x : X) (xs : List X) → x ∷ xs ≡ [] → ⊥
cons_nil x xs e = false≢true (ap filled (sym e))

field_cl : (os : List Op) (cs : List Cl) (n : Name) (fs bs : List ℕ) (a : Option Act) (ss : List After) (m : ℕ) → Keeps (book os (cs ++ call n fs bs a ss ∷ [])) (Field m)
field_cl os cs n fs [] None [] m s h l =
    let c = call n fs [] None [] in
    let p = or_parts (eqb m 0) (eqb m 255) (sym (field_outside os cs c m) ∙ h.inside) in
    subst (Kept (book os (cs ++ c ∷ [])) (Field m)) (sym (field_obey os cs c m)) (
      swap_cl os cs c (fielded m c) refl (λ k. record { name = k.name; fields = marks_push 8 fs m k.fields (sym (field_crowded os cs c m) ∙ h.room) p.0 (sym (field_taken os cs c m) ∙ h.fresh); unanswered = All-push (λ y. y ≡ 255 → ⊥) fs m k.unanswered (eqb-false m 255 p.1); few_befores = k.few_befores; few_afters = k.few_afters; befores_met = tt; act_met = tt; afters_met = tt; afters_acted = λ _. refl }) l,
      grown_cl os cs c (fielded m c) (Field m) (ap (λ (k : List Command). Call n ∷ k) (grown_nil (map as_field fs) (map as_field (fs ++ m ∷ [])) (Field m) (map_push as_field fs m))),
    )
field_cl os cs n fs [] None (x ∷ ss) m s h l = absurd (cons_nil x ss (none_after os cs (call n fs [] None (x ∷ ss)) l refl))
field_cl os cs n fs [] (Some a) ss m s h l = absurd (false≢true (sym (sym (field_misplaced os cs (call n fs [] (Some a) ss) m) ∙ h.placed)))
field_cl os cs n fs (k ∷ bs) a ss m s h l = absurd (false≢true (sym (sym (field_misplaced os cs (call n fs (k ∷ bs) a ss) m) ∙ h.placed)))

before_cl : (os : List Op) (cs : List Cl) (n : Name) (fs bs : List ℕ) (a : Option Act) (ss : List After) (k : ℕ) → Keeps (book os (cs ++ call n fs bs a ss ∷ [])) (Before k)
before_cl os cs n fs bs None [] k s h l =
    let c = call n fs bs None [] in
    let met = met_there os fs k h.defined (sym (before_lacking os cs c k) ∙ h.met) in
    subst (Kept (book os (cs ++ c ∷ [])) (Before k)) (sym (before_obey os cs c k)) (
      swap_cl os cs c (preceded k c) refl (λ w. record { name = w.name; fields = w.fields; unanswered = w.unanswered; few_befores = omega (arith, length_push bs k, full_less 8 bs (sym (before_crowded os cs c k) ∙ h.room)); few_afters = w.few_afters; befores_met = All-push (Met os fs) bs k w.befores_met met; act_met = tt; afters_met = tt; afters_acted = λ _. refl }) l,
      grown_cl os cs c (preceded k c) (Before k) (ap (λ (x : List Command). Call n ∷ x) (grown (map as_field fs) (map as_before bs ++ []) (map as_before (bs ++ k ∷ []) ++ []) (Before k) (grown_nil (map as_before bs) (map as_before (bs ++ k ∷ [])) (Before k) (map_push as_before bs k)))),
    )
before_cl os cs n fs bs None (x ∷ ss) k s h l = absurd (cons_nil x ss (none_after os cs (call n fs bs None (x ∷ ss)) l refl))
before_cl os cs n fs bs (Some a) ss k s h l = absurd (false≢true (sym (sym (before_misplaced os cs (call n fs bs (Some a) ss) k) ∙ h.placed)))

act_cl : (os : List Op) (cs : List Cl) (n : Name) (fs bs : List ℕ) (o : Option Act) (ss : List After) (a : ℕ) → Keeps (book os (cs ++ call n fs bs o ss ∷ [])) (ACT a)
act_cl os cs n fs bs None [] a s h l =
    let c = call n fs bs None [] in
    let v = act_is a h.inside in
    let x = v.0 in
    let met : AllByRecursion (Has fs) (act_needs x) = subst (λ (o : Option Act). AllByRecursion (Has fs) (or_else [] act_needs o)) v.1 (has_all_true fs (or_else [] act_needs (act_of a)) (sym (act_lacking os cs c a) ∙ h.met)) in
    subst (Kept (book os (cs ++ c ∷ [])) (ACT a)) (sym (act_obey os cs c a ∙ ap (λ (o : Option Act). book os (cs ++ acting o c ∷ [])) v.1)) (
      swap_cl os cs c (acting (Some x) c) refl (λ w. record { name = w.name; fields = w.fields; unanswered = w.unanswered; few_befores = w.few_befores; few_afters = w.few_afters; befores_met = w.befores_met; act_met = met; afters_met = tt; afters_acted = λ _. refl }) l,
      grown_cl os cs c (acting (Some x) c) (ACT a) (ap (λ (y : List Command). Call n ∷ y) (grown (map as_field fs) (map as_before bs ++ []) (map as_before bs ++ (as_act (Some x) ++ [])) (ACT a) (grown (map as_before bs) [] (as_act (Some x) ++ []) (ACT a) (ap (λ (i : ℕ). ACT i ∷ []) (sym v.2))))),
    )
act_cl os cs n fs bs None (x ∷ ss) a s h l = absurd (cons_nil x ss (none_after os cs (call n fs bs None (x ∷ ss)) l refl))
act_cl os cs n fs bs (Some o) ss a s h l = absurd (false≢true (sym (sym (act_misplaced os cs (call n fs bs (Some o) ss) a) ∙ h.placed)))

after_cl : (os : List Op) (cs : List Cl) (n : Name) (fs bs : List ℕ) (o : Option Act) (ss : List After) (k q : ℕ) → Keeps (book os (cs ++ call n fs bs o ss ∷ [])) (AFTER k q)
after_cl os cs n fs bs (Some a) ss k q s h l =
    let c = call n fs bs (Some a) ss in
    let v = condition_is q h.inside in
    let z = after_of k v.0 in
    let met = met_there os (answered c) k h.defined (sym (after_lacking os cs c k q) ∙ h.met) in
    let last : AFTER k (condition_number v.0) ≡ AFTER k q = ap (λ (i : ℕ). AFTER k i) (sym v.2) in
    subst (Kept (book os (cs ++ c ∷ [])) (AFTER k q)) (sym (after_obey os cs c k q ∙ ap (λ (o : Option Condition). book os (cs ++ followed k o c ∷ [])) v.1)) (
      swap_cl os cs c (followed k (Some v.0) c) refl (λ w. record { name = w.name; fields = w.fields; unanswered = w.unanswered; few_befores = w.few_befores; few_afters = omega (arith, length_push ss z, full_less 8 ss (sym (after_crowded os cs c k q) ∙ h.room)); befores_met = w.befores_met; act_met = w.act_met; afters_met = All-push (λ t. Met os (answered c) t.operation) ss z w.afters_met met; afters_acted = λ e. absurd (none-some a (sym e)) }) l,
      grown_cl os cs c (followed k (Some v.0) c) (AFTER k q) (ap (λ (y : List Command). Call n ∷ y) (grown (map as_field fs) (map as_before bs ++ (as_act (Some a) ++ map as_after ss)) (map as_before bs ++ (as_act (Some a) ++ map as_after (ss ++ z ∷ []))) (AFTER k q) (grown (map as_before bs) (as_act (Some a) ++ map as_after ss) (as_act (Some a) ++ map as_after (ss ++ z ∷ [])) (AFTER k q) (ap (λ (y : List Command). ACT (act_number a) ∷ y) (map_push as_after ss z ∙ ap (λ (y : Command). map as_after ss ++ y ∷ []) last))))),
    )
after_cl os cs n fs bs None ss k q s h l = absurd (false≢true (sym (sym (after_misplaced os cs (call n fs bs None ss) k q) ∙ h.placed)))

-- The same wherever the book ends.

in_last_call : (x : Command) → ((os : List Op) (cs : List Cl) (n : Name) (fs bs : List ℕ) (a : Option Act) (ss : List After) → Keeps (book os (cs ++ call n fs bs a ss ∷ [])) x) → (os : List Op) (c : Cl) (cs : List Cl) → Keeps (book os (c ∷ cs)) x
in_last_call x f os c cs =
    let v = view c cs in
    let d = v.1 in
    subst (λ (l : List Cl). Keeps (book os l) x) (sym v.2) (f os v.0 d.name d.fields d.befores d.act d.afters)

keeps_field : (os : List Op) (cs : List Cl) (m : ℕ) → Keeps (book os cs) (Field m)
keeps_field [] [] m = λ s h l. absurd (false≢true (sym h.placed))
keeps_field (o ∷ os) [] m = let v = view o os in subst (λ (l : List Op). Keeps (book l []) (Field m)) (sym v.2) (mark_op v.0 v.1 m)
keeps_field os (c ∷ cs) m = in_last_call (Field m) (λ os cs n fs bs a ss. field_cl os cs n fs bs a ss m) os c cs

keeps_before : (os : List Op) (cs : List Cl) (k : ℕ) → Keeps (book os cs) (Before k)
keeps_before os [] k = λ s h l. absurd (false≢true (sym h.placed))
keeps_before os (c ∷ cs) k = in_last_call (Before k) (λ os cs n fs bs a ss. before_cl os cs n fs bs a ss k) os c cs

keeps_act : (os : List Op) (cs : List Cl) (a : ℕ) → Keeps (book os cs) (ACT a)
keeps_act os [] a = λ s h l. absurd (false≢true (sym h.placed))
keeps_act os (c ∷ cs) a = in_last_call (ACT a) (λ os cs n fs bs o ss. act_cl os cs n fs bs o ss a) os c cs

keeps_after : (os : List Op) (cs : List Cl) (k q : ℕ) → Keeps (book os cs) (AFTER k q)
keeps_after os [] k q = λ s h l. absurd (false≢true (sym h.placed))
keeps_after os (c ∷ cs) k q = in_last_call (AFTER k q) (λ os cs n fs bs a ss. after_cl os cs n fs bs a ss k q) os c cs

pub keeps : (b : Bk) (c : Command) → Keeps b c
keeps b (Operation n) = keeps_operation b.operations b.calls n
keeps b (Field m) = keeps_field b.operations b.calls m
keeps b (Call n) = keeps_call b.operations b.calls n
keeps b (Before k) = keeps_before b.operations b.calls k
keeps b (ACT a) = keeps_act b.operations b.calls a
keeps b (AFTER k q) = keeps_after b.operations b.calls k q
