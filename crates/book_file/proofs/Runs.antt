-- The commands of a lawful book, one after the other, make that book.
use Rattle.std.proofs.Common.{◌≡◌, ℕ, ◌≤◌, not, eqb, List, [], ◌∷◌, ◌++◌, map, length, is_some, Some, None, Option, sym, refl, ap, ◌∙◌, subst, ne_eqb}
use Rattle.book.specs.Books.{Op, Cl, Bk, empty_book, op_name, cl_name, or_else, acting, followed, has_all, act_needs}
use Rattle.book.specs.declared.table.Act.{Act}
use Rattle.book.specs.declared.table.After.{After}
use Rattle.book.specs.declared.table.Condition.{Condition}
use Rattle.book_file.proofs.Bytes.{Sized}
use Rattle.book_file.proofs.Ends.{book, call, Fits, mark_misplaced, mark_crowded, mark_taken, mark_obey, field_misplaced, field_crowded, field_outside, field_taken, field_obey, before_misplaced, before_crowded, before_lacking, before_obey, act_misplaced, act_lacking, act_obey, after_misplaced, after_crowded, after_lacking, after_obey}
use Rattle.book_file.proofs.Parts.{all_mid, apart_mid, less_full, shorter_front, out_named, is_name, marks_mid, all_has, met_defined, met_filled, act_back, condition_back}
use Rattle.book_file.specs.Changes.{obey}
use Rattle.book_file.specs.Law.{of_op, of_cl, as_field, as_before, as_act, as_after, act_number, condition_number, commands_of, Apart, Met, Marked, LawfulOp, LawfulCl, Lawful}
use Rattle.book_file.specs.declared.commands.Command.{Command}
use Rattle.format.proofs.Runs.{Ran, ran_append, ran_joined, ran_map}
use Rattle.std.proofs.lemmas.List.{map-append}
use Rattle.std.proofs.lemmas.Bool.{or_from}
use Rattle.std.specs.List.{ContainsAt as Has, flat_map, AllByRecursion}
use Rattle.tables.specs.declared.name.Name.{Name}

-- the command has a whole name and fits
abbrev pub Good : Bk → Command → Type 0
Good b c = Sized c × Fits b c

-- the commands fit one after the other and make a of b
abbrev pub Made : List Command → Bk → Bk → Type 0
Made = Ran obey Good

-- a name that is apart from all others is new among those before it
pub unlike : {X : Type 0} (f : X → List ℕ) (ds : List X) (o : X) (ms : List X) → Apart (map f (ds ++ o ∷ ms)) → AllByRecursion (λ y. y ≡ f o → ⊥) (map f ds)
unlike f ds o ms h = apart_mid (map f ds) (f o) (map f ms) (subst Apart (map-append f ds (o ∷ ms)) h)

-- The parts of an operation and of a call.

marks_ran : (os : List Op) (n : Name) (ms : List ℕ) → Marked 6 ms → Made (map as_field ms) (book (os ++ record { name = n; marks = [] } ∷ []) []) (book (os ++ record { name = n; marks = ms } ∷ []) [])
marks_ran os n = ran_map obey Good as_field (λ ds. book (os ++ record { name = n; marks = ds } ∷ []) []) (Marked 6) (λ ds m ms h.
    let o : Op = record { name = n; marks = ds } in
    let t = marks_mid 6 ds m ms h in
    ((tt, record { placed = mark_misplaced os o m; room = mark_crowded os o m ∙ t.room; inside = t.proper; defined = refl; fresh = mark_taken os o m ∙ t.fresh; met = refl }), mark_obey os o m))

module _ (os : List Op) (cs : List Cl) (n : Name) where
  -- the book that ends in the call
  abbrev ending : List ℕ → List ℕ → Option Act → List After → Bk
  ending fs bs a ss = book os (cs ++ call n fs bs a ss ∷ [])

  abbrev Fields : List ℕ → Type 0
  Fields fs = Marked 8 fs × AllByRecursion (λ m. m ≡ 255 → ⊥) fs

  fields_ran : (fs : List ℕ) → Fields fs → Made (map as_field fs) (ending [] [] None []) (ending fs [] None [])
  fields_ran = ran_map obey Good as_field (λ ds. ending ds [] None []) Fields (λ ds m ms h.
      let c = call n ds [] None [] in
      let t = marks_mid 8 ds m ms h.0 in
      let u = ne_eqb m 255 (all_mid (λ m. m ≡ 255 → ⊥) ds m ms h.1) in
      ((tt, record { placed = field_misplaced os cs c m; room = field_crowded os cs c m ∙ t.room; inside = field_outside os cs c m ∙ or_from (eqb m 0) (eqb m 255) t.proper u; defined = refl; fresh = field_taken os cs c m ∙ t.fresh; met = refl }), field_obey os cs c m))

  abbrev Befores : List ℕ → List ℕ → Type 0
  Befores fs bs = (length bs ≤ 8) × AllByRecursion (Met os fs) bs

  befores_ran : (fs bs : List ℕ) → Befores fs bs → Made (map as_before bs) (ending fs [] None []) (ending fs bs None [])
  befores_ran fs = ran_map obey Good as_before (λ ds. ending fs ds None []) (Befores fs) (λ ds k ms h.
      let c = call n fs ds None [] in
      let t = all_mid (Met os fs) ds k ms h.1 in
      ((tt, record { placed = before_misplaced os cs c k; room = before_crowded os cs c k ∙ less_full 8 ds (shorter_front 8 ds k ms h.0); inside = refl; defined = met_defined os fs k t; fresh = refl; met = before_lacking os cs c k ∙ met_filled os fs k t }), before_obey os cs c k))

  act_ran : (fs bs : List ℕ) (a : Option Act) → AllByRecursion (Has fs) (or_else [] act_needs a) → Made (as_act a) (ending fs bs None []) (ending fs bs a [])
  act_ran fs bs None h = refl
  act_ran fs bs (Some a) h =
      let c = call n fs bs None [] in
      let i = act_number a in
      let e = act_back a in
      ((tt, record { placed = act_misplaced os cs c i; room = refl; inside = ap (λ (o : Option Act). not (is_some o)) e; defined = refl; fresh = refl; met = act_lacking os cs c i ∙ ap (λ (o : Option Act). not (has_all fs (or_else [] act_needs o))) e ∙ all_has fs (act_needs a) h }), act_obey os cs c i ∙ ap (λ (o : Option Act). book os (cs ++ acting o c ∷ [])) e)

  abbrev Afters : List ℕ → List After → Type 0
  Afters fs ss = (length ss ≤ 8) × AllByRecursion (λ s. Met os (255 ∷ fs) s.operation) ss

  afters_after : (fs bs : List ℕ) (a : Act) (ss : List After) → Afters fs ss → Made (map as_after ss) (ending fs bs (Some a) []) (ending fs bs (Some a) ss)
  afters_after fs bs a = ran_map obey Good as_after (λ ds. ending fs bs (Some a) ds) (Afters fs) (λ ds s ms h.
      let c = call n fs bs (Some a) ds in
      let k = s.operation in
      let q = condition_number s.condition in
      let e = condition_back s.condition in
      let t = all_mid (λ s. Met os (255 ∷ fs) s.operation) ds s ms h.1 in
      ((tt, record { placed = after_misplaced os cs c k q; room = after_crowded os cs c k q ∙ less_full 8 ds (shorter_front 8 ds s ms h.0); inside = ap (λ (o : Option Condition). not (is_some o)) e; defined = met_defined os (255 ∷ fs) k t; fresh = refl; met = after_lacking os cs c k q ∙ met_filled os (255 ∷ fs) k t }), after_obey os cs c k q ∙ ap (λ (o : Option Condition). book os (cs ++ followed k o c ∷ [])) e))

  afters_ran : (fs bs : List ℕ) (a : Option Act) (ss : List After) → (a ≡ None → ss ≡ []) → Afters fs ss → Made (map as_after ss) (ending fs bs a []) (ending fs bs a ss)
  afters_ran fs bs None ss e h = subst (λ (l : List After). Made (map as_after l) (ending fs bs None []) (ending fs bs None l)) (sym (e refl)) refl
  afters_ran fs bs (Some a) ss e h = afters_after fs bs a ss h

-- Operations and calls.

abbrev Ops : List Op → Type 0
Ops os = (length os ≤ 64) × Apart (map op_name os) × AllByRecursion LawfulOp os

ops_ran : (os : List Op) → Ops os → Made (flat_map of_op os) (book [] []) (book os [])
ops_ran os = ran_joined obey Good of_op (λ ds. book ds []) Ops (λ ds o ms h.
    let k = all_mid LawfulOp ds o ms h.2 in
    ((k.name.eight, record { placed = refl; room = less_full 64 ds (shorter_front 64 ds o ms h.0); inside = is_name (op_name o) k.name; defined = refl; fresh = out_named (map op_name ds) (op_name o) (unlike op_name ds o ms h.1); met = refl }), marks_ran ds o.name o.marks k.marks)) os

parts_ran : (os : List Op) (cs : List Cl) (c : Cl) → LawfulCl os c → Made (map as_field c.fields ++ (map as_before c.befores ++ (as_act c.act ++ map as_after c.afters))) (ending os cs c.name [] [] None []) (book os (cs ++ c ∷ []))
parts_ran os cs c k =
    let n = c.name in
    ran_append obey Good _ _ _ _ _ (fields_ran os cs n c.fields (k.fields, k.unanswered))
    (ran_append obey Good _ _ _ _ _ (befores_ran os cs n c.fields c.befores (k.few_befores, k.befores_met))
    (ran_append obey Good _ _ _ _ _ (act_ran os cs n c.fields c.befores c.act k.act_met)
    (afters_ran os cs n c.fields c.befores c.act c.afters k.afters_acted (k.few_afters, k.afters_met))))

abbrev Cls : List Op → List Cl → Type 0
Cls os cs = (length cs ≤ 64) × Apart (map cl_name cs) × AllByRecursion (LawfulCl os) cs

calls_ran : (os : List Op) (cs : List Cl) → Cls os cs → Made (flat_map of_cl cs) (book os []) (book os cs)
calls_ran os cs = ran_joined obey Good of_cl (book os) (Cls os) (λ ds c ms h.
    let k = all_mid (LawfulCl os) ds c ms h.2 in
    ((k.name.eight, record { placed = refl; room = less_full 64 ds (shorter_front 64 ds c ms h.0); inside = is_name (cl_name c) k.name; defined = refl; fresh = out_named (map cl_name ds) (cl_name c) (unlike cl_name ds c ms h.1); met = refl }), parts_ran os ds c k)) cs

pub complete : (b : Bk) → Lawful b → Made (commands_of b) empty_book b
complete b h = ran_append obey Good (flat_map of_op b.operations) (flat_map of_cl b.calls) empty_book (book b.operations []) b (ops_ran b.operations (h.few_operations, h.operations_apart, h.each_operation)) (calls_ran b.operations b.calls (h.few_calls, h.calls_apart, h.each_call))
