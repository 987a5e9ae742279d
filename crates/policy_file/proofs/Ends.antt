-- A policy that ends in a known group or clause, and what the tests see at its end.
use Rattle.std.proofs.Common.{◌≡◌, ℕ, Bool, false, not, ◌||◌, List, [], ◌∷◌, ◌++◌, Option, ap}
use Rattle.book.specs.Books.{Op, Bk, full}
use Rattle.book_file.proofs.Ends.{filled_push, at_last, in_last_is}
use Rattle.policy.specs.Coverage.{Gr}
use Rattle.policy.specs.Policies.{Cs, Po, joining, in_last_cs, pending, unfinished}
use Rattle.policy.specs.declared.table.Action.{Action}
use Rattle.policy.specs.declared.table.Member.TheVariants.{Has, Nest}
use Rattle.policy.specs.declared.table.Member.{Member}
use Rattle.policy.specs.declared.table.Target.{Target}
use Rattle.policy.specs.declared.table.When.{When}
use Rattle.policy.specs.declared.table.Write.{Write as Change}
use Rattle.policy_file.specs.Changes.{obey}
use Rattle.policy_file.specs.Law.{as_member}
use Rattle.policy_file.specs.Tests.{misplaced, crowded, outside, undefined, taken, lacking, command_tests, lacks_in}
use Rattle.policy_file.specs.declared.commands.Command.TheVariants.{When as WHEN, Write as WRITE}
use Rattle.policy_file.specs.declared.commands.Command.{Command}
use Rattle.policy_file.specs.declared.commands.RawTerm.{RawTerm}
use Rattle.std.specs.List.{AllByRecursion}
use Rattle.tables.specs.declared.name.Name.{Name}

abbrev pub policy : List ℕ → List Gr → List Cs → Po
policy vs gs cs = record { cells = vs; groups = gs; clauses = cs }

abbrev pub clause : Name → Target → List Bool → List When → Option Action → Cs
clause n t fs ws a = record { label = n; target = t; covers = fs; whens = ws; action = a }

-- no test speaks against the command
abbrev pub Clear : Bk → Po → Command → Type 0
Clear b p c = AllByRecursion (λ (t : Po → Command → Bool). t p c ≡ false) (command_tests b)

-- the same test by test
pub record Fits (b : Bk) (p : Po) (c : Command) : Type 0 where
  pub placed : misplaced p c ≡ false
  pub room : crowded p c ≡ false
  pub inside : outside p c ≡ false
  pub defined : undefined b.operations p c ≡ false
  pub fresh : taken p c ≡ false
  pub met : lacking b.operations p c ≡ false

pub fits : {b : Bk} {p : Po} {c : Command} → Clear b p c → Fits b p c
fits h = record { placed = h.0; room = h.1.0; inside = h.1.1.0; defined = h.1.1.1.0; fresh = h.1.1.1.1.0; met = h.1.1.1.1.1.0 }

pub clear : {b : Bk} {p : Po} {c : Command} → Fits b p c → Clear b p c
clear h = (h.placed, (h.room, (h.inside, (h.defined, (h.fresh, (h.met, tt))))))

-- A HAS or a NEST at a policy that ends in the group g.
module _ (vs : List ℕ) (gs : List Gr) (g : Gr) where
  pub member_misplaced : (m : Member) → misplaced (policy vs (gs ++ g ∷ []) []) (as_member m) ≡ false
  member_misplaced (Has o) = ap not (filled_push gs g)
  member_misplaced (Nest k) = ap not (filled_push gs g)

  pub member_crowded : (m : Member) → crowded (policy vs (gs ++ g ∷ []) []) (as_member m) ≡ full 16 g.members
  member_crowded (Has o) = at_last gs g _ _
  member_crowded (Nest k) = at_last gs g _ _

  pub member_obey : (m : Member) → obey (policy vs (gs ++ g ∷ []) []) (as_member m) ≡ policy vs (gs ++ joining m g ∷ []) []
  member_obey (Has o) = ap (λ (l : List Gr). policy vs l []) (in_last_is gs g (joining (Has o)))
  member_obey (Nest k) = ap (λ (l : List Gr). policy vs l []) (in_last_is gs g (joining (Nest k)))

-- The commands in a clause, at a policy that ends in the clause c.
module _ (vs : List ℕ) (gs : List Gr) (cs : List Cs) (c : Cs) where
  pub last_unfinished : unfinished (policy vs gs (cs ++ c ∷ [])) ≡ pending c
  last_unfinished = at_last cs c _ _

  pub when_crowded : (q : ℕ) (l r : RawTerm) → crowded (policy vs gs (cs ++ c ∷ [])) (WHEN q l r) ≡ full 3 c.whens
  when_crowded q l r = at_last cs c _ _

  pub when_lacking : (ops : List Op) (q : ℕ) (l r : RawTerm) → lacking ops (policy vs gs (cs ++ c ∷ [])) (WHEN q l r) ≡ (lacks_in ops vs c l || lacks_in ops vs c r)
  when_lacking ops q l r = at_last cs c _ _

  pub write_lacking : (ops : List Op) (w : Change) (k : ℕ) (t : RawTerm) → lacking ops (policy vs gs (cs ++ c ∷ [])) (WRITE w k t) ≡ lacks_in ops vs c t
  write_lacking ops w k t = at_last cs c _ _

  pub in_clause : (f : Cs → Cs) → in_last_cs f (policy vs gs (cs ++ c ∷ [])) ≡ policy vs gs (cs ++ f c ∷ [])
  in_clause f = ap (policy vs gs) (in_last_is cs c f)
