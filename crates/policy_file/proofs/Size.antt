-- A policy so far is written in at most 128 * 5 + 32 * (1 + 16 * 2) + 256 * (10 + 3 * 12 + 7) = 15264 bytes.
use Rattle.std.proofs.Common.{◌≡◌, ℕ, ◌≤◌, List, [], ◌∷◌, ◌++◌, map, length, Some, None, Option, refl, arith}
use Rattle.book.specs.Books.{Op, Bk}
use Rattle.format.proofs.Sizes.{size, size_append, size_joined, size_map}
use Rattle.format.specs.Format.{written}
use Rattle.policy.specs.Coverage.{Gr}
use Rattle.policy.specs.Policies.{Cs, Po}
use Rattle.policy.specs.declared.table.Action.TheVariants.{Violate, Write}
use Rattle.policy.specs.declared.table.Action.{Action}
use Rattle.policy.specs.declared.table.Member.TheVariants.{Has, Nest}
use Rattle.policy.specs.declared.table.Member.{Member}
use Rattle.policy.specs.declared.table.Target.TheVariants.{Operation, Group}
use Rattle.policy.specs.declared.table.Target.{Target}
use Rattle.policy_file.specs.Law.{bytes_of, as_cell, as_member, as_target, as_when, as_action, of_gr, of_cs, policy_format, Numbered, LawfulGr, LawfulCs, SoFar}
use Rattle.std.proofs.ByRecursion.{All-weaker}
use Rattle.std.proofs.lemmas.List.{length-append}
use Rattle.std.specs.List.{flat_map, AllByRecursion}
use Rattle.tables.specs.declared.name.Name.{Name}

size_member : (m : Member) → length (bytes_of (as_member m)) ≡ 2
size_member (Has o) = refl
size_member (Nest k) = refl

size_target : (t : Target) (n : Name) → length n.letters ≡ 8 → length (bytes_of (as_target t n)) ≡ 10
size_target (Operation o) n h = omega (arith, h)
size_target (Group k) n h = omega (arith, h)

size_action : (a : Option Action) → size bytes_of (as_action a) ≤ 7
size_action None = omega arith
size_action (Some Violate) = omega arith
size_action (Some (Write w k t)) = omega arith

size_gr : (ops : List Op) (k : ℕ) (g : Gr) → LawfulGr ops k g → size bytes_of (of_gr g) ≤ 33
size_gr ops k g h = omega (arith, size_map bytes_of as_member 2 size_member g.members, h.few_members)

sizes_gr : (ops : List Op) (k : ℕ) (gs : List Gr) → Numbered (LawfulGr ops) k gs → AllByRecursion (λ g. size bytes_of (of_gr g) ≤ 33) gs
sizes_gr ops k [] h = tt
sizes_gr ops k (g ∷ gs) h = (size_gr ops k g h.0, sizes_gr ops _ gs h.1)

size_cs : (ops : List Op) (vs : List ℕ) (gs : List Gr) (c : Cs) → LawfulCs ops vs gs c → size bytes_of (of_cs c) ≤ 53
size_cs ops vs gs c h =
    let first = bytes_of (as_target c.target c.label) in
    let ws = map as_when c.whens in
    let a = as_action c.action in
    omega (arith, length-append first (flat_map bytes_of (ws ++ a)), size_target c.target c.label h.label.eight, size_append bytes_of ws a, size_map bytes_of as_when 12 (λ _. refl) c.whens, size_action c.action, h.few_whens)

pub bounded : (b : Bk) (p : Po) → SoFar b p → length (written (policy_format b) p) ≤ 15264
bounded b p h =
    let vs = map as_cell p.cells in
    let gs = flat_map of_gr p.groups in
    let cs = flat_map of_cs p.clauses in
    omega (arith, size_append bytes_of vs (gs ++ cs), size_append bytes_of gs cs, size_map bytes_of as_cell 5 (λ _. refl) p.cells, size_joined bytes_of of_gr 33 p.groups (sizes_gr b.operations 0 p.groups h.each_group), size_joined bytes_of of_cs 53 p.clauses (All-weaker (LawfulCs b.operations p.cells p.groups) (λ c. size bytes_of (of_cs c) ≤ 53) (size_cs b.operations p.cells p.groups) p.clauses h.each_clause), h.few_cells, h.few_groups, h.few_clauses)
