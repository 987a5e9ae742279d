-- In the file that was read, the label of each clause stands at its place.
use Rattle.std.proofs.Common.{◌≡◌, ℕ, ◌+◌, ◌≤◌, List, [], ◌∷◌, ◌++◌, map, length, Some, None, Option, sym, refl, ap, ◌∙◌, subst₂, zero-add}
use Rattle.book.specs.Books.{Bk}
use Rattle.book_file.proofs.Places.{name_there, stand_left}
use Rattle.format.proofs.Places.{joined_append, places_append, Quiet, quiet_append, quiet_map, quiet_joined, Named, names_stand}
use Rattle.format.specs.Bytes.{Bytes}
use Rattle.format.specs.Format.{places_in, name_places, written, read_file, whole_left, Stand}
use Rattle.policy.specs.Policies.{Po, cs_label}
use Rattle.policy.specs.declared.table.Action.TheVariants.{Violate, Write}
use Rattle.policy.specs.declared.table.Action.{Action}
use Rattle.policy.specs.declared.table.Member.TheVariants.{Has, Nest}
use Rattle.policy.specs.declared.table.Member.{Member}
use Rattle.policy.specs.declared.table.Target.TheVariants.{Operation, Group}
use Rattle.policy.specs.declared.table.Target.{Target}
use Rattle.policy.specs.declared.table.When.{When}
use Rattle.policy_file.proofs.Law.{holds}
use Rattle.policy_file.specs.Law.{bytes_of, as_cell, as_member, as_when, as_action, of_gr, of_cs, policy_format, label_name}
use Rattle.policy_file.specs.declared.commands.Command.{Command}
use Rattle.std.proofs.lemmas.List.{append-nil, append_assoc}
use Rattle.std.specs.List.{flat_map}
use Rattle.tables.specs.declared.name.Name.{Name}

-- only ON and ONGROUP have a label
quiet_member : (m : Member) → label_name (as_member m) ≡ None
quiet_member (Has o) = refl
quiet_member (Nest k) = refl

quiet_action : (a : Option Action) → Quiet bytes_of label_name (as_action a)
quiet_action None at = refl
quiet_action (Some Violate) at = refl
quiet_action (Some (Write w k t)) at = refl

-- what stands behind the ON or ONGROUP of a clause
abbrev parts : List When → Option Action → List Command
parts ws a = map as_when ws ++ as_action a

quiet_parts : (ws : List When) (a : Option Action) → Quiet bytes_of label_name (parts ws a)
quiet_parts ws a = quiet_append bytes_of label_name (map as_when ws) (as_action a) (quiet_map bytes_of label_name as_when (λ w. refl) ws) (quiet_action a)

label_at : (n : Name) (t : Target) (fs : _) (ws : List When) (a : Option Action) → Named bytes_of label_name of_cs cs_label 2 (record { label = n; target = t; covers = fs; whens = ws; action = a })
label_at n (Operation o) fs ws a = record { once = λ at. ap (λ (l : List ℕ). (at + 2) ∷ l) (quiet_parts ws a _); there = name_there n.letters (flat_map bytes_of (parts ws a)) }
label_at n (Group k) fs ws a = record { once = λ at. ap (λ (l : List ℕ). (at + 2) ∷ l) (quiet_parts ws a _); there = name_there n.letters (flat_map bytes_of (parts ws a)) }

-- The whole policy.

module _ (b : Bk) (p : Po) where
  abbrev first : List Command
  first = map as_cell p.cells ++ flat_map of_gr p.groups

  abbrev clauses : List Command
  clauses = flat_map of_cs p.clauses

  quiet_first : Quiet bytes_of label_name first
  quiet_first = quiet_append bytes_of label_name (map as_cell p.cells) (flat_map of_gr p.groups) (quiet_map bytes_of label_name as_cell (λ v. refl) p.cells) (quiet_joined bytes_of label_name of_gr (λ g at. quiet_map bytes_of label_name as_member quiet_member g.members _) p.groups)

  labels_written : Stand (written (policy_format b) p) (name_places (policy_format b) label_name p) (map cs_label p.clauses)
  labels_written =
      let n = length (flat_map bytes_of first) in
      let all : first ++ clauses ≡ map as_cell p.cells ++ (flat_map of_gr p.groups ++ clauses) = append_assoc (map as_cell p.cells) (flat_map of_gr p.groups) clauses in
      let places : places_in bytes_of label_name n clauses ≡ name_places (policy_format b) label_name p = ap (λ (i : ℕ). places_in bytes_of label_name i clauses) (sym (zero-add n)) ∙ ap (λ (l : List ℕ). l ++ places_in bytes_of label_name (0 + n) clauses) (sym (quiet_first 0)) ∙ sym (places_append bytes_of label_name 0 first clauses) ∙ ap (places_in bytes_of label_name 0) all in
      let file : flat_map bytes_of first ++ (flat_map bytes_of clauses ++ []) ≡ written (policy_format b) p = ap (λ (l : List ℕ). flat_map bytes_of first ++ l) (append-nil (flat_map bytes_of clauses)) ∙ sym (joined_append bytes_of first clauses) ∙ ap (flat_map bytes_of) all in
      subst₂ (λ (l ps : List ℕ). Stand l ps (map cs_label p.clauses)) file places (names_stand bytes_of label_name of_cs cs_label 2 (λ c. label_at c.label c.target c.covers c.whens c.action) p.clauses (flat_map bytes_of first) [])

-- what a reader leaves: the labels of the file, or none
pub labels_stand : (b : Bk) → length b.operations ≤ 64 → (file : List ℕ) → Bytes file → (p : Po) → p ≡ whole_left (policy_format b) (read_file (policy_format b) file) → Stand file (name_places (policy_format b) label_name p) (map cs_label p.clauses)
labels_stand b short file bs = stand_left (policy_format b) (holds b short) file bs label_name (λ p. map cs_label p.clauses) tt (labels_written b)
