-- How a policy is written and which policies are lawful: nothing is read here.
use Rattle.std.specs.Prelude.{◌≡◌, ℕ, suc, ◌/◌, ◌%◌, ◌<◌, ◌≤◌, true, false, List, [], ◌∷◌, ◌++◌, map, length, is_some, Some, None, Decides, Option, slice_index_or}
use Rattle.book.specs.Books.{Op, Bk, marks_at}
use Rattle.book_file.specs.Law.{Apart, Proper}
use Rattle.format.specs.Bytes.{size_at}
use Rattle.format.specs.Format.{Format}
use Rattle.policy.specs.Coverage.{Gr, Applies, applies_to, flags}
use Rattle.policy.specs.Policies.{Cs, Po, empty_policy, cs_label, unfinished}
use Rattle.policy.specs.declared.table.Action.TheVariants.{Violate, Write}
use Rattle.policy.specs.declared.table.Action.{Action}
use Rattle.policy.specs.declared.table.Comparison.TheVariants.{Equal, Unequal, Less, AtMost}
use Rattle.policy.specs.declared.table.Comparison.{Comparison}
use Rattle.policy.specs.declared.table.Member.TheVariants.{Has, Nest}
use Rattle.policy.specs.declared.table.Member.{Member}
use Rattle.policy.specs.declared.table.Target.TheVariants.{Operation, Group}
use Rattle.policy.specs.declared.table.Target.{Target}
use Rattle.policy.specs.declared.table.Term.TheVariants.{Number, Field, Cell}
use Rattle.policy.specs.declared.table.Term.{Term}
use Rattle.policy.specs.declared.table.When.{When}
use Rattle.policy.specs.declared.table.Write.TheVariants.{Set, Add, Take}
use Rattle.policy.specs.declared.table.Write.{Write as Change}
use Rattle.policy_file.specs.Changes.{obey}
use Rattle.policy_file.specs.Commands.{command_at}
use Rattle.policy_file.specs.Tests.{tests}
use Rattle.policy_file.specs.declared.commands.Command.TheVariants.{Cell as CELL, Group as GROUP, Has as HAS, Nest as NEST, On as ON, OnGroup as ONGROUP, When as WHEN, Violate as VIOLATE, Write as WRITE}
use Rattle.policy_file.specs.declared.commands.Command.{Command}
use Rattle.policy_file.specs.declared.commands.RawTerm.{RawTerm}
use Rattle.std.specs.List.{flat_map, ContainsAt as Among, AllByRecursion}
use Rattle.tables.specs.declared.name.Name.{Name}

-- The writing.

-- a number in four bytes, the most significant first
abbrev pub bytes4 : ℕ → List ℕ
bytes4 v = (v / 16777216) ∷ (v / 65536 % 256) ∷ (v / 256 % 256) ∷ (v % 256) ∷ []

-- a term's five bytes
abbrev pub term_bytes : RawTerm → List ℕ
term_bytes t = t.kind ∷ bytes4 t.number

-- the first byte of a command that changes a cell
abbrev pub change_byte : Change → ℕ
change_byte Set = 96
change_byte Add = 97
change_byte Take = 98

-- a command's bytes
abbrev pub bytes_of : Command → List ℕ
bytes_of (CELL v) = 64 ∷ bytes4 v
bytes_of GROUP = 0 ∷ []
bytes_of (HAS o) = 16 ∷ o ∷ []
bytes_of (NEST k) = 17 ∷ k ∷ []
bytes_of (ON o n) = 144 ∷ o ∷ n.letters
bytes_of (ONGROUP k n) = 145 ∷ k ∷ n.letters
bytes_of (WHEN q l r) = 176 ∷ q ∷ (term_bytes l ++ term_bytes r)
bytes_of VIOLATE = 1 ∷ []
bytes_of (WRITE w k t) = change_byte w ∷ k ∷ term_bytes t

-- the kind and the number that stand for a term: kind 0 the number itself, 1 the field of that mark, 2 the cell of that number
abbrev pub raw_of : Term → RawTerm
raw_of (Number n) = record { kind = 0; number = n }
raw_of (Field m) = record { kind = 1; number = m }
raw_of (Cell k) = record { kind = 2; number = k }

-- the operand of WHEN for a comparison: 0 equal, 1 unequal, 2 left less, 3 left at most right
abbrev pub comparison_number : Comparison → ℕ
comparison_number Equal = 0
comparison_number Unequal = 1
comparison_number Less = 2
comparison_number AtMost = 3

-- a first value is written as a CELL
abbrev pub as_cell : ℕ → Command
as_cell v = CELL v

-- a member is written as a HAS or a NEST
abbrev pub as_member : Member → Command
as_member (Has o) = HAS o
as_member (Nest k) = NEST k

-- a clause begins with an ON or an ONGROUP
abbrev pub as_target : Target → Name → Command
as_target (Operation o) n = ON o n
as_target (Group k) n = ONGROUP k n

-- a condition is written as a WHEN
abbrev pub as_when : When → Command
as_when w = WHEN (comparison_number w.comparison) (raw_of w.left) (raw_of w.right)

-- an action is written as one command, and none as nothing
abbrev pub as_action : Option Action → List Command
as_action None = []
as_action (Some Violate) = VIOLATE ∷ []
as_action (Some (Write w k t)) = WRITE w k (raw_of t) ∷ []

-- a group's commands
abbrev pub of_gr : Gr → List Command
of_gr g = GROUP ∷ map as_member g.members

-- a clause's commands
abbrev pub of_cs : Cs → List Command
of_cs c = as_target c.target c.label ∷ (map as_when c.whens ++ as_action c.action)

-- a policy's commands: its cells, then its groups, then its clauses
abbrev pub commands_of : Po → List Command
commands_of p = map as_cell p.cells ++ (flat_map of_gr p.groups ++ flat_map of_cs p.clauses)

-- The lawful policies.

-- P holds of each element with its number, counted from k on
abbrev pub Numbered : {X : Type 0} → (ℕ → X → Type 0) → ℕ → List X → Type 0
Numbered P k [] = Unit {0}
Numbered P k (x ∷ xs) = P k x × Numbered P (suc k) xs

-- all elements but the last
abbrev pub before_last : {X : Type 0} → List X → List X
before_last [] = []
before_last (x ∷ []) = []
before_last (x ∷ (y ∷ ys)) = x ∷ before_last (y ∷ ys)

-- a member of group k is an operation of the book or a group of a lower number
abbrev pub LawfulMember : List Op → ℕ → Member → Type 0
LawfulMember ops k (Has o) = o < length ops
LawfulMember ops k (Nest h) = h < k

-- a lawful group of the number k
pub record LawfulGr (ops : List Op) (k : ℕ) (g : Gr) : Type 0 where
  pub few_members : length g.members ≤ 16
  pub members : AllByRecursion (LawfulMember ops k) g.members

-- a clause is on an operation of the book or on a group of the policy
abbrev pub LawfulTarget : List Op → List Gr → Target → Type 0
LawfulTarget ops gs (Operation o) = o < length ops
LawfulTarget ops gs (Group k) = k < length gs

-- a term in a clause: any number, a mark that every operation has to which the clause applies, or a cell of the policy
abbrev pub LawfulTerm : List Op → List ℕ → List Gr → Target → Term → Type 0
LawfulTerm ops cells gs t (Number n) = Unit {0}
LawfulTerm ops cells gs t (Field m) = (1 ≤ m) × (m ≤ 255) × ((o : ℕ) → Applies gs t o → Among (marks_at ops o) m)
LawfulTerm ops cells gs t (Cell k) = k < length cells

-- a condition in a clause has two such terms
pub record LawfulWhen (ops : List Op) (cells : List ℕ) (gs : List Gr) (t : Target) (w : When) : Type 0 where
  pub left : LawfulTerm ops cells gs t w.left
  pub right : LawfulTerm ops cells gs t w.right

-- an action, where the clause has one, that changes a cell of the policy does so by such a term
abbrev pub LawfulAction : List Op → List ℕ → List Gr → Target → Option Action → Type 0
LawfulAction ops cells gs t None = Unit {0}
LawfulAction ops cells gs t (Some Violate) = Unit {0}
LawfulAction ops cells gs t (Some (Write w k x)) = (k < length cells) × LawfulTerm ops cells gs t x

-- a lawful clause of a policy with those cells and groups, but for an action that has not come
pub record LawfulCs (ops : List Op) (cells : List ℕ) (gs : List Gr) (c : Cs) : Type 0 where
  pub label : Proper (cs_label c)
  pub target : LawfulTarget ops gs c.target
  pub covers : c.covers ≡ flags (applies_to gs c.target)
  pub few_whens : length c.whens ≤ 3
  pub whens : AllByRecursion (LawfulWhen ops cells gs c.target) c.whens
  pub action : LawfulAction ops cells gs c.target c.action

-- the clause has its action
abbrev pub Acted : Cs → Type 0
Acted c = is_some c.action ≡ true

-- what a lawful policy may have come to so far: only the last clause may want its action
pub record SoFar (b : Bk) (p : Po) : Type 0 where
  pub few_cells : length p.cells ≤ 128
  pub few_groups : length p.groups ≤ 32
  pub few_clauses : length p.clauses ≤ 256
  pub each_group : Numbered (LawfulGr b.operations) 0 p.groups
  pub labels_apart : Apart (map cs_label p.clauses)
  pub each_clause : AllByRecursion (LawfulCs b.operations p.cells p.groups) p.clauses
  pub acted_before : AllByRecursion Acted (before_last p.clauses)

-- a lawful policy: each clause has its action
pub record Lawful (b : Bk) (p : Po) : Type 0 where
  pub so_far : SoFar b p
  pub acted : AllByRecursion Acted p.clauses

-- the format of policy files for a book, of at most 32,767 bytes
abbrev pub policy_format : Bk → Format
policy_format b = record { Whole = Po; Command = Command; empty = empty_policy; tests = tests b; command_at = command_at; size_at = size_at; obey = obey; unfinished = unfinished; longest = 32767; bytes_of = bytes_of; commands_of = commands_of; SoFar = SoFar b; Lawful = Lawful b }

-- What the flags of clauses say.

-- each clause has 64 flags, raised exactly for the operations to which it applies
abbrev pub Flagged : Po → Type 0
Flagged p = AllByRecursion (λ c. (length c.covers ≡ 64) × ((o : ℕ) → Decides (slice_index_or c.covers o false) (Applies p.groups c.target o))) p.clauses

-- The places of labels.

-- a clause's label stands two bytes behind its first byte
abbrev pub label_name : Command → Option ℕ
label_name (CELL v) = None
label_name GROUP = None
label_name (HAS o) = None
label_name (NEST k) = None
label_name (ON o n) = Some 2
label_name (ONGROUP k n) = Some 2
label_name (WHEN q l r) = None
label_name VIOLATE = None
label_name (WRITE w k t) = None
