-- What may speak against a command, in the order of the refusals' numbers; each test sees the book's operations, the policy as read so far and the command.
use Rattle.std.specs.Prelude.{ℕ, ◌+◌, Bool, false, not, ◌||◌, List, [], ◌∷◌, map, length, is_some, Result, nat_lt}
use Rattle.book.specs.Books.{Op, Bk, or_else, filled, full, named}
use Rattle.format.specs.Bytes.{cut_off, on_bytes}
use Rattle.format.specs.Format.{unless}
use Rattle.policy.specs.Policies.{Cs, Po, cs_label, unfinished, lacks}
use Rattle.policy_file.specs.Changes.{obey}
use Rattle.policy_file.specs.Commands.{command_at, unknown}
use Rattle.policy.specs.Comparisons.{comparison_of}
use Rattle.policy_file.specs.Terms.{known, term_of}
use Rattle.policy_file.specs.declared.commands.Command.TheVariants.{Cell as CELL, Group as GROUP, Has as HAS, Nest as NEST, On as ON, OnGroup as ONGROUP, When as WHEN, Violate as VIOLATE, Write as WRITE}
use Rattle.policy_file.specs.declared.commands.Command.{Command}
use Rattle.policy_file.specs.declared.commands.RawTerm.{RawTerm}
use Rattle.std.specs.List.{slice_get}
use Rattle.tables.specs.Lists.{last_of}
use Rattle.tables.specs.Names.{proper}

-- The words of the tests.

-- there is no element of that number
abbrev pub absent : {X : Type 0} → List X → ℕ → Bool
absent xs k = not (is_some (slice_get xs k))

-- what stands for a term, where it stands for one, is a field's whose mark is lacked by an operation to which the clause applies
abbrev pub lacks_in : List Op → List ℕ → Cs → RawTerm → Bool
lacks_in ops cells c t = or_else false (lacks ops c.covers) (term_of cells t)

-- The tests from 3 on.

-- 3: a CELL after a GROUP or a clause; a GROUP after a clause; a HAS or a NEST before any GROUP or after a clause; an ON or ONGROUP while the last clause is unfinished; a WHEN or an action where it is not
abbrev pub misplaced : Po → Command → Bool
misplaced p (CELL v) = filled p.groups || filled p.clauses
misplaced p GROUP = filled p.clauses
misplaced p (HAS o) = filled p.clauses || not (filled p.groups)
misplaced p (NEST k) = filled p.clauses || not (filled p.groups)
misplaced p (ON o n) = unfinished p
misplaced p (ONGROUP k n) = unfinished p
misplaced p (WHEN q l r) = not (unfinished p)
misplaced p VIOLATE = not (unfinished p)
misplaced p (WRITE w k t) = not (unfinished p)

-- 4: one more than 128 cells, 32 groups, 16 members, 256 clauses, 3 WHENs
abbrev pub crowded : Po → Command → Bool
crowded p (CELL v) = full 128 p.cells
crowded p GROUP = full 32 p.groups
crowded p (HAS o) = or_else false (λ g. full 16 g.members) (last_of p.groups)
crowded p (NEST k) = or_else false (λ g. full 16 g.members) (last_of p.groups)
crowded p (ON o n) = full 256 p.clauses
crowded p (ONGROUP k n) = full 256 p.clauses
crowded p (WHEN q l r) = or_else false (λ c. full 3 c.whens) (last_of p.clauses)
crowded p VIOLATE = false
crowded p (WRITE w k t) = false

-- 5: a label with a letter that cannot be printed; a comparison that there is not; a term of a kind that there is not, or of a field whose number is no mark
abbrev pub outside : Po → Command → Bool
outside p (CELL v) = false
outside p GROUP = false
outside p (HAS o) = false
outside p (NEST k) = false
outside p (ON o n) = not (proper n.letters)
outside p (ONGROUP k n) = not (proper n.letters)
outside p (WHEN q l r) = not (is_some (comparison_of q)) || (not (known l) || not (known r))
outside p VIOLATE = false
outside p (WRITE w k t) = not (known t)

-- 6: an operation that the book has not; a NEST of a group that is not lower than its own; a clause on a group that there is not; a term or an action of a cell that there is not
abbrev pub undefined : List Op → Po → Command → Bool
undefined ops p (CELL v) = false
undefined ops p GROUP = false
undefined ops p (HAS o) = absent ops o
undefined ops p (NEST k) = not (nat_lt (k + 1) (length p.groups))
undefined ops p (ON o n) = absent ops o
undefined ops p (ONGROUP k n) = absent p.groups k
undefined ops p (WHEN q l r) = not (is_some (term_of p.cells l)) || not (is_some (term_of p.cells r))
undefined ops p VIOLATE = false
undefined ops p (WRITE w k t) = not (nat_lt k (length p.cells)) || not (is_some (term_of p.cells t))

-- 7: a label among the labels
abbrev pub taken : Po → Command → Bool
taken p (CELL v) = false
taken p GROUP = false
taken p (HAS o) = false
taken p (NEST k) = false
taken p (ON o n) = named (map cs_label p.clauses) n.letters
taken p (ONGROUP k n) = named (map cs_label p.clauses) n.letters
taken p (WHEN q l r) = false
taken p VIOLATE = false
taken p (WRITE w k t) = false

-- 8: a field's mark that is not a mark of every operation to which the last clause applies
abbrev pub lacking : List Op → Po → Command → Bool
lacking ops p (CELL v) = false
lacking ops p GROUP = false
lacking ops p (HAS o) = false
lacking ops p (NEST k) = false
lacking ops p (ON o n) = false
lacking ops p (ONGROUP k n) = false
lacking ops p (WHEN q l r) = or_else false (λ c. lacks_in ops p.cells c l || lacks_in ops p.cells c r) (last_of p.clauses)
lacking ops p VIOLATE = false
lacking ops p (WRITE w k t) = or_else false (λ c. lacks_in ops p.cells c t) (last_of p.clauses)

-- the tests on a command, 3 to 8
abbrev pub command_tests : Bk → List (Po → Command → Bool)
command_tests b = misplaced ∷ crowded ∷ outside ∷ undefined b.operations ∷ taken ∷ lacking b.operations ∷ []

-- all tests, 1 to 8
abbrev pub tests : Bk → List (Po → List ℕ → Bool)
tests b = unknown ∷ cut_off ∷ map (on_bytes command_at) (command_tests b)

-- what a command makes of a policy, or the number of the first test that speaks against it
abbrev pub judged : Bk → Po → Command → Result Po ℕ
judged b p c = unless 3 (command_tests b) p c (obey p c)
