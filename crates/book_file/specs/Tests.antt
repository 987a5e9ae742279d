-- What may speak against a command, in the order of the refusals' numbers; each test sees the book as read so far and the command.
use Rattle.std.specs.Prelude.{ℕ, Bool, true, false, cond, not, ◌||◌, List, [], ◌∷◌, map, is_some, Ok, Err, Result, ◌==◌}
use Rattle.book.specs.Books.{Op, Cl, Bk, or_else, op_name, cl_name, marks_at, filled, full, has, has_all, named, act_needs}
use Rattle.book_file.specs.Changes.{obey}
use Rattle.book_file.specs.Commands.{command_at, unknown}
use Rattle.book.specs.Operands.{act_of, condition_of}
use Rattle.book_file.specs.declared.commands.Command.TheVariants.{Operation, Field, Call, Before, Act as ACT, After as AFTER}
use Rattle.book_file.specs.declared.commands.Command.{Command}
use Rattle.format.specs.Bytes.{cut_off, on_bytes}
use Rattle.format.specs.Format.{unless}
use Rattle.std.specs.List.{slice_get}
use Rattle.tables.specs.Lists.{last_of}
use Rattle.tables.specs.Names.{proper}

-- The words of the tests.

-- the call has its ACT
abbrev pub acted : Cl → Bool
acted c = is_some c.act

-- the call takes no more fields: it has a BEFORE or its ACT, behind which alone an AFTER stands
abbrev pub begun : Cl → Bool
begun c = filled c.befores || acted c

-- the marks with which a call fills an AFTER: its fields and the register's answer
abbrev pub answered : Cl → List ℕ
answered c = 255 ∷ c.fields

-- a mark beside others, of which there may be so many, and none of the reserved ones; or the number of the first test that speaks against it
abbrev pub mark_judged : List ℕ → ℕ → List ℕ → ℕ → Result (Unit {0}) ℕ
mark_judged marks most reserved m = cond (full most marks) (Err 4) (cond (has reserved m) (Err 5) (cond (has marks m) (Err 7) (Ok tt)))

-- a name beside others, of which there may be so many; or the number of the first test that speaks against it
abbrev pub name_judged : List (List ℕ) → ℕ → List ℕ → Result (Unit {0}) ℕ
name_judged names most n = cond (full most names) (Err 4) (cond (not (proper n)) (Err 5) (cond (named names n) (Err 7) (Ok tt)))

-- a step of operation k, filled from those marks; or the number of the first test that speaks against it
abbrev pub step_judged : List Op → ℕ → List ℕ → Result (Unit {0}) ℕ
step_judged ops k marks = cond (not (is_some (slice_get ops k))) (Err 6) (cond (not (has_all marks (marks_at ops k))) (Err 8) (Ok tt))

-- The tests from 3 on.

-- 3: an OPERATION after a CALL; a FIELD before all else or in a call that has begun; a BEFORE with no call or behind an ACT; an ACT with no call or a second one; an AFTER with no ACT
abbrev pub misplaced : Bk → Command → Bool
misplaced b (Operation n) = filled b.calls
misplaced b (Field m) = or_else (not (filled b.operations)) begun (last_of b.calls)
misplaced b (Call n) = false
misplaced b (Before k) = or_else true acted (last_of b.calls)
misplaced b (ACT a) = or_else true acted (last_of b.calls)
misplaced b (AFTER k q) = or_else true (λ c. not (acted c)) (last_of b.calls)

-- 4: one more than 64 operations, 6 marks, 64 calls, 8 fields, 8 BEFOREs, 8 AFTERs
abbrev pub crowded : Bk → Command → Bool
crowded b (Operation n) = full 64 b.operations
crowded b (Field m) = or_else (or_else false (λ o. full 6 o.marks) (last_of b.operations)) (λ c. full 8 c.fields) (last_of b.calls)
crowded b (Call n) = full 64 b.calls
crowded b (Before k) = or_else false (λ c. full 8 c.befores) (last_of b.calls)
crowded b (ACT a) = false
crowded b (AFTER k q) = or_else false (λ c. full 8 c.afters) (last_of b.calls)

-- 5: a name with a letter that cannot be printed; the mark 0, or in a call 255; an ACT or a condition that there is not
abbrev pub outside : Bk → Command → Bool
outside b (Operation n) = not (proper n.letters)
outside b (Field m) = or_else (m == 0) (λ _. (m == 0) || m == 255) (last_of b.calls)
outside b (Call n) = not (proper n.letters)
outside b (Before k) = false
outside b (ACT a) = not (is_some (act_of a))
outside b (AFTER k q) = not (is_some (condition_of q))

-- 6: a BEFORE or an AFTER of an operation that there is not so far
abbrev pub undefined : Bk → Command → Bool
undefined b (Operation n) = false
undefined b (Field m) = false
undefined b (Call n) = false
undefined b (Before k) = not (is_some (slice_get b.operations k))
undefined b (ACT a) = false
undefined b (AFTER k q) = not (is_some (slice_get b.operations k))

-- 7: an operation's name among the operations, a call's among the calls, a mark in its operation or call
abbrev pub taken : Bk → Command → Bool
taken b (Operation n) = named (map op_name b.operations) n.letters
taken b (Field m) = or_else (or_else false (λ o. has o.marks m) (last_of b.operations)) (λ c. has c.fields m) (last_of b.calls)
taken b (Call n) = named (map cl_name b.calls) n.letters
taken b (Before k) = false
taken b (ACT a) = false
taken b (AFTER k q) = false

-- 8: a BEFORE's operation has a mark that is no field of the call; an AFTER's likewise but for 255; an ACT's mark is no field
abbrev pub lacking : Bk → Command → Bool
lacking b (Operation n) = false
lacking b (Field m) = false
lacking b (Call n) = false
lacking b (Before k) = or_else false (λ c. not (has_all c.fields (marks_at b.operations k))) (last_of b.calls)
lacking b (ACT a) = or_else false (λ c. not (has_all c.fields (or_else [] act_needs (act_of a)))) (last_of b.calls)
lacking b (AFTER k q) = or_else false (λ c. not (has_all (answered c) (marks_at b.operations k))) (last_of b.calls)

-- the tests on a command, 3 to 8
abbrev pub command_tests : List (Bk → Command → Bool)
command_tests = misplaced ∷ crowded ∷ outside ∷ undefined ∷ taken ∷ lacking ∷ []

-- all tests, 1 to 8
abbrev pub tests : List (Bk → List ℕ → Bool)
tests = unknown ∷ cut_off ∷ map (on_bytes command_at) command_tests

-- what a command makes of a book, or the number of the first test that speaks against it
abbrev pub judged : Bk → Command → Result Bk ℕ
judged b c = unless 3 command_tests b c (obey b c)
