-- How a book is written and which books are lawful: nothing is read here.
use Rattle.std.specs.Prelude.{◌≡◌, ℕ, ◌<◌, ◌≤◌, Bool, false, List, [], ◌∷◌, ◌++◌, map, length, Some, None, Option, ◌≢◌}
use Rattle.book.specs.Books.{Op, Cl, Bk, empty_book, op_name, cl_name, or_else, marks_at, act_needs}
use Rattle.book.specs.declared.table.Act.TheVariants.{Look, Put}
use Rattle.book.specs.declared.table.Act.{Act}
use Rattle.book.specs.declared.table.After.{After}
use Rattle.book.specs.declared.table.Condition.TheVariants.{Always, NotZero, Zero}
use Rattle.book.specs.declared.table.Condition.{Condition}
use Rattle.book_file.specs.Changes.{obey}
use Rattle.book_file.specs.Commands.{command_at}
use Rattle.book_file.specs.Tests.{answered, tests}
use Rattle.book_file.specs.declared.commands.Command.TheVariants.{Operation, Field, Call, Before, Act as ACT, After as AFTER}
use Rattle.book_file.specs.declared.commands.Command.{Command}
use Rattle.format.specs.Bytes.{size_at}
use Rattle.format.specs.Format.{Format}
use Rattle.std.specs.List.{ContainsAt as Has, flat_map, AllByRecursion}

-- The writing.

-- a command's bytes
abbrev pub bytes_of : Command → List ℕ
bytes_of (Operation n) = 128 ∷ n.letters
bytes_of (Field m) = 16 ∷ m ∷ []
bytes_of (Call n) = 129 ∷ n.letters
bytes_of (Before k) = 17 ∷ k ∷ []
bytes_of (ACT a) = 18 ∷ a ∷ []
bytes_of (AFTER k q) = 32 ∷ k ∷ q ∷ []

-- the operand of ACT for an act: 1 look, 2 put
abbrev pub act_number : Act → ℕ
act_number Look = 1
act_number Put = 2

-- the operand of AFTER for a condition: 0 always, 1 answer not 0, 2 answer 0
abbrev pub condition_number : Condition → ℕ
condition_number Always = 0
condition_number NotZero = 1
condition_number Zero = 2

-- a mark is written as a FIELD
abbrev pub as_field : ℕ → Command
as_field m = Field m

-- a step before the act is written as a BEFORE
abbrev pub as_before : ℕ → Command
as_before k = Before k

-- an act is written as an ACT, and none as nothing
abbrev pub as_act : Option Act → List Command
as_act None = []
as_act (Some a) = ACT (act_number a) ∷ []

-- a step after the act is written as an AFTER
abbrev pub as_after : After → Command
as_after s = AFTER s.operation (condition_number s.condition)

-- an operation's commands
abbrev pub of_op : Op → List Command
of_op o = Operation o.name ∷ map as_field o.marks

-- a call's commands
abbrev pub of_cl : Cl → List Command
of_cl c = Call c.name ∷ (map as_field c.fields ++ (map as_before c.befores ++ (as_act c.act ++ map as_after c.afters)))

-- a book's commands: its operations, then its calls
abbrev pub commands_of : Bk → List Command
commands_of b = flat_map of_op b.operations ++ flat_map of_cl b.calls

-- The lawful books.

-- no element is equal to a later one
abbrev pub Apart : {X : Type 0} → List X → Type 0
Apart [] = Unit {0}
Apart (x ∷ xs) = AllByRecursion (λ y. x ≢ y) xs × Apart xs

-- a letter can be printed
abbrev pub Prints : ℕ → Type 0
Prints x = (32 ≤ x) × (x ≤ 126)

-- a name: eight letters that can be printed
pub record Proper (letters : List ℕ) : Type 0 where
  pub eight : length letters ≡ 8
  pub prints : AllByRecursion Prints letters

-- the marks of an operation or a call: at most so many, none of them 0, and no two the same
pub record Marked (most : ℕ) (marks : List ℕ) : Type 0 where
  pub few : length marks ≤ most
  pub proper : AllByRecursion (λ m. 0 < m) marks
  pub apart : Apart marks

-- an operation: a name and at most 6 marks
pub record LawfulOp (o : Op) : Type 0 where
  pub name : Proper (op_name o)
  pub marks : Marked 6 o.marks

-- a step of operation k can be filled from those marks: the operation is there, and each of its marks is one of them
pub record Met (ops : List Op) (marks : List ℕ) (k : ℕ) : Type 0 where
  pub defined : k < length ops
  pub filled : AllByRecursion (Has marks) (marks_at ops k)

-- a call of a book with those operations
pub record LawfulCl (ops : List Op) (c : Cl) : Type 0 where
  pub name : Proper (cl_name c)
  -- at most 8 fields, none of them the register's answer
  pub fields : Marked 8 c.fields
  pub unanswered : AllByRecursion (λ m. m ≢ 255) c.fields
  -- at most 8 BEFOREs, each filled from the fields
  pub few_befores : length c.befores ≤ 8
  pub befores_met : AllByRecursion (Met ops c.fields) c.befores
  -- an ACT's marks are fields
  pub act_met : AllByRecursion (Has c.fields) (or_else [] act_needs c.act)
  -- at most 8 AFTERs, each filled from the fields and the register's answer, and none without an ACT
  pub few_afters : length c.afters ≤ 8
  pub afters_met : AllByRecursion (λ s. Met ops (answered c) s.operation) c.afters
  pub afters_acted : c.act ≡ None → c.afters ≡ []

-- a book: at most 64 operations and 64 calls, each lawful, and of each kind no two of one name
pub record Lawful (b : Bk) : Type 0 where
  pub few_operations : length b.operations ≤ 64
  pub few_calls : length b.calls ≤ 64
  pub operations_apart : Apart (map op_name b.operations)
  pub calls_apart : Apart (map cl_name b.calls)
  pub each_operation : AllByRecursion LawfulOp b.operations
  pub each_call : AllByRecursion (LawfulCl b.operations) b.calls

-- a book may end anywhere
abbrev pub unfinished : Bk → Bool
unfinished b = false

-- the format of book files, of at most 32,767 bytes
abbrev pub book_format : Format
book_format = record { Whole = Bk; Command = Command; empty = empty_book; tests = tests; command_at = command_at; size_at = size_at; obey = obey; unfinished = unfinished; longest = 32767; bytes_of = bytes_of; commands_of = commands_of; SoFar = Lawful; Lawful = Lawful }

-- The places of names.

-- the name of an OPERATION stands one byte behind its first byte
abbrev pub operation_name : Command → Option ℕ
operation_name (Operation n) = Some 1
operation_name (Field m) = None
operation_name (Call n) = None
operation_name (Before k) = None
operation_name (ACT a) = None
operation_name (AFTER k q) = None

-- the name of a CALL stands one byte behind its first byte
abbrev pub call_name : Command → Option ℕ
call_name (Operation n) = None
call_name (Field m) = None
call_name (Call n) = Some 1
call_name (Before k) = None
call_name (ACT a) = None
call_name (AFTER k q) = None
