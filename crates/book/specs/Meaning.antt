-- What the tables in memory stand for.
use Rattle.std.specs.Prelude.{ℕ, List, map}
use Rattle.book.specs.Books.{Op, Cl, Bk}
use Rattle.book.specs.declared.table.Book.{Book}
use Rattle.book.specs.declared.table.Call.{Call}
use Rattle.book.specs.declared.table.Operation.{Operation}
use Rattle.tables.specs.Rows.{rows_of}

-- an operation
abbrev pub op_of : Operation → Op
op_of o = record { name = o.placed.name; marks = rows_of o.marks }

-- a call
abbrev pub cl_of : Call → Cl
cl_of c = record { name = c.placed.name; fields = rows_of c.fields; befores = rows_of c.befores; act = c.act; afters = rows_of c.afters }

-- a book
abbrev pub book_of : Book → Bk
book_of b = record { operations = map op_of (rows_of b.operations); calls = map cl_of (rows_of b.calls) }

-- the place of an operation's name in the file
abbrev pub op_place : Operation → ℕ
op_place o = o.placed.place

-- the place of a call's name in the file
abbrev pub cl_place : Call → ℕ
cl_place c = c.placed.place

-- the places of the operations' names in the file
abbrev pub operation_places : Book → List ℕ
operation_places b = map op_place (rows_of b.operations)

-- the places of the calls' names in the file
abbrev pub call_places : Book → List ℕ
call_places b = map cl_place (rows_of b.calls)
