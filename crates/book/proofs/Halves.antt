-- A book with other operations, and with other calls.
use Rattle.book.specs.Books.{Op, Cl, Bk}
use Rattle.std.proofs.Common.{List}

abbrev pub operations_are : Bk → List Op → Bk
operations_are b os = record { operations = os; calls = b.calls }

abbrev pub calls_are : Bk → List Cl → Bk
calls_are b cs = record { operations = b.operations; calls = cs }
