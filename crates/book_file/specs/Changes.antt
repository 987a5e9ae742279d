-- What each command makes of a book.
use Rattle.std.specs.Prelude.{◌≡◌}
use Rattle.book.specs.Books.{Bk, or_else, marked, fielded, preceded, acting, followed, with_operation, with_call, in_last_op, in_last_cl}
use Rattle.book.specs.Meaning.{operation_places, call_places}
use Rattle.book.specs.Operands.{act_of, condition_of}
use Rattle.book.specs.declared.table.Book.{Book}
use Rattle.book_file.specs.declared.commands.Command.TheVariants.{Operation, Field, Call, Before, Act as ACT, After as AFTER}
use Rattle.book_file.specs.declared.commands.Command.{Command}
use Rattle.tables.specs.Lists.{last_of}

-- the book after a command that no test speaks against
abbrev pub obey : Bk → Command → Bk
obey b (Operation n) = with_operation n b
obey b (Field m) = or_else (in_last_op (marked m) b) (λ _. in_last_cl (fielded m) b) (last_of b.calls)
obey b (Call n) = with_call n b
obey b (Before k) = in_last_cl (preceded k) b
obey b (ACT a) = in_last_cl (acting (act_of a)) b
obey b (AFTER k q) = in_last_cl (followed k (condition_of q)) b

-- the names of b stand at the places at which those of a stand
abbrev pub SamePlaces : Book → Book → Type 0
SamePlaces a b = (operation_places b ≡ operation_places a) × (call_places b ≡ call_places a)
