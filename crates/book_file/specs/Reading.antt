-- What a refused file leaves.
use Rattle.std.specs.Prelude.{◌≡◌, []}
use Rattle.book.specs.Books.{empty_book}
use Rattle.book.specs.Meaning.{book_of, operation_places, call_places}
use Rattle.book.specs.declared.table.Book.{Book}

-- the book of an empty file, with no place of a name
abbrev pub Emptied : Book → Type 0
Emptied b = (book_of b ≡ empty_book) × (operation_places b ≡ []) × (call_places b ≡ [])
