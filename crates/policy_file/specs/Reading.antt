-- What reading a policy against a book leaves.
use Rattle.std.specs.Prelude.{◌≡◌, ℕ, List, [], Ok, Err, Result}
use Rattle.book.specs.Books.{Bk, empty_book}
use Rattle.format.specs.Refusals.{At}
use Rattle.book.specs.Meaning.{operation_places, call_places}
use Rattle.policy.specs.Meaning.{Tb, table_of, label_places}
use Rattle.policy.specs.Policies.{Po, empty_policy}
use Rattle.policy.specs.declared.table.Table.{Table}

-- the table that a reader leaves: the book with the policy that it read, or the table of two empty files
abbrev pub table_left : Bk → Result Po At → Tb
table_left b (Ok p) = record { book = b; policy = p }
table_left b (Err e) = record { book = empty_book; policy = empty_policy }

-- the places of the book's names that a reader leaves in the table: those of the book, or none
abbrev pub places_left : List ℕ → Result Po At → List ℕ
places_left places (Ok p) = places
places_left places (Err e) = []

-- the table of two empty files, with no place of a name or a label
abbrev pub Emptied : Table → Type 0
Emptied t = (table_of t ≡ record { book = empty_book; policy = empty_policy }) × (operation_places t.book ≡ []) × (call_places t.book ≡ []) × (label_places t ≡ [])
