-- What the two files give: the full table, or the first fault.
use Rattle.std.specs.Prelude.{ℕ, List, [], Some, None, Ok, Err, Option, Result}
use Rattle.book.specs.Books.{Bk, empty_book}
use Rattle.book_file.specs.Law.{book_format}
use Rattle.format.specs.Format.{read_file}
use Rattle.format.specs.Refusals.{At}
use Rattle.loading.specs.Faults.Trouble.{no_book, bad_book, no_policy, bad_policy}
use Rattle.loading.specs.Faults.{Trouble}
use Rattle.policy_file.specs.Law.{policy_format}
use Rattle.policy.specs.Meaning.{Tb}
use Rattle.policy.specs.Policies.{Po, empty_policy}

-- what a policy that was read against a book gives
abbrev pub with_policy : Bk → Result Po At → Result Tb Trouble
with_policy b (Ok p) = Ok (record { book = b; policy = p })
with_policy b (Err e) = Err (bad_policy e)

-- what the policy's file gives, where it is there, with a book that was read
abbrev pub with_book : Option (List ℕ) → Result Bk At → Result Tb Trouble
with_book policy (Err e) = Err (bad_book e)
with_book None (Ok b) = Err no_policy
with_book (Some policy) (Ok b) = with_policy b (read_file (policy_format b) policy)

-- what reading a book gives, told as the loading of it
abbrev pub as_loaded : Result Bk At → Result Bk Trouble
as_loaded (Ok b) = Ok b
as_loaded (Err e) = Err (bad_book e)

-- what both files give, where they are there
abbrev pub loaded : Option (List ℕ) → Option (List ℕ) → Result Tb Trouble
loaded None policy = Err no_book
loaded (Some book) policy = with_book policy (read_file book_format book)

-- what the book's file gives, where it is there
abbrev pub book_loaded : Option (List ℕ) → Result Bk Trouble
book_loaded None = Err no_book
book_loaded (Some book) = as_loaded (read_file book_format book)

-- what loading answers
abbrev pub verdict_of : Result Tb Trouble → Result (Unit {0}) Trouble
verdict_of (Ok t) = Ok tt
verdict_of (Err e) = Err e

-- the table that loading leaves: that of the files, or that of two empty files
abbrev pub table_after : Result Tb Trouble → Tb
table_after (Ok t) = t
table_after (Err e) = record { book = empty_book; policy = empty_policy }

-- what loading a book alone answers
abbrev pub book_verdict : Result Bk Trouble → Result (Unit {0}) Trouble
book_verdict (Ok b) = Ok tt
book_verdict (Err e) = Err e

-- the book that loading it leaves: that of the file, or that of an empty file
abbrev pub book_after : Result Bk Trouble → Bk
book_after (Ok b) = b
book_after (Err e) = empty_book

-- the places of names of the book that loading leaves: its own, or none
abbrev pub places_after : Result Tb Trouble → List ℕ → List ℕ
places_after (Ok t) places = places
places_after (Err e) places = []
