-- What a reader that answers r and leaves the book b has to show of a file, from what the reading of the file gives.
use Rattle.std.proofs.Common.{◌≡◌, ℕ, List, [], ◌∷◌, map, get_or, Ok, Err, OnOk, OnErr, Result, sym, ap, ◌∙◌, subst}
use Rattle.book.specs.Books.{op_name, cl_name, empty_book}
use Rattle.book.specs.Meaning.{book_of, operation_places, call_places}
use Rattle.book.specs.declared.table.Book.{Book}
use Rattle.book_file.proofs.Law.{holds}
use Rattle.book_file.proofs.Places.{operations_stand, calls_stand}
use Rattle.book_file.specs.Law.{book_format, operation_name, call_name}
use Rattle.book_file.specs.Reading.{Emptied}
use Rattle.format.proofs.Law.{accepts, refuses, one_writing}
use Rattle.format.specs.Bytes.{Bytes}
use Rattle.format.specs.Format.{read_file, answer_of, whole_left, refused_at, name_places, Accepts, Refuses, OneWriting, Stand}
use Rattle.format.specs.Readings.{come}
use Rattle.format.specs.Refusals.{At, number_of, numbered}
use Rattle.format.specs.declared.refusal.Refused.{Refused}

-- the places of both kinds of names, as they are kept and as they are in the writing
abbrev places : Book → List (List ℕ)
places b = operation_places b ∷ call_places b ∷ []

abbrev read_places : Book → List (List ℕ)
read_places b = name_places book_format operation_name (book_of b) ∷ name_places book_format call_name (book_of b) ∷ []

pub record Outcome (file : List ℕ) (r : Result (Unit {0}) At) (b : Book) : Type 0 where
  pub answer : r ≡ answer_of (read_file book_format file)
  pub left : book_of b ≡ whole_left book_format (read_file book_format file)
  pub accepts : Accepts book_format file r (book_of b)
  pub refuses : Refuses book_format file r
  pub apart : OneWriting book_format
  pub operations : operation_places b ≡ name_places book_format operation_name (book_of b)
  pub calls : call_places b ≡ name_places book_format call_name (book_of b)
  pub operation_names : Stand file (operation_places b) (map op_name (book_of b).operations)
  pub call_names : Stand file (call_places b) (map cl_name (book_of b).calls)

module _ (file : List ℕ) (bs : Bytes file) (b : Book) where
  outcome : (r : Result (Unit {0}) At) → r ≡ answer_of (read_file book_format file) → book_of b ≡ whole_left book_format (read_file book_format file) → operation_places b ≡ name_places book_format operation_name (book_of b) → call_places b ≡ name_places book_format call_name (book_of b) → Outcome file r b
  outcome r p q os cs = record {
    answer = p;
    left = q;
    accepts = accepts book_format holds file bs r (book_of b) p q;
    refuses = refuses book_format holds file bs r p;
    apart = one_writing book_format holds;
    operations = os;
    calls = cs;
    operation_names = subst (λ (ps : List ℕ). Stand file ps (map op_name (book_of b).operations)) (sym os) (operations_stand file bs (book_of b) q);
    call_names = subst (λ (ps : List ℕ). Stand file ps (map cl_name (book_of b).calls)) (sym cs) (calls_stand file bs (book_of b) q);
  }

  -- the file is refused, and the book is left as that of an empty file
  pub refused : (n o : ℕ) → read_file book_format file ≡ Err (refused_at n o) → book_of b ≡ empty_book → operation_places b ≡ [] → call_places b ≡ [] → Outcome file (Err (refused_at n o)) b
  refused n o e h os cs = outcome (Err (refused_at n o)) (sym (ap answer_of e)) (h ∙ sym (ap (whole_left book_format) e)) (os ∙ sym (ap (name_places book_format operation_name) h)) (cs ∙ sym (ap (name_places book_format call_name) h))

  -- the file is read as the book
  pub accepted : read_file book_format file ≡ Ok (book_of b) → operation_places b ≡ name_places book_format operation_name (book_of b) → call_places b ≡ name_places book_format call_name (book_of b) → Outcome file (Ok tt) b
  accepted e os cs = outcome (Ok tt) (sym (ap answer_of e)) (sym (ap (whole_left book_format) e)) os cs

-- what the reader came to, with the places of both kinds of names, or with nothing left
pub came : (file : List ℕ) → Bytes file → (b : Book) (r : Result (Unit {0}) Refused) → come r (book_of b) ≡ read_file book_format file → OnOk r (places b ≡ read_places b) → OnErr r (Emptied b) → Outcome file (numbered r) b
came file bs b (Ok u) e p q = accepted file bs b (sym e) (ap (λ (l : List (List ℕ)). get_or l 0 []) p) (ap (λ (l : List (List ℕ)). get_or l 1 []) p)
came file bs b (Err x) e p q = refused file bs b (number_of x.refusal) x.offset (sym e) q.0 q.1 q.2
