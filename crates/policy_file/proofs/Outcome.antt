-- What a reader that answers r and leaves the table t has to show of a file read against a book, from what the reading of the file gives.
use Rattle.std.proofs.Common.{◌≡◌, ℕ, List, [], ◌∷◌, map, get_or, Ok, Err, OnOk, OnErr, Result, sym, ap, ◌∙◌, subst}
use Rattle.book.specs.Books.{empty_book}
use Rattle.book.specs.Meaning.{book_of, operation_places, call_places}
use Rattle.book.specs.declared.table.Book.{Book}
use Rattle.format.proofs.Law.{accepts, refuses, one_writing}
use Rattle.format.specs.Bytes.{Bytes}
use Rattle.format.specs.Format.{Format, read_file, answer_of, whole_left, refused_at, name_places, Accepts, Refuses, OneWriting, Stand}
use Rattle.format.specs.Readings.{come}
use Rattle.format.specs.Refusals.{At, number_of, numbered}
use Rattle.format.specs.declared.refusal.Refused.{Refused}
use Rattle.policy.specs.Meaning.{Tb, policy_of, table_of, label_places}
use Rattle.policy.specs.Policies.{cs_label, empty_policy}
use Rattle.policy.specs.declared.table.Table.{Table}
use Rattle.policy_file.proofs.Flags.{flags_left}
use Rattle.policy_file.proofs.Law.{holds, short_book}
use Rattle.policy_file.proofs.Places.{labels_stand}
use Rattle.policy_file.specs.Law.{policy_format, label_name, Flagged}
use Rattle.policy_file.specs.Reading.{table_left, places_left, Emptied}

-- the format of policies for the book that is handed in
abbrev against : Book → Format
against x = policy_format (book_of x)

-- the places of labels, as they are kept and as they are in the writing
abbrev places : Table → List (List ℕ)
places t = label_places t ∷ []

abbrev read_places : Book → Table → List (List ℕ)
read_places x t = name_places (against x) label_name (policy_of t) ∷ []

pub record Outcome (x : Book) (file : List ℕ) (r : Result (Unit {0}) At) (t : Table) : Type 0 where
  pub answer : r ≡ answer_of (read_file (against x) file)
  pub left : table_of t ≡ table_left (book_of x) (read_file (against x) file)
  pub accepts : Accepts (against x) file r (policy_of t)
  pub refuses : Refuses (against x) file r
  pub apart : OneWriting (against x)
  pub operations : operation_places t.book ≡ places_left (operation_places x) (read_file (against x) file)
  pub calls : call_places t.book ≡ places_left (call_places x) (read_file (against x) file)
  pub labels : label_places t ≡ name_places (against x) label_name (policy_of t)
  pub label_names : Stand file (label_places t) (map cs_label (policy_of t).clauses)
  pub flagged : Flagged (policy_of t)

module _ (x : Book) (file : List ℕ) (bs : Bytes file) (t : Table) where
  outcome : (r : Result (Unit {0}) At) → r ≡ answer_of (read_file (against x) file) → table_of t ≡ table_left (book_of x) (read_file (against x) file) → policy_of t ≡ whole_left (against x) (read_file (against x) file) → operation_places t.book ≡ places_left (operation_places x) (read_file (against x) file) → call_places t.book ≡ places_left (call_places x) (read_file (against x) file) → label_places t ≡ name_places (against x) label_name (policy_of t) → Outcome x file r t
  outcome r a l q os cs ls = record {
    answer = a;
    left = l;
    accepts = accepts (against x) (holds (book_of x) (short_book x)) file bs r (policy_of t) a q;
    refuses = refuses (against x) (holds (book_of x) (short_book x)) file bs r a;
    apart = one_writing (against x) (holds (book_of x) (short_book x));
    operations = os;
    calls = cs;
    labels = ls;
    label_names = subst (λ (ps : List ℕ). Stand file ps (map cs_label (policy_of t).clauses)) (sym ls) (labels_stand (book_of x) (short_book x) file bs (policy_of t) q);
    flagged = flags_left (book_of x) (short_book x) file bs (policy_of t) q;
  }

  -- the file is refused, and the table is left as that of two empty files
  pub refused : (n o : ℕ) → read_file (against x) file ≡ Err (refused_at n o) → table_of t ≡ record { book = empty_book; policy = empty_policy } → operation_places t.book ≡ [] → call_places t.book ≡ [] → label_places t ≡ [] → Outcome x file (Err (refused_at n o)) t
  refused n o e h os cs ls =
      let p : policy_of t ≡ empty_policy = ap (λ (y : Tb). y.policy) h in
      outcome (Err (refused_at n o)) (sym (ap answer_of e)) (h ∙ sym (ap (table_left (book_of x)) e)) (p ∙ sym (ap (whole_left (against x)) e)) (os ∙ sym (ap (places_left (operation_places x)) e)) (cs ∙ sym (ap (places_left (call_places x)) e)) (ls ∙ sym (ap (name_places (against x) label_name) p))

  -- the file is read as the policy, and the book is the one handed in
  pub accepted : read_file (against x) file ≡ Ok (policy_of t) → t.book ≡ x → label_places t ≡ name_places (against x) label_name (policy_of t) → Outcome x file (Ok tt) t
  accepted e h ls =
      let with : Book → Tb = λ y. record { book = book_of y; policy = policy_of t } in
      outcome (Ok tt) (sym (ap answer_of e)) (ap with h ∙ sym (ap (table_left (book_of x)) e)) (sym (ap (whole_left (against x)) e)) (ap operation_places h ∙ sym (ap (places_left (operation_places x)) e)) (ap call_places h ∙ sym (ap (places_left (call_places x)) e)) ls

-- what the reader came to, with the book that is handed in and the places of labels, or with nothing left
pub came : (x : Book) (file : List ℕ) → Bytes file → (t : Table) (r : Result (Unit {0}) Refused) → come r (policy_of t) ≡ read_file (against x) file → OnOk r (t.book ≡ x) → OnOk r (places t ≡ read_places x t) → OnErr r (Emptied t) → Outcome x file (numbered r) t
came x file bs t (Ok u) e h p q = accepted x file bs t (sym e) h (ap (λ (l : List (List ℕ)). get_or l 0 []) p)
came x file bs t (Err y) e h p q = refused x file bs t (number_of y.refusal) y.offset (sym e) q.0 q.1 q.2 q.3
