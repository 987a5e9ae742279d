-- The format of policy files shows what a format has to, for every book of at most 64 operations.
use Rattle.std.proofs.Common.{◌≡◌, ℕ, ◌<◌, ◌≤◌, List, ◌++◌, length, drop, Ok, Result, sym, refl, ap, ◌∙◌, subst, arith}
use Rattle.book.specs.Books.{Bk}
use Rattle.book.specs.Meaning.{book_of, op_of}
use Rattle.book.specs.declared.table.Book.{Book}
use Rattle.format.proofs.Bytes.{enough}
use Rattle.format.proofs.Runs.{runs}
use Rattle.format.proofs.Tests.{passes}
use Rattle.format.specs.Bytes.{size_at}
use Rattle.format.specs.Format.{step_of, Holds}
use Rattle.policy.specs.Policies.{Po}
use Rattle.policy_file.proofs.Bytes.{sized, reads, back}
use Rattle.policy_file.proofs.Ends.{Clear, fits, clear}
use Rattle.policy_file.proofs.Keeps.{keeps}
use Rattle.policy_file.proofs.Parts.{all_acted, none_pending}
use Rattle.policy_file.proofs.Runs.{Good, complete}
use Rattle.policy_file.proofs.Size.{bounded}
use Rattle.policy_file.specs.Changes.{obey}
use Rattle.policy_file.specs.Commands.{command_at}
use Rattle.policy_file.specs.Law.{bytes_of, policy_format}
use Rattle.policy_file.specs.Tests.{tests}
use Rattle.policy_file.specs.declared.commands.Command.TheVariants.{Cell, Group, Has, Nest, On, OnGroup, When, Violate, Write}
use Rattle.policy_file.specs.declared.commands.Command.{Command}
use Rattle.std.proofs.lemmas.List.{length-map}
use Rattle.tables.proofs.Long.{rows_long}
use Rattle.tables.specs.Rows.{rows_of}

abbrev okay : Po → List ℕ → Result (Po × List ℕ) ℕ
okay p rest = Ok (p, rest)

step_ran : (b : Bk) (p : Po) (c : Command) (rest : List ℕ) → Good b p c → step_of (policy_format b) (bytes_of c ++ rest) p ≡ okay (obey p c) rest
step_ran b p c rest h =
    let xs = bytes_of c ++ rest in
    let r = reads p c rest h.0 in
    let z : Po × List ℕ = (obey p (command_at xs), drop (size_at xs) xs) in
    passes p xs z 1 (tests b) (r.known, (r.whole, subst (Clear b p) (sym r.same) (clear h.1)))
    ∙ ap (λ (d : Command). okay (obey p d) (drop (size_at xs) xs)) r.same ∙ ap (okay (obey p c)) r.left

bytes_some : (c : Command) → 0 < length (bytes_of c)
bytes_some (Cell v) = omega arith
bytes_some Group = omega arith
bytes_some (Has o) = omega arith
bytes_some (Nest k) = omega arith
bytes_some (On o n) = omega arith
bytes_some (OnGroup k n) = omega arith
bytes_some (When q l r) = omega arith
bytes_some Violate = omega arith
bytes_some (Write w k t) = omega arith

pub holds : (b : Bk) → length b.operations ≤ 64 → Holds (policy_format b)
holds b short = record {
  size = λ xs. omega arith;
  some = bytes_some;
  enough = λ p xs h. enough p xs h.1.0;
  back = λ p xs bs h. back xs bs p h.0 h.1.0;
  keeps = λ p xs h. keeps b short p (command_at xs) (sized xs) (fits h.1.1);
  start = record { few_cells = omega arith; few_groups = omega arith; few_clauses = omega arith; each_group = tt; labels_apart = tt; each_clause = tt; acted_before = tt };
  nothing = refl;
  complete = λ p h. runs (policy_format b) (Good b) (step_ran b) _ _ _ (complete b p h);
  bounded = λ p h. let k = bounded b p h in omega arith;
  ended = λ p h u. record { so_far = h; acted = all_acted p.clauses h.acted_before u };
  closed = λ p h. (h.so_far, none_pending p.clauses h.acted);
}

-- a book in memory has at most 64 operations
pub short_book : (x : Book) → length (book_of x).operations ≤ 64
short_book x =
    let ok = x.operations.ok in
    omega (arith, length-map (rows_of x.operations) op_of, rows_long x.operations, ok.0)
