-- The format of book files shows what a format has to.
use Rattle.std.proofs.Common.{◌≡◌, ℕ, ◌<◌, List, ◌++◌, length, drop, Ok, Result, sym, refl, ap, ◌∙◌, subst, arith}
use Rattle.book.specs.Books.{Bk}
use Rattle.book_file.proofs.Bytes.{reads, back}
use Rattle.book_file.proofs.Ends.{Clear, fits, clear}
use Rattle.book_file.proofs.Keeps.{keeps}
use Rattle.book_file.proofs.Runs.{Good, complete}
use Rattle.book_file.proofs.Size.{bounded}
use Rattle.book_file.specs.Changes.{obey}
use Rattle.book_file.specs.Commands.{command_at}
use Rattle.book_file.specs.Law.{bytes_of, book_format}
use Rattle.book_file.specs.Tests.{tests}
use Rattle.book_file.specs.declared.commands.Command.TheVariants.{Operation, Field, Call, Before, Act, After}
use Rattle.book_file.specs.declared.commands.Command.{Command}
use Rattle.format.proofs.Bytes.{enough}
use Rattle.format.proofs.Runs.{runs}
use Rattle.format.proofs.Tests.{passes}
use Rattle.format.specs.Bytes.{size_at}
use Rattle.format.specs.Format.{step_of, Holds}

abbrev okay : Bk → List ℕ → Result (Bk × List ℕ) ℕ
okay b rest = Ok (b, rest)

step_ran : (b : Bk) (c : Command) (rest : List ℕ) → Good b c → step_of book_format (bytes_of c ++ rest) b ≡ okay (obey b c) rest
step_ran b c rest h =
    let xs = bytes_of c ++ rest in
    let r = reads b c rest h.0 in
    let z : Bk × List ℕ = (obey b (command_at xs), drop (size_at xs) xs) in
    passes b xs z 1 tests (r.known, (r.whole, subst (Clear b) (sym r.same) (clear h.1)))
    ∙ ap (λ (d : Command). okay (obey b d) (drop (size_at xs) xs)) r.same ∙ ap (okay (obey b c)) r.left

bytes_some : (c : Command) → 0 < length (bytes_of c)
bytes_some (Operation n) = omega arith
bytes_some (Field m) = omega arith
bytes_some (Call n) = omega arith
bytes_some (Before k) = omega arith
bytes_some (Act a) = omega arith
bytes_some (After k q) = omega arith

pub holds : Holds book_format
holds = record {
  size = λ xs. omega arith;
  some = bytes_some;
  enough = λ b xs h. enough b xs h.1.0;
  back = λ b xs bs h. (back b xs h.0 h.1.0).1;
  keeps = λ b xs h. keeps b (command_at xs) (back b xs h.0 h.1.0).0 (fits h.1.1);
  start = record { few_operations = omega arith; few_calls = omega arith; operations_apart = tt; calls_apart = tt; each_operation = tt; each_call = tt };
  nothing = refl;
  complete = λ b h. runs book_format Good step_ran _ _ _ (complete b h);
  bounded = λ b h. let k = bounded b h in omega arith;
  ended = λ b h u. h;
  closed = λ b h. (h, refl);
}
