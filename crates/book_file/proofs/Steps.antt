-- One step of the reader: it reads a command and then judges it, which is to go through the tests in their order.
use Rattle.std.proofs.Common.{◌≡◌, ℕ, List, drop}
use Rattle.book.specs.Books.{Bk}
use Rattle.book_file.specs.Changes.{obey}
use Rattle.book_file.specs.Commands.{command_at, unknown, command_of}
use Rattle.book_file.specs.Law.{book_format}
use Rattle.book_file.specs.Tests.{command_tests}
use Rattle.format.proofs.Steps.{judged_first, judged_all}
use Rattle.format.specs.Bytes.{size_at, cut_off}
use Rattle.format.specs.Format.{step_of}

pub step_is : (xs : List ℕ) (b : Bk) → judged_first command_at command_tests obey (command_of xs) b ≡ step_of book_format xs b
step_is xs b = judged_all command_at command_tests obey xs (drop (size_at xs) xs) b (unknown b xs) (cut_off b xs)
