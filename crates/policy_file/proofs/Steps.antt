-- One step of the reader: it reads a command and then judges it, which is to go through the tests in their order.
use Rattle.std.proofs.Common.{◌≡◌, ℕ, List, drop}
use Rattle.book.specs.Books.{Bk}
use Rattle.format.proofs.Steps.{judged_first, judged_all}
use Rattle.format.specs.Bytes.{size_at, cut_off}
use Rattle.format.specs.Format.{step_of}
use Rattle.policy.specs.Policies.{Po}
use Rattle.policy_file.specs.Changes.{obey}
use Rattle.policy_file.specs.Commands.{command_at, unknown, command_of}
use Rattle.policy_file.specs.Law.{policy_format}
use Rattle.policy_file.specs.Tests.{command_tests}

pub step_is : (b : Bk) (xs : List ℕ) (p : Po) → judged_first command_at (command_tests b) obey (command_of xs) p ≡ step_of (policy_format b) xs p
step_is b xs p = judged_all command_at (command_tests b) obey xs (drop (size_at xs) xs) p (unknown p xs) (cut_off p xs)
