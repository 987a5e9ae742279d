use Rattle.book.specs.declared.table.Book.{Book}
use Rattle.format.specs.Refusals.{numbered}
use Rattle.format.specs.Bytes.{Bytes}
use Rattle.policy_file.proofs.Outcome.{Outcome, came}
use Rattle.policy_file.proofs.reading.read_policy.Goals as goal
use Rattle.std.proofs.Common.{subst, rules}

pub returns : goal.returns
returns c =
    let bytes : Bytes c.args.file.now = search rules in
    let w = subst (λ (x : Book). Outcome x c.args.file.now (numbered c.read-answer.result) c.read-answer.new.reading.table) c.new.ensures.book (came c.new.result.book c.args.file.now bytes c.read-answer.new.reading.table c.read-answer.result c.read-answer.ensures.is c.read-answer.ensures.against c.read-answer.ensures.places c.read-answer.ensures.refused) in
    record { answer = w.answer; left = w.left; accepts = w.accepts; refuses = w.refuses; apart = w.apart; operations = w.operations; calls = w.calls; labels = w.labels; label_names = w.label_names; flagged = w.flagged }
