use Rattle.format.specs.Bytes.{Bytes}
use Rattle.std.proofs.Common.{rules}
use Rattle.book_file.proofs.Outcome.{came}
use Rattle.book_file.proofs.reading.read_book.Goals as goal

pub returns : goal.returns
returns c =
    let bytes : Bytes c.args.file.now = search rules in
    let w = came c.args.file.now bytes c.read-answer.new.reading.book c.read-answer.result c.read-answer.ensures.is c.read-answer.ensures.places c.read-answer.ensures.refused in
    record { answer = w.answer; left = w.left; accepts = w.accepts; refuses = w.refuses; apart = w.apart; operations = w.operations; calls = w.calls; operation_names = w.operation_names; call_names = w.call_names }
