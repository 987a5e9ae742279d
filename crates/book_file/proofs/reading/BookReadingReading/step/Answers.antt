use Rattle.book.specs.Meaning.{book_of}
use Rattle.book_file.proofs.Steps.{step_is}
use Rattle.book_file.proofs.reading.BookReadingReading.step.Goals as goal
use Rattle.std.proofs.Common.{rules}

pub returns-in_err-obey-clause-is : goal.returns-in_err-obey-clause-is
returns-in_err-obey-clause-is c =
    let e = step_is c.args.rest.now (book_of c.args.self.now.book) in
    search rules

pub returns-clause-is : goal.returns-clause-is
returns-clause-is c =
    let e = step_is c.args.rest.now (book_of c.args.self.now.book) in
    search rules
