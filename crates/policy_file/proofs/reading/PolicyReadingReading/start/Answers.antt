use Rattle.book.specs.Meaning.{book_of}
use Rattle.policy_file.proofs.Law.{holds, short_book}
use Rattle.policy_file.proofs.reading.PolicyReadingReading.start.Goals as goal

pub returns-clause-holds : goal.returns-clause-holds
returns-clause-holds c = holds (book_of c.args.self.now.table.book) (short_book c.args.self.now.table.book)
