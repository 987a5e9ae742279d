use Rattle.book_file.proofs.Law.{holds}
use Rattle.book_file.proofs.reading.BookReadingReading.start.Goals as goal

pub returns-then-not-blank-clause-holds : goal.returns-then-not-blank-clause-holds
returns-then-not-blank-clause-holds c = holds

pub returns-else-not-blank-clause-holds : goal.returns-else-not-blank-clause-holds
returns-else-not-blank-clause-holds c = holds
