use Rattle.book.specs.Meaning.{book_of}
use Rattle.policy.specs.Meaning.{policy_of}
use Rattle.policy_file.proofs.Steps.{step_is}
use Rattle.policy_file.proofs.reading.PolicyReadingReading.step.Goals as goal
use Rattle.std.proofs.Common.{rules}

pub returns-in_err-obey-clause-is : goal.returns-in_err-obey-clause-is
returns-in_err-obey-clause-is c =
    let t = c.args.self.now.table in
    let e = step_is (book_of t.book) c.args.rest.now (policy_of t) in
    search rules

pub returns-clause-is : goal.returns-clause-is
returns-clause-is c =
    let t = c.args.self.now.table in
    let e = step_is (book_of t.book) c.args.rest.now (policy_of t) in
    search rules
