-- The numbers of a run's refusals, and its answers as they are written.
use Rattle.std.specs.Prelude.{ℕ, List, ◌++◌, codes, decimal}
use Rattle.run.specs.declared.answers.Answer.TheVariants.{Done, Denied, Stopped as StoppedBy, Refused, Value, NotKept}
use Rattle.run.specs.declared.answers.Answer.{Answer}
use Rattle.run.specs.declared.answers.Phase.TheVariants.{Before, After}
use Rattle.run.specs.declared.answers.Phase.{Phase}
use Rattle.run.specs.declared.answers.Refusal.TheVariants.{Stopped, NoSuchCall, WrongCount, NoSuchPlot, NoSuchCell}
use Rattle.run.specs.declared.answers.Refusal.{Refusal}
use Rattle.run.specs.declared.answers.Violation.{Violation}

-- each refusal's number: the run is stopped, no such call, the count of values is not the count of fields, no such plot, no such cell
abbrev pub number_of : Refusal → ℕ
number_of Stopped = 20
number_of NoSuchCall = 21
number_of WrongCount = 22
number_of NoSuchPlot = 23
number_of NoSuchCell = 24

-- the word for a phase
abbrev pub word_of : Phase → List ℕ
word_of Before = codes "before"
word_of After = codes "after"

-- where a violation came, as it is written
abbrev pub place_shown : Violation → List ℕ
place_shown v = word_of v.phase ++ (codes " " ++ (decimal v.place ++ (codes " operation " ++ (decimal v.operation ++ (codes " clause " ++ decimal v.clause)))))

-- each answer as it is written
abbrev pub shown_as : Answer → List ℕ
shown_as (Done a) = codes "done " ++ decimal a
shown_as (Denied v) = codes "denied " ++ place_shown v
shown_as (StoppedBy v a) = codes "stopped " ++ (decimal a ++ (codes " " ++ place_shown v))
shown_as (Refused e) = codes "refused " ++ decimal (number_of e)
shown_as (Value v) = codes "value " ++ decimal v
shown_as NotKept = codes "not kept"
