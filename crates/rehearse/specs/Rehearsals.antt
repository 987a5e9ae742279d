-- Requests answered one after the other.
use Rattle.std.specs.Prelude.{List, [], ◌∷◌, vec_items}
use Rattle.rehearse.specs.declared.asked.Asked.TheVariants.{Call, Cell}
use Rattle.rehearse.specs.declared.asked.Asked.{Asked}
use Rattle.rehearse.specs.declared.asked.Line.{Line}
use Rattle.run.specs.Calls.{St, Ended, call_of}
use Rattle.run.specs.Runs.{cell_of, cell_answer}
use Rattle.run.specs.declared.answers.Answer.{Answer}

-- what a request comes to: a question changes nothing
abbrev pub asked_of : St → Asked → Ended
asked_of s (Call n vs) = call_of s n (vec_items vs)
asked_of s (Cell n) = record { answer = cell_answer (cell_of s n); run = s }

-- the answers to all requests
abbrev pub answers_of : St → List Line → List Answer
answers_of s [] = []
answers_of s (l ∷ ls) = (asked_of s l.asked).answer ∷ answers_of (asked_of s l.asked).run ls

-- the run after all requests
abbrev pub after_all : St → List Line → St
after_all s [] = s
after_all s (l ∷ ls) = after_all (asked_of s l.asked).run ls
