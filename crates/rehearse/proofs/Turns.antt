-- One request more, and the end of all requests.
use Rattle.std.proofs.Common.{◌≡◌, ℕ, ◌+◌, ◌<◌, ◌≤◌, List, [], ◌∷◌, ◌++◌, length, get_or, drop, sym, ◌∙◌}
use Rattle.rehearse.specs.Rehearsals.{asked_of, answers_of, after_all}
use Rattle.rehearse.specs.declared.asked.Line.{Line}
use Rattle.run.specs.Calls.{St, Ended}
use Rattle.run.specs.declared.answers.Answer.{Answer}
use Rattle.std.proofs.lemmas.List.{drop_more, drop_all, append_assoc, append-nil}

-- request i of a run in state s comes to x
module _ (ls : List Line) (i : ℕ) (d : Line) (s : St) (x : Ended) (h : i < length ls) (e : x ≡ asked_of s (get_or ls i d).asked) where
  pub answers_turn : (xs ys all : List Answer) → ys ≡ xs ++ x.answer ∷ [] → xs ++ answers_of s (drop i ls) ≡ all → ys ++ answers_of x.run (drop (i + 1) ls) ≡ all
  answers_turn xs ys all f inv = rw (f, append_assoc, e) (rw (drop_more ls i d h) at inv)

  pub after_turn : (all : St) → after_all s (drop i ls) ≡ all → after_all x.run (drop (i + 1) ls) ≡ all
  after_turn all inv = rw e (rw (drop_more ls i d h) at inv)

module _ (ls : List Line) (i : ℕ) (s : St) (h : length ls ≤ i) where
  pub answers_end : (xs all : List Answer) → xs ++ answers_of s (drop i ls) ≡ all → xs ≡ all
  answers_end xs all inv = sym (append-nil xs) ∙ rw (drop_all i ls h) at inv

  pub after_end : (all : St) → after_all s (drop i ls) ≡ all → s ≡ all
  after_end all inv = rw (drop_all i ls h) at inv
