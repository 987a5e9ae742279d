-- The worked cases: one table, and what it says of each.
use Rattle.std.specs.Prelude.{◌≡◌, ℕ, Bool, true, false, List, [], ◌∷◌, ◌++◌, map, length, take, Some, Ok, Err, codes, Result}
use Rattle.loading.specs.Faults.Trouble.{bad_book, bad_policy}
use Rattle.loading.specs.Faults.{Trouble}
use Rattle.loading.specs.Loading.{loaded}
use Rattle.policy.specs.Meaning.{Tb}
use Rattle.pruning.specs.Marking.{marks_of}
use Rattle.pruning.specs.Reasons.{steps_of}
use Rattle.pruning.specs.declared.marks.StepCount.{StepCount}
use Rattle.run.specs.Calls.{St, Ended, call_of}
use Rattle.run.specs.Runs.{opened, cell_of, cell_answer}
use Rattle.run.specs.declared.answers.Answer.TheVariants.{Done, Denied, Stopped, Refused, Value}
use Rattle.run.specs.declared.answers.Answer.{Answer}
use Rattle.run.specs.declared.answers.Phase.TheVariants.{Before, After}
use Rattle.run.specs.declared.answers.Refusal.TheVariants.{Stopped as RunStopped, NoSuchCall, WrongCount, NoSuchPlot, NoSuchCell}

-- The files.

-- the operations of the example: 0 takes the marks 1 and 2, 1 the mark 1, 2 the register's answer
abbrev pub operations : List ℕ
operations = 128 ∷ (codes "reg.put " ++ (16 ∷ 1 ∷ 16 ∷ 2 ∷ 128 ∷ (codes "reg.look" ++ (16 ∷ 1 ∷ 128 ∷ (codes "overwrit" ++ (16 ∷ 255 ∷ []))))))

-- the call bury, whose fields are those and whose further commands come before its act
abbrev pub bury : List ℕ → List ℕ → List ℕ
bury fields more = 129 ∷ (codes "bury    " ++ (fields ++ (17 ∷ 0 ∷ (more ++ (18 ∷ 2 ∷ 32 ∷ 2 ∷ 1 ∷ [])))))

-- the calls show and ping
abbrev pub others : List ℕ
others = 129 ∷ (codes "show    " ++ (16 ∷ 1 ∷ 17 ∷ 1 ∷ 18 ∷ 1 ∷ 129 ∷ codes "ping    "))

-- the fields of bury: the plot, the entry and a mark of the customer's own
abbrev pub three : List ℕ
three = 16 ∷ 1 ∷ 16 ∷ 2 ∷ 16 ∷ 3 ∷ []

-- the book of bury and show
abbrev pub example : List ℕ
example = operations ++ (bury three [] ++ others)

-- the same with mark 4 put first in bury
abbrev pub four_first : List ℕ
four_first = operations ++ (bury (16 ∷ 4 ∷ three) [] ++ others)

-- its policy: the cells 0 and 1; limit and count on operation 0, looks on 1, rebury on 2
abbrev pub policy : List ℕ
policy =
    64 ∷ 0 ∷ 0 ∷ 0 ∷ 0 ∷ 64 ∷ 0 ∷ 0 ∷ 0 ∷ 0 ∷ 144 ∷ 0 ∷ (codes "limit   " ++ (176 ∷ 3 ∷ 0 ∷ 0 ∷ 0 ∷ 0 ∷ 2 ∷ 2 ∷ 0 ∷ 0 ∷ 0 ∷ 0 ∷ 1 ∷ 144 ∷ 0 ∷ (codes "count   " ++ (97 ∷ 0 ∷ 0 ∷ 0 ∷ 0 ∷ 0 ∷ 1 ∷ 144 ∷ 1 ∷ (codes "looks   " ++ (97 ∷ 1 ∷ 0 ∷ 0 ∷ 0 ∷ 0 ∷ 1 ∷ 144 ∷ 2 ∷ (codes "rebury  " ++ (1 ∷ []))))))))

-- The cases.

-- a script call with its values, or a question about a cell
pub data Ask : Type 0 where
  call : ℕ → List ℕ → Ask
  cell : ℕ → Ask

-- what a case says of two files
pub data Says : Type 0 where
  -- used in order on a run that opens on three plots of 0, the requests have those answers, and the plots end so
  ends : List Ask → List Answer → List ℕ → Says
  -- the files are refused
  refuses : Trouble → Says
  -- those marks of cells and of clauses, and those steps of the calls
  marked : List Bool → List Bool → List StepCount → Says
  -- the policy has so many bytes
  long : ℕ → Says

-- a case: two files, and what it says of them
pub record Case : Type 0 where
  pub book : List ℕ
  pub policy : List ℕ
  pub says : Says

-- what a request comes to
abbrev pub asked : St → Ask → Ended
asked s (call n vs) = call_of s n vs
asked s (cell n) = record { answer = cell_answer (cell_of s n); run = s }

-- the answers to some requests, used in order
abbrev pub answers : St → List Ask → List Answer
answers s [] = []
answers s (a ∷ more) = (asked s a).answer ∷ answers (asked s a).run more

-- the run after them
abbrev pub after : St → List Ask → St
after s [] = s
after s (a ∷ more) = after (asked s a).run more

-- the files give a table, and that holds of it
abbrev pub OfTable : Result Tb Trouble → (Tb → Type 0) → Type 0
OfTable (Ok t) P = P t
OfTable (Err e) P = ⊥

-- three plots of 0
abbrev pub zeros : List ℕ
zeros = 0 ∷ 0 ∷ 0 ∷ []

-- what is said holds of the two files
abbrev pub Holds : List ℕ → List ℕ → Says → Type 0
Holds b p (ends qs rs plots) = OfTable (loaded (Some b) (Some p)) (λ t. (answers (opened t zeros) qs ≡ rs) × ((after (opened t zeros) qs).plots ≡ plots))
Holds b p (refuses e) = loaded (Some b) (Some p) ≡ Err e
Holds b p (marked cells clauses steps) = OfTable (loaded (Some b) (Some p)) (λ t. (take (length cells) (marks_of t.policy).cells ≡ cells) × (take (length clauses) (marks_of t.policy).clauses ≡ clauses) × (map (steps_of t.policy (marks_of t.policy)) t.book.calls ≡ steps))
Holds b p (long n) = length p ≡ n

-- a case holds
abbrev pub CaseHolds : Case → Type 0
CaseHolds c = Holds c.book c.policy c.says

-- the violation of limit, before a burial
abbrev pub limited : Answer
limited = Denied (record { phase = Before; place = 0; operation = 0; clause = 0 })

-- the violation of rebury, after a burial that found an entry
abbrev pub reburied : ℕ → Answer
reburied a = Stopped (record { phase = After; place = 0; operation = 2; clause = 3 }) a

-- a case of the example's own files
abbrev pub of_example : Says → Case
of_example s = record { book = example; policy = policy; says = s }

-- the worked cases
abbrev pub worked : List Case
worked =
    of_example (marked (true ∷ false ∷ []) (true ∷ true ∷ false ∷ true ∷ []) (record { kept = 2; all = 2 } ∷ record { kept = 0; all = 1 } ∷ record { kept = 0; all = 0 } ∷ []))
    ∷ of_example (ends (call 0 (1 ∷ 70 ∷ 5 ∷ []) ∷ call 0 (1 ∷ 71 ∷ 5 ∷ []) ∷ call 1 (0 ∷ []) ∷ []) (Done 0 ∷ reburied 70 ∷ Refused RunStopped ∷ []) (0 ∷ 71 ∷ 0 ∷ []))
    ∷ of_example (ends (call 0 (0 ∷ 70 ∷ 5 ∷ []) ∷ call 0 (1 ∷ 70 ∷ 5 ∷ []) ∷ call 0 (2 ∷ 70 ∷ 5 ∷ []) ∷ cell 0 ∷ []) (Done 0 ∷ Done 0 ∷ limited ∷ Value 2 ∷ []) (70 ∷ 70 ∷ 0 ∷ []))
    ∷ of_example (ends (call 0 (9 ∷ 70 ∷ 5 ∷ []) ∷ cell 0 ∷ []) (Refused NoSuchPlot ∷ Value 0 ∷ []) (0 ∷ 0 ∷ 0 ∷ []))
    ∷ of_example (ends (call 0 (1 ∷ 70 ∷ []) ∷ call 3 [] ∷ cell 2 ∷ []) (Refused WrongCount ∷ Refused NoSuchCall ∷ Refused NoSuchCell ∷ []) (0 ∷ 0 ∷ 0 ∷ []))
    ∷ of_example (long 78)
    ∷ record { book = example; policy = take 77 policy; says = refuses (bad_policy (record { number = 9; offset = 77 })) }
    ∷ record { book = example; policy = take 76 policy; says = refuses (bad_policy (record { number = 2; offset = 67 })) }
    ∷ record { book = operations ++ (bury three (17 ∷ 2 ∷ []) ++ others); policy = policy; says = refuses (bad_book (record { number = 8; offset = 52 })) }
    ∷ record { book = operations ++ (bury (three ++ (16 ∷ 255 ∷ [])) [] ++ others); policy = policy; says = refuses (bad_book (record { number = 5; offset = 50 })) }
    ∷ record { book = four_first; policy = policy; says = ends (call 0 (8 ∷ 1 ∷ 70 ∷ 5 ∷ []) ∷ call 0 (8 ∷ 1 ∷ 71 ∷ 5 ∷ []) ∷ call 1 (0 ∷ []) ∷ []) (Done 0 ∷ reburied 70 ∷ Refused RunStopped ∷ []) (0 ∷ 71 ∷ 0 ∷ []) }
    ∷ []
