-- The lines of a listing: cells, then clauses, then calls, each numbered from 0.
use Rattle.std.specs.Prelude.{ℕ, ◌+◌, Bool, true, false, List, [], ◌∷◌, ◌++◌, codes, decimal, slice_index_or}
use Rattle.book.specs.Books.{Cl, Bk}
use Rattle.listing.specs.declared.lines.Line.TheVariants.{Cell, Clause, Call}
use Rattle.listing.specs.declared.lines.Line.{Line}
use Rattle.policy.specs.Meaning.{Tb}
use Rattle.policy.specs.Policies.{Cs, Po}
use Rattle.pruning.specs.Marking.{marks_of}
use Rattle.pruning.specs.Reasons.{steps_of}
use Rattle.pruning.specs.declared.marks.Marks.{Marks}
use Rattle.tables.specs.Names.{trimmed}
use Rattle.std.proofs.Math.Utf8.{encodes}

-- a line for each element, by its number, counted from k on, and itself
abbrev pub lines_from : {X : Type 0} → (ℕ → X → Line) → ℕ → List X → List Line
lines_from f k [] = []
lines_from f k (x ∷ xs) = f k x ∷ lines_from f (k + 1) xs

-- the line of a cell: whether it is marked
abbrev pub cell_line : Marks → ℕ → ℕ → Line
cell_line m k first = Cell k (slice_index_or m.cells k false)

-- the line of a clause: whether it is marked
abbrev pub clause_line : Marks → ℕ → Cs → Line
clause_line m k c = Clause k (slice_index_or m.clauses k false)

-- the line of a call: its name, how many of its steps are kept, and how many it has
abbrev pub call_line : Po → Marks → ℕ → Cl → Line
call_line p m k c = Call k c.name (steps_of p m c)

-- the lines of a book and a policy with those marks
abbrev pub lines_with : Bk → Po → Marks → List Line
lines_with b p m = lines_from (cell_line m) 0 p.cells ++ (lines_from (clause_line m) 0 p.clauses ++ lines_from (call_line p m) 0 b.calls)

-- the lines of a table
abbrev pub lines_of : Tb → List Line
lines_of t = lines_with t.book t.policy (marks_of t.policy)

-- the word for a mark
abbrev pub word_of : Bool → List ℕ
word_of true = codes "meaningful"
word_of false = codes "idle"

-- each line as it is written
abbrev pub shown_as : Line → List ℕ
shown_as (Cell k b) = codes "cell " ++ (decimal k ++ (codes " " ++ word_of b))
shown_as (Clause k b) = codes "clause " ++ (decimal k ++ (codes " " ++ word_of b))
shown_as (Call k n s) = codes "call " ++ (decimal k ++ (codes " " ++ (encodes (trimmed n.letters) ++ (codes " kept " ++ (decimal s.kept ++ (codes " of " ++ decimal s.all))))))
