use Rattle.book.specs.Books.{Op, marks_at, has}
use Rattle.book.specs.Meaning.{book_of}
use Rattle.policy.proofs.table.Table.lacks_mark.Goals as goal
use Rattle.policy.specs.Policies.{lacked_from}
use Rattle.std.proofs.Common.{◌≡◌, ℕ, ◌+◌, Bool, not, ◌&&◌, ◌||◌, List, [], ◌∷◌, refl, ap, ◌∙◌, rules}
use Rattle.std.proofs.lemmas.Iterator.Consumers.{YieldsList-from_enumerate, YieldsList-at}
use Rattle.std.proofs.lemmas.Iterator.Search.{any_from_yields_List}
use Rattle.std.proofs.lemmas.Iterator.{YieldsList-from_slice}
use Rattle.std.specs.List.{list_any, enumerate_from}
use borrow.Author.Tests.{tests}

-- an operation that is flagged and lacks the mark
abbrev lacking : List Op → ℕ → ℕ × Bool → Bool
lacking ops m p = p.1 && not (has (marks_at ops p.0) m)

any_lacks : (ops : List Op) (m k : ℕ) (fs : List Bool) → list_any (lacking ops m) (enumerate_from k fs) ≡ lacked_from ops m k fs
any_lacks ops m k [] = refl
any_lacks ops m k (f ∷ fs) = ap (λ (b : Bool). (f && not (has (marks_at ops k) m)) || b) (any_lacks ops m (k + 1) fs)

pub returns : goal.returns
returns c =
    let ops = (book_of c.args.self.now.book).operations in
    let fs = c.args.clause.now.covers in
    any_from_yields_List (lacking ops c.args.mark) _ _ c.any.result c.any.ensures.ran (YieldsList-from_enumerate (YieldsList-at c.enumerate.ensures.source (YieldsList-from_slice fs cc)) c.enumerate.ensures.count) (λ x b q k. search (rules, tests)) ∙ any_lacks ops c.args.mark 0 fs
