use Rattle.book.specs.Meaning.{cl_of, book_of}
use Rattle.book.specs.declared.table.Book.{Book}
use Rattle.listing.proofs.Listed.{numbered}
use Rattle.listing.proofs.lines.lines.Goals as goal
use Rattle.listing.specs.Lines.{cell_line, clause_line, call_line, lines_from}
use Rattle.listing.specs.declared.lines.Line.{Line}
use Rattle.policy.specs.Meaning.{cs_of, policy_of}
use Rattle.std.proofs.Common.{◌≡◌, ℕ, List, IfOk, ap, ◌∙◌, subst, rules, tests}
use Rattle.std.proofs.lemmas.Iterator.Consumers.{YieldsList-from_chain, YieldsList-at}
use Rattle.std.proofs.lemmas.Iterator.{items_from_collect}
use Rattle.std.proofs.lemmas.List.{append_assoc, map-id}

pub returns : goal.returns
returns c =
    let t = c.args.marking.now.table.now in
    let m = c.args.marking.now.marks.now in
    let p = policy_of t in
    let cells = map-id c.cells.result.now ∙ c.cells.ensures in
    let calls = c.calls.ensures.is ∙ ap (λ (b : Book). (book_of b).calls) c.book.ensures in
    subst (λ (l : List Line). IfOk c.collect.result (λ v. v.items ≡ l)) (append_assoc (lines_from (cell_line m) 0 p.cells) (lines_from (clause_line m) 0 p.clauses) (lines_from (call_line p m) 0 (book_of t.book).calls)) (
    items_from_collect c.collect.result c.collect.ensures.ran (
    YieldsList-from_chain (
    YieldsList-at c.chain-2.ensures.first (
    YieldsList-from_chain (
    YieldsList-at c.chain.ensures.first (numbered (λ (v : ℕ). v) (cell_line m) c.cells.result.now p.cells cells (cc) (cc) c.map.ensures.closure (λ x r q k. search (rules, tests)))) (
    YieldsList-at c.chain.ensures.second (numbered cs_of (clause_line m) c.clauses.result.now p.clauses c.clauses.ensures.is (cc) (cc) c.map-2.ensures.closure (λ x r q k. search (rules, tests)))) c.chain.ensures.first_done c.chain.ensures.second_done)) (
    YieldsList-at c.chain-2.ensures.second (numbered cl_of (call_line p m) c.calls.result.now (book_of t.book).calls calls (cc) (cc) c.map-3.ensures.closure (λ x r q k. search (rules, tests)))) c.chain-2.ensures.first_done c.chain-2.ensures.second_done)
    )
