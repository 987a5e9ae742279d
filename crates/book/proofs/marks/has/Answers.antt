use Rattle.book.proofs.Sets.{any_is}
use Rattle.book.proofs.marks.has.Goals as goal
use Rattle.std.proofs.Common.{◌∙◌, rules}
use Rattle.std.proofs.lemmas.Iterator.{YieldsList-from_slice}
use Rattle.std.proofs.lemmas.Iterator.Search.{any_from_yields_List}
use Rattle.std.specs.Prelude.{◌==◌}
use borrow.Author.Tests.{tests}

pub returns : goal.returns
returns c =
    let ms = c.args.marks.now in
    let m = c.args.mark in
    any_from_yields_List (λ n. n == m) _ _ c.any.result c.any.ensures.ran (YieldsList-from_slice ms cc) (λ x b q k. search (rules, tests)) ∙ any_is ms m
