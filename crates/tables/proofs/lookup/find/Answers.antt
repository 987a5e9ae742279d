use Rattle.std.proofs.Common.{map, sym, ◌∙◌, subst, rules}
use Rattle.std.proofs.lemmas.Iterator.{YieldsList-from_slice}
use Rattle.std.proofs.lemmas.Iterator.Search.{position_from_yields_List}
use Rattle.std.specs.Str.{bytes_eq}
use Rattle.tables.proofs.Finding.{first_named-position, place_named}
use Rattle.tables.proofs.lookup.find.Goals as goal
use Rattle.tables.specs.Search.{FirstPlace}
use borrow.Author.Tests.{tests}

pub returns : goal.returns
returns g c =
    let f = g.T.Named.name in
    let rs = c.args.records.now in
    let n = c.args.name.now.letters in
    let found = position_from_yields_List (λ x. bytes_eq (f x) n) _ _ c.position.result c.position.ensures.ran (YieldsList-from_slice rs cc) (λ x b q k. search (rules, tests)) ∙ sym (first_named-position f n rs) in
    let place = subst (FirstPlace (map f rs) n) (sym found) (place_named (map f rs) n) in
    search rules
