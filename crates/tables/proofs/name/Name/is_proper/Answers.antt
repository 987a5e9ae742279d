use Rattle.std.proofs.Common.{◌≡◌, ℕ, List, [], ◌∷◌, refl, ◌∙◌, rules}
use Rattle.std.proofs.lemmas.Iterator.{YieldsList-from_slice}
use Rattle.std.proofs.lemmas.Iterator.Search.{all_from_yields_List}
use Rattle.std.specs.List.{list_all}
use Rattle.tables.proofs.name.Name.is_proper.Goals as goal
use Rattle.tables.specs.Names.{prints, proper}
use borrow.Author.Tests.{tests}

-- all letters print exactly when each of them does
all_proper : (xs : List ℕ) → list_all prints xs ≡ proper xs
all_proper [] = refl
all_proper (x ∷ xs) = search (rules, all_proper xs)

pub returns : goal.returns
returns c = all_from_yields_List prints _ _ c.all.result c.all.ensures.ran (YieldsList-from_slice c.args.self.now.letters cc) (λ x b q k. search (rules, tests)) ∙ all_proper c.args.self.now.letters
