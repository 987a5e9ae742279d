use Rattle.std.proofs.Common.{◌≡◌, ℕ, List, [], ◌∷◌, ◌++◌, ◌||◌, ◌&&◌, refl, ap₂, sym, ◌∙◌, rules}
use Rattle.book.proofs.Sets.{has_append}
use Rattle.book.proofs.marks.has_all.Goals as goal
use Rattle.book.specs.Books.{has, has_all}
use Rattle.std.proofs.lemmas.Iterator.{YieldsList-from_slice}
use Rattle.std.proofs.lemmas.Iterator.Search.{all_from_yields_List}
use Rattle.std.specs.List.{list_all}
use borrow.Author.Tests.{tests}

-- each is one of two lists' marks when it is one of either's
all_are : (xs ys ms : List ℕ) → list_all (λ m. has xs m || has ys m) ms ≡ has_all (xs ++ ys) ms
all_are xs ys [] = refl
all_are xs ys (m ∷ ms) = ap₂ ◌&&◌ (sym (has_append xs ys m)) (all_are xs ys ms)

pub returns : goal.returns
returns c =
    let xs = c.args.given.now in
    let ys = c.args.fields.now in
    let ms = c.args.needed.now in
    all_from_yields_List (λ m. has xs m || has ys m) _ _ c.all.result c.all.ensures.ran (YieldsList-from_slice ms cc) (λ x b q k. search (rules, tests)) ∙ all_are xs ys ms
