-- Rows as a slice, and what they mean.
use Rattle.std.proofs.Common.{◌≡◌, ℕ, ◌-◌, List, map, length, is_some, Option, ap, sym, ◌∙◌, arith}
use Rattle.book.proofs.Sets.{filled_last}
use Rattle.book.specs.Books.{filled}
use Rattle.std.proofs.lemmas.Option.{slice_get-map, slice_get_cases}
use Rattle.std.specs.Borrow.{Bor}
use Rattle.std.specs.Option.{option_map, option_copied}
use Rattle.std.specs.Slice.{IsItemAt}
use Rattle.std.specs.List.{slice_get}
use Rattle.tables.proofs.Lasts.{map-last_of, last_of-get}
use Rattle.tables.specs.Lists.{last_of}

-- the last of the meanings is the meaning of the last
pub last_meant : {X Y : Type 0} (g : X → Y) (xs : List X) → last_of (map g xs) ≡ option_map g (slice_get xs (length xs - 1))
last_meant g xs = sym (map-last_of g xs) ∙ ap (option_map g) (sym (last_of-get xs))

-- what `get` gives is the element at its place
pub item_is : {X : Type 0} (xs : List X) (i : ℕ) (r : Option (Bor X)) → IsItemAt xs i r → option_copied r ≡ slice_get xs i
item_is xs i r h = grind (arith, slice_get_cases xs i)

-- there is an element where there is a last one
pub filled_is : {X : Type 0} (xs : List X) → filled xs ≡ is_some (last_of xs)
filled_is xs = sym (filled_last xs)

-- what is read of a slice of rows, as what it means
pub ruleset slices = (last_meant, slice_get-map, item_is, filled_is)
