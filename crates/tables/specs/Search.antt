-- The first place at which a name stands in a list of names.
use Rattle.std.specs.Prelude.{◌≡◌, ℕ, ◌+◌, ◌<◌, cond, List, [], ◌∷◌, length, Some, None, Option, ◌≢◌, slice_index_or}
use Rattle.std.specs.Str.{bytes_eq}

-- the first place of the name, counted from i on
abbrev pub first_from : ℕ → List (List ℕ) → List ℕ → Option ℕ
first_from i [] name = None
first_from i (x ∷ xs) name = cond (bytes_eq x name) (Some i) (first_from (i + 1) xs name)

-- the first place of the name, counted from 0
abbrev pub first_named : List (List ℕ) → List ℕ → Option ℕ
first_named names name = first_from 0 names name

-- the name stands there and nowhere before, or nowhere at all
abbrev pub FirstPlace : List (List ℕ) → List ℕ → Option ℕ → Type 0
FirstPlace names name None = (k : ℕ) → k < length names → slice_index_or names k [] ≢ name
FirstPlace names name (Some i) = (i < length names) × (slice_index_or names i [] ≡ name) × ((k : ℕ) → k < i → slice_index_or names k [] ≢ name)
