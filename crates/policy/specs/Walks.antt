-- What a walk over groups has flagged: for each operation, whether a group walked so far covers it.
use Rattle.std.specs.Prelude.{◌≡◌, ℕ, ◌<◌, Bool, true, false, ◌⊎◌, List, Decides, slice_index_or}
use Rattle.policy.specs.Coverage.{Gr, Covers}

-- what a group covers is flagged, for each group that was walked
abbrev pub Complete : List Gr → List Bool → List Bool → Type 0
Complete gs walked covers = (k o : ℕ) → slice_index_or walked k false ≡ true → o < 64 → Covers gs k o → slice_index_or covers o false ≡ true

-- flagged afterwards is what was flagged before and what group k covers, and nothing else
abbrev pub Grown : List Gr → ℕ → List Bool → List Bool → Type 0
Grown gs k before after = (o : ℕ) → o < 64 → Decides (slice_index_or after o false) ((slice_index_or before o false ≡ true) ⊎ Covers gs k o)
