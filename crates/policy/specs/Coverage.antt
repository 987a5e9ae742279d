-- What a group covers, and to which operations a clause applies.
use Rattle.std.specs.Prelude.{◌≡◌, ℕ, ◌<◌, Bool, true, false, List, [], ◌∷◌, ◌++◌, replicate, slice_index_or, slice_set}
use Rattle.book.specs.Books.{or_else}
use Rattle.policy.specs.declared.table.Member.TheVariants.{Has, Nest}
use Rattle.policy.specs.declared.table.Member.{Member}
use Rattle.policy.specs.declared.table.Target.TheVariants.{Operation, Group}
use Rattle.policy.specs.declared.table.Target.{Target}
use Rattle.std.specs.List.{flat_map, ContainsAt as Among, slice_get}

-- a group: its members
pub record Gr : Type 0 where
  pub members : List Member

-- In the subject's words.

-- a group's members
abbrev pub members_of : Gr → List Member
members_of g = g.members

-- the members of group k: none where there is no such group
abbrev pub members_at : List Gr → ℕ → List Member
members_at gs k = or_else [] members_of (slice_get gs k)

-- group k covers operation o: it has it, or it nests a group of a lower number that covers it
pub data Covers (gs : List Gr) : ℕ → ℕ → Type 0 where
  by_has : {k o : ℕ} → Among (members_at gs k) (Has o) → Covers gs k o
  by_nest : {k o : ℕ} (h : ℕ) → Among (members_at gs k) (Nest h) → h < k → Covers gs h o → Covers gs k o

-- a clause with that target applies to operation o
abbrev pub Applies : List Gr → Target → ℕ → Type 0
Applies gs (Operation k) o = o ≡ k
Applies gs (Group k) o = Covers gs k o

-- As it is computed.

-- what a member brings to its group, from what the groups before that cover
abbrev pub brought : List (List ℕ) → Member → List ℕ
brought before (Has o) = o ∷ []
brought before (Nest h) = slice_index_or before h []

-- what each group covers, from the left; before is what those to its left cover
abbrev pub coverages_from : List (List ℕ) → List Gr → List (List ℕ)
coverages_from before [] = before
coverages_from before (g ∷ gs) = coverages_from (before ++ flat_map (brought before) g.members ∷ []) gs

-- what each group covers
abbrev pub coverages : List Gr → List (List ℕ)
coverages gs = coverages_from [] gs

-- what group k covers
abbrev pub covered : List Gr → ℕ → List ℕ
covered gs k = slice_index_or (coverages gs) k []

-- the operations to which a clause with that target applies
abbrev pub applies_to : List Gr → Target → List ℕ
applies_to gs (Operation k) = k ∷ []
applies_to gs (Group k) = covered gs k

-- a flag for each number below n, raised for those of the list
abbrev pub flagged : ℕ → List ℕ → List Bool
flagged n [] = replicate n false
flagged n (o ∷ os) = slice_set (flagged n os) o true

-- a flag for each operation, of which a book has at most 64
abbrev pub flags : List ℕ → List Bool
flags os = flagged 64 os
