-- The clauses of a table as they lie in memory, and as they are counted.
use Rattle.std.proofs.Common.{◌≡◌, ℕ, ◌<◌, List, map, length, get_or, Some, sym, refl, ap, ◌∙◌, subst, arith}
use Rattle.policy.specs.Meaning.{cs_of}
use Rattle.policy.specs.Policies.{Cs}
use Rattle.policy.specs.declared.table.Clause.{Clause}
use Rattle.std.proofs.lemmas.List.{length-map, get_or-map}
use Rattle.std.proofs.lemmas.Option.{slice_get_read}
use Rattle.std.specs.List.{slice_get}

module _ (xs : List Clause) (cs : List Cs) (same : map cs_of xs ≡ cs) where
  pub items_long : length cs ≡ length xs
  items_long = ap length (sym same) ∙ length-map xs cs_of

  module _ (i : ℕ) (x : Clause) (inside : i < length xs) (is : x ≡ get_or xs i x) where
    pub item_within : i < length cs
    item_within = let e = items_long in omega arith

    pub item_is : cs_of x ≡ get_or cs i (cs_of x)
    item_is = subst (λ (l : List Cs). cs_of x ≡ get_or l i (cs_of x)) same (ap cs_of is ∙ sym (get_or-map cs_of xs i x (cs_of x) inside))

    pub item_at : slice_get cs i ≡ Some (cs_of x)
    item_at = slice_get_read cs (length cs) i (cs_of x) refl item_within item_is
