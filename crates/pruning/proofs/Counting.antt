-- How many pass, of some elements and of what others give.
use Rattle.std.proofs.Common.{◌≡◌, ◌+◌, Bool, true, false, cond, List, [], ◌∷◌, ◌++◌, map, filter, length, count_by, refl, ap, arith}
use Rattle.std.proofs.lemmas.List.Elements.{filter-append}
use Rattle.std.proofs.lemmas.List.Sums.{length-filter}
use Rattle.std.proofs.lemmas.List.{length-append, length-map}

module _ {X Y : Type 0} (test : X → Bool) (view : Y → X) where
  abbrev seen : Y → Bool
  seen y = test (view y)

  filter_map : (ys : List Y) → filter test (map view ys) ≡ map view (filter seen ys)
  filter_map [] = refl
  filter_map (y ∷ ys) = at (test (view y)) (filter_map ys)
    where
      at : (b : Bool) → filter test (map view ys) ≡ map view (filter seen ys) → cond b (view y ∷ filter test (map view ys)) (filter test (map view ys)) ≡ map view (cond b (y ∷ filter seen ys) (filter seen ys))
      at true e = ap (λ (l : List X). view y ∷ l) e
      at false e = e

  pub count_joined : (xs : List X) (ys : List Y) → length (filter test (xs ++ map view ys)) ≡ count_by test xs + count_by seen ys
  count_joined xs ys =
      let e = ap length (filter-append test xs (map view ys)) in
      let f = ap length (filter_map ys) in
      omega (arith, length-append (filter test xs) (filter test (map view ys)), length-map (filter seen ys) view, length-filter test xs, length-filter seen ys)
