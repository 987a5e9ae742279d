-- How many bytes commands take.
use Rattle.std.proofs.Common.{◌≡◌, ℕ, ◌+◌, ◌*◌, ◌≤◌, List, [], ◌∷◌, ◌++◌, map, length, ap, ◌∙◌, mul-suc, arith}
use Rattle.format.proofs.Places.{joined_append}
use Rattle.std.proofs.lemmas.List.{length-append}
use Rattle.std.specs.List.{flat_map, AllByRecursion}

module _ {C : Type 0} (bytes_of : C → List ℕ) where
  abbrev pub size : List C → ℕ
  size cs = length (flat_map bytes_of cs)

  pub size_append : (cs ds : List C) → size (cs ++ ds) ≡ size cs + size ds
  size_append cs ds = ap length (joined_append bytes_of cs ds) ∙ length-append (flat_map bytes_of cs) (flat_map bytes_of ds)

  -- where each x takes at most k bytes
  pub size_joined : {X : Type 0} (g : X → List C) (k : ℕ) (xs : List X) → AllByRecursion (λ x. size (g x) ≤ k) xs → size (flat_map g xs) ≤ k * length xs
  size_joined g k [] h = omega arith
  size_joined g k (x ∷ xs) h = omega (arith, size_append (g x) (flat_map g xs), size_joined g k xs h.1, h.0, mul-suc k (length xs))

  -- where each x is one command of k bytes
  pub size_map : {X : Type 0} (f : X → C) (k : ℕ) → ((x : X) → length (bytes_of (f x)) ≡ k) → (xs : List X) → size (map f xs) ≡ k * length xs
  size_map f k e [] = omega arith
  size_map f k e (x ∷ xs) = omega (arith, length-append (bytes_of (f x)) (flat_map bytes_of (map f xs)), e x, size_map f k e xs, mul-suc k (length xs))
