-- The value under a mark, as the first of the pairs of field and value that has the mark.
use Rattle.std.proofs.Common.{◌≡◌, ℕ, Bool, true, false, cond, eqb, List, [], ◌∷◌, Bor, MatchOption, Option, Some, None, unwrap_or, refl}
use Rattle.run.specs.Steps.{value_under}
use Rattle.std.specs.List.{find, zip}
use Rattle.std.specs.Option.{option_map}

-- the value of a pair, or 0 where there is none
abbrev pub value_in : Option (ℕ × ℕ) → ℕ
value_in o = unwrap_or (option_map (λ (p : ℕ × ℕ). p.1) o) 0

-- the value is that of the first pair
pub value_found : (fs vs : List ℕ) (m : ℕ) → value_in (find (λ (p : ℕ × ℕ). eqb p.0 m) (zip fs vs)) ≡ value_under fs vs m
value_found [] vs m = refl
value_found (f ∷ fs) [] m = refl
value_found (f ∷ fs) (v ∷ vs) m = at (eqb f m) (value_found fs vs m)
  where
    at : (b : Bool) → value_in (find (λ (p : ℕ × ℕ). eqb p.0 m) (zip fs vs)) ≡ value_under fs vs m → value_in (cond b (Some (f, v)) (find (λ (p : ℕ × ℕ). eqb p.0 m) (zip fs vs))) ≡ cond b v (value_under fs vs m)
    at true e = refl
    at false e = e

-- the value that is read of a pair of references
pub value_read : (o : Option (Bor ℕ × Bor ℕ)) (v : ℕ) → MatchOption o (v ≡ 0) (λ p. v ≡ p.1.now) → v ≡ value_in (option_map (λ (p : Bor ℕ × Bor ℕ). (p.0.now, p.1.now)) o)
value_read None v e = e
value_read (Some p) v e = e
