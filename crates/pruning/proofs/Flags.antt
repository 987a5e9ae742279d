-- Flags: one more raised, and how many are down.
use Rattle.std.proofs.Common.{◌≡◌, ℕ, zero, suc, ◌<◌, Bool, true, false, cond, ◌⊎◌, List, length, get_or, set, replicate, sum_by, sym, refl, ap, ◌∙◌, inl, inr, ⊎_elim, arith}
use Rattle.pruning.specs.Marking.{Marked}
use Rattle.std.proofs.lemmas.List.Folds.{sum_by-replicate}
use Rattle.std.proofs.lemmas.List.Sums.{sum_by-set}
use Rattle.std.proofs.lemmas.List.{get_or-set_same, get_or-set_other}
use Rattle.std.proofs.lemmas.Bool.{cases_eq}

set_here : (xs : List Bool) (i j : ℕ) → i < length xs → j ≡ i → Marked (set xs i true) j
set_here xs i j l e = ap (λ (n : ℕ). get_or (set xs i true) n false) e ∙ get_or-set_same xs i true false l

pub set-flag : (xs : List Bool) (i j : ℕ) → i < length xs → (j ≡ i) ⊎ Marked xs j → Marked (set xs i true) j
set-flag xs i j l (inl e) = set_here xs i j l e
set-flag xs i j l (inr h) = ⊎_elim (set_here xs i j l) (λ n. get_or-set_other xs i j true false n ∙ h) (cases_eq j i)

pub flag_set : (xs : List Bool) (i j : ℕ) → Marked (set xs i true) j → (j ≡ i) ⊎ Marked xs j
flag_set xs i j h = ⊎_elim (λ e. inl e) (λ n. inr (sym (get_or-set_other xs i j true false n) ∙ h)) (cases_eq j i)

abbrev one_down : Bool → ℕ
one_down b = cond b 0 1

-- how many flags are down
abbrev pub down : List Bool → ℕ
down = sum_by one_down

pub down_set : (xs : List Bool) (i : ℕ) → i < length xs → get_or xs i false ≡ false → down xs ≡ suc (down (set xs i true))
down_set xs i l e = let s = sum_by-set one_down xs i true false l in let f = ap one_down e in omega arith

pub down_none : (n : ℕ) → down (replicate n false) ≡ n
down_none n = sum_by-replicate one_down n false ∙ omega arith

pub none_up : (n i : ℕ) → get_or (replicate n false) i false ≡ false
none_up zero i = refl
none_up (suc n) zero = refl
none_up (suc n) (suc i) = none_up n i
