-- What stands in a list of one more element, in two lists joined, and in many.
use Rattle.std.proofs.Common.{◌≡◌, ℕ, zero, suc, ◌<◌, ◌⊎◌, List, [], ◌∷◌, ◌++◌, length, get_or, sym, refl, subst, inl, inr, ⊎_elim, le_of_suc-le-suc, not-suc-le-zero, arith}
use Rattle.std.proofs.ByRecursion.{has_append_left, has_append_right}
use Rattle.std.specs.List.{flat_map, ContainsAt as Among}

module _ {X : Type 0} where
  pub among_nil : (x : X) → Among [] x → ⊥
  among_nil x h = not-suc-le-zero h.1

  pub among_here : (x : X) (xs : List X) → Among (x ∷ xs) x
  among_here x xs = (0, omega arith, λ d. refl)

  pub among_later : (y : X) (ys : List X) (x : X) → Among ys x → Among (y ∷ ys) x
  among_later y ys x h = let l = h.1 in (suc h.0, omega arith, h.2)

  pub among_cons : (y : X) (ys : List X) (x : X) → Among (y ∷ ys) x → (y ≡ x) ⊎ Among ys x
  among_cons y ys x h = at h.0 h.1 h.2
    where
      at : (k : ℕ) → k < suc (length ys) → ((d : X) → get_or (y ∷ ys) k d ≡ x) → (y ≡ x) ⊎ Among ys x
      at zero l e = inl (e x)
      at (suc k) l e = inr (k, le_of_suc-le-suc l, e)

  pub among_append : (xs ys : List X) (x : X) → Among (xs ++ ys) x → Among xs x ⊎ Among ys x
  among_append [] ys x h = inr h
  among_append (z ∷ zs) ys x h = ⊎_elim (λ e. inl (subst (Among (z ∷ zs)) e (among_here z zs))) (λ t. ⊎_elim (λ a. inl (among_later z zs x a)) (λ b. inr b) (among_append zs ys x t)) (among_cons z (zs ++ ys) x h)

pub among_joined : {X Y : Type 0} (f : Y → List X) (ys : List Y) (y : Y) (x : X) → Among ys y → Among (f y) x → Among (flat_map f ys) x
among_joined f [] y x h t = absurd (among_nil y h)
among_joined f (z ∷ zs) y x h t = ⊎_elim (λ e. has_append_left (f z) (flat_map f zs) x (subst (λ w. Among (f w) x) (sym e) t)) (λ l. has_append_right (f z) (flat_map f zs) x (among_joined f zs y x l t)) (among_cons z zs y h)
