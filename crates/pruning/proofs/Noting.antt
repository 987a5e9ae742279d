-- The cells that are marked after the cells of some terms were.
use Rattle.std.proofs.Common.{◌≡◌, ℕ, ◌<◌, ◌≤◌, Bool, true, false, cond, ltb, ◌⊎◌, List, [], ◌∷◌, ◌++◌, length, drop, take, set, sym, refl, ap, ◌∙◌, subst, inl, inr, ⊎_elim, arith}
use Rattle.policy.specs.declared.table.Term.TheVariants.{Number, Field, Cell}
use Rattle.policy.specs.declared.table.Term.{Term}
use Rattle.policy.proofs.Among.{among_nil, among_here, among_later, among_cons}
use Rattle.pruning.proofs.Flags.{set-flag, flag_set}
use Rattle.pruning.specs.Marking.{Marked, noted, noted_all}
use Rattle.std.proofs.lemmas.List.{length-set, length-take-le, set-append_left, take-append-drop}
use Rattle.std.proofs.lemmas.Bool.{ltb-true, lt-ltb}
use Rattle.std.specs.List.{ContainsAt as Among}

module _ (n : ℕ) where
  -- d is a cell that stands in one of the terms
  abbrev pub InTerms : List Term → ℕ → Type 0
  InTerms ts d = (d < n) × Among ts (Cell d)

  one_length : (b : Bool) (k : ℕ) (cells : List Bool) → length (cond b (set cells k true) cells) ≡ length cells
  one_length true k cells = length-set cells k true
  one_length false k cells = refl

  pub noted_length : (t : Term) (cells : List Bool) → length (noted n t cells) ≡ length cells
  noted_length (Number v) cells = refl
  noted_length (Field m) cells = refl
  noted_length (Cell k) cells = one_length (ltb k n) k cells

  pub noted_all_length : (ts : List Term) (cells : List Bool) → length (noted_all n ts cells) ≡ length cells
  noted_all_length [] cells = refl
  noted_all_length (t ∷ ts) cells = noted_all_length ts (noted n t cells) ∙ noted_length t cells

  one_front : (t : Term) (xs ys : List Bool) → length xs ≡ n → noted n t (xs ++ ys) ≡ noted n t xs ++ ys
  one_front (Number v) xs ys e = refl
  one_front (Field m) xs ys e = refl
  one_front (Cell k) xs ys e = at (ltb k n) refl
    where
      at : (b : Bool) → ltb k n ≡ b → cond b (set (xs ++ ys) k true) (xs ++ ys) ≡ cond b (set xs k true) xs ++ ys
      at true q = set-append_left xs ys k true (let l = ltb-true k n q in omega arith)
      at false q = refl

  front_noted : (ts : List Term) (xs ys : List Bool) → length xs ≡ n → noted_all n ts (xs ++ ys) ≡ noted_all n ts xs ++ ys
  front_noted [] xs ys e = refl
  front_noted (t ∷ ts) xs ys e = ap (noted_all n ts) (one_front t xs ys e) ∙ front_noted ts (noted n t xs) ys (noted_length t xs ∙ e)

  -- the cells of the policy are the first n flags
  pub noted_front : (ts : List Term) (cells front : List Bool) → n ≤ length cells → front ≡ noted_all (length (take n cells)) ts (take n cells) → front ++ drop n cells ≡ noted_all n ts cells
  noted_front ts cells front l e =
      let k = length-take-le n cells l in
      ap (λ (xs : List Bool). xs ++ drop n cells) (e ∙ ap (λ (m : ℕ). noted_all m ts (take n cells)) k)
      ∙ sym (front_noted ts (take n cells) (drop n cells) k)
      ∙ ap (noted_all n ts) (take-append-drop n cells)

  one_back : (t : Term) (cells : List Bool) (d : ℕ) → Marked (noted n t cells) d → Marked cells d ⊎ ((d < n) × (t ≡ Cell d))
  one_back (Number v) cells d h = inl h
  one_back (Field m) cells d h = inl h
  one_back (Cell k) cells d h = at (ltb k n) refl h
    where
      at : (b : Bool) → ltb k n ≡ b → Marked (cond b (set cells k true) cells) d → Marked cells d ⊎ ((d < n) × (Cell k ≡ Cell d))
      at true e q = ⊎_elim (λ w. inr (let l = ltb-true k n e in omega arith, ap Cell (sym w))) (λ m. inl m) (flag_set cells k d q)
      at false e q = inl q

  one_kept : (t : Term) (cells : List Bool) (d : ℕ) → n ≤ length cells → Marked cells d → Marked (noted n t cells) d
  one_kept (Number v) cells d s h = h
  one_kept (Field m) cells d s h = h
  one_kept (Cell k) cells d s h = at (ltb k n) refl
    where
      at : (b : Bool) → ltb k n ≡ b → Marked (cond b (set cells k true) cells) d
      at true e = set-flag cells k d (let l = ltb-true k n e in omega arith) (inr h)
      at false e = h

  one_new : (t : Term) (cells : List Bool) (d : ℕ) → n ≤ length cells → d < n → t ≡ Cell d → Marked (noted n t cells) d
  one_new t cells d s l e = subst (λ (u : Term). Marked (noted n u cells) d) (sym e) (subst (λ (b : Bool). Marked (cond b (set cells d true) cells) d) (sym (lt-ltb d n l)) (set-flag cells d d (omega arith) (inl refl)))

  -- what is marked was marked or stands in a term
  pub noted_back : (ts : List Term) (cells : List Bool) (d : ℕ) → Marked (noted_all n ts cells) d → Marked cells d ⊎ InTerms ts d
  noted_back [] cells d h = inl h
  noted_back (t ∷ ts) cells d h =
      ⊎_elim (λ m. ⊎_elim (λ q. inl q) (λ w. inr (w.0, subst (Among (t ∷ ts)) w.1 (among_here t ts))) (one_back t cells d m)) (λ w. inr (w.0, among_later t ts (Cell d) w.1)) (noted_back ts (noted n t cells) d h)

  -- what was marked stays so
  pub noted_kept : (ts : List Term) (cells : List Bool) (d : ℕ) → n ≤ length cells → Marked cells d → Marked (noted_all n ts cells) d
  noted_kept [] cells d s h = h
  noted_kept (t ∷ ts) cells d s h = noted_kept ts (noted n t cells) d (let e = noted_length t cells in omega arith) (one_kept t cells d s h)

  -- what stands in a term is marked
  pub noted_new : (ts : List Term) (cells : List Bool) (d : ℕ) → n ≤ length cells → InTerms ts d → Marked (noted_all n ts cells) d
  noted_new [] cells d s h = absurd (among_nil (Cell d) h.1)
  noted_new (t ∷ ts) cells d s h =
      let longer : n ≤ length (noted n t cells) = let e = noted_length t cells in omega arith in
      ⊎_elim (λ e. noted_kept ts (noted n t cells) d longer (one_new t cells d s h.0 e)) (λ a. noted_new ts (noted n t cells) d longer (h.0, a)) (among_cons t ts (Cell d) h.1)
