-- The first test that speaks against something.
use Rattle.std.proofs.Common.{◌≡◌, ℕ, zero, suc, ◌+◌, ◌<◌, Bool, true, false, cond, ◌⊎◌, List, [], ◌∷◌, get_or, Ok, Err, Result, sym, refl, ap, ◌∙◌, inl, inr, le_of_suc-le-suc, not-suc-le-zero, add-zero, add-suc, suc-add, zero-add, arith}
use Rattle.format.specs.Format.{unless, never, Stops}
use Rattle.std.specs.List.{AllByRecursion}

ok_err : {Z : Type 0} (w : Z) (n : ℕ) → ◌≡◌ {A = Result Z ℕ} (Ok w) (Err n) → ⊥
ok_err w n e = let z : ◌≡◌ {A = ℕ} 0 1 = cc in omega arith

ok_cond : {Z : Type 0} (n : ℕ) (p : Bool) (w : Z) (r : Result Z ℕ) → Ok w ≡ cond p (Err n) r → (p ≡ false) × (Ok w ≡ r)
ok_cond n true w r e = absurd (ok_err w n e)
ok_cond n false w r e = (refl, e)

err_cond : {Z : Type 0} (n m : ℕ) (p : Bool) (r : Result Z ℕ) → Err m ≡ cond p (Err n) r → ((p ≡ true) × (m ≡ n)) ⊎ ((p ≡ false) × (Err m ≡ r))
err_cond n m true r e = inl (refl, cc)
err_cond n m false r e = inr (refl, e)

below_suc : (P : ℕ → Type 0) (k : ℕ) → P 0 → ((j : ℕ) → j < k → P (suc j)) → (j : ℕ) → j < suc k → P j
below_suc P k z s zero h = z
below_suc P k z s (suc j) h = s j (le_of_suc-le-suc h)

module _ {X Y Z : Type 0} (x : X) (y : Y) (z : Z) where
  -- where there is an answer, each test was passed
  pub passed : (n : ℕ) (ts : List (X → Y → Bool)) (w : Z) → Ok w ≡ unless n ts x y z → (w ≡ z) × AllByRecursion (λ (t : X → Y → Bool). t x y ≡ false) ts
  passed n [] w e = (cc, tt)
  passed n (t ∷ ts) w e =
      let h = ok_cond n (t x y) w (unless (suc n) ts x y z) e in
      let i = passed (suc n) ts w h.1 in
      (i.0, (h.0, i.1))

  -- where each test is passed, there is an answer
  pub passes : (n : ℕ) (ts : List (X → Y → Bool)) → AllByRecursion (λ (t : X → Y → Bool). t x y ≡ false) ts → unless n ts x y z ≡ Ok z
  passes n [] h = refl
  passes n (t ∷ ts) h = rw h.0 (passes (suc n) ts h.1)

  -- the test at place k is the first that speaks
  abbrev First : List (X → Y → Bool) → ℕ → Type 0
  First ts k = (get_or ts k never x y ≡ true) × ((j : ℕ) → j < k → get_or ts j never x y ≡ false)

  failed_from : (n : ℕ) (ts : List (X → Y → Bool)) (m : ℕ) → Err m ≡ unless n ts x y z → (k : ℕ) × (m ≡ n + k) × First ts k
  failed_from n [] m e = absurd (ok_err z m (sym e))
  failed_from n (t ∷ ts) m e = split (err_cond n m (t x y) (unless (suc n) ts x y z) e) (failed_from (suc n) ts m)
    where
      split : ((t x y ≡ true) × (m ≡ n)) ⊎ ((t x y ≡ false) × (Err m ≡ unless (suc n) ts x y z)) → (Err m ≡ unless (suc n) ts x y z → (k : ℕ) × (m ≡ suc n + k) × First ts k) → (k : ℕ) × (m ≡ n + k) × First (t ∷ ts) k
      split (inl h) f = (0, omega (arith, h.1), (h.0, λ j l. absurd (not-suc-le-zero l)))
      split (inr h) f =
          let r = f h.1 in
          (suc r.0, r.1 ∙ suc-add n r.0 ∙ sym (add-suc n r.0), (r.2.0, below_suc (λ j. get_or (t ∷ ts) j never x y ≡ false) r.0 h.0 r.2.1))

  fails_from : (n : ℕ) (ts : List (X → Y → Bool)) (k : ℕ) → First ts k → unless n ts x y z ≡ Err (n + k)
  fails_from n [] k s = let q : ◌≡◌ {A = ℕ} 0 1 = cc s.0 in absurd (omega arith)
  fails_from n (t ∷ ts) zero s = rw (s.0, add-zero n)
  fails_from n (t ∷ ts) (suc k) s = rw (s.1 0 (omega arith)) (fails_from (suc n) ts k (s.0, λ j l. s.1 (suc j) (omega arith)) ∙ ap (λ (i : ℕ). Err i) (suc-add n k ∙ sym (add-suc n k)))

  -- where there is a refusal, its number is that of the first test that speaks
  pub failed : (ts : List (X → Y → Bool)) (n : ℕ) → Err n ≡ unless 1 ts x y z → Stops ts n x y
  failed ts n e =
      let f = failed_from 0 (never ∷ ts) n e in
      let i : n ≡ f.0 = f.1 ∙ zero-add f.0 in
      rw i f.2

  -- the first test that speaks gives the refusal
  pub fails : (ts : List (X → Y → Bool)) (n : ℕ) → Stops ts n x y → unless 1 ts x y z ≡ Err n
  fails ts n s = fails_from 0 (never ∷ ts) n s ∙ ap (λ (m : ℕ). Err m) (zero-add n)
