-- The first clause that passes a test: where it stands, and a search for it from the front.
use Rattle.std.proofs.Common.{◌≡◌, ℕ, zero, suc, ◌+◌, ◌<◌, Bool, true, false, cond, List, [], ◌∷◌, map, Some, None, Option, sym, refl, ap, ◌∙◌, subst, le_of_suc-le-suc, add-zero, arith}
use Rattle.policy.specs.Policies.{Cs}
use Rattle.pruning.specs.Marking.{first_from}
use Rattle.std.proofs.lemmas.Bool.{both_ways}
use Rattle.std.proofs.lemmas.Iterator.Adapters.{position_from-zero}
use Rattle.std.specs.List.{slice_get, position, position_from, enumerate_from}

module _ (test : ℕ → Cs → Bool) where
  -- element j of the list, counted from k on, passes the test
  abbrev pub Passes : ℕ → List Cs → ℕ → Type 0
  Passes k cs j = (c : Cs) × (slice_get cs j ≡ Some c) × (test (k + j) c ≡ true)

  -- the number i is that of an element that passes, and none before it does
  pub record FirstAt (k : ℕ) (cs : List Cs) (i : ℕ) : Type 0 where
    pub place : ℕ
    pub is : i ≡ k + place
    pub passes : Passes k cs place
    pub before : (j : ℕ) → j < place → Passes k cs j → ⊥

  front : (k : ℕ) (c : Cs) (cs : List Cs) → Passes k (c ∷ cs) 0 → test k c ≡ true
  front k c cs h = let e : c ≡ h.0 = cc h.1 in subst (λ (n : ℕ). test n c ≡ true) (add-zero k) (subst (λ (x : Cs). test (k + 0) x ≡ true) (sym e) h.2)

  back : (k : ℕ) (c : Cs) (cs : List Cs) (j : ℕ) → Passes k (c ∷ cs) (suc j) → Passes (k + 1) cs j
  back k c cs j h = (h.0, h.1, subst (λ (n : ℕ). test n h.0 ≡ true) (let e : k + suc j ≡ k + 1 + j = omega arith in e) h.2)

  forth : (k : ℕ) (c : Cs) (cs : List Cs) (j : ℕ) → Passes (k + 1) cs j → Passes k (c ∷ cs) (suc j)
  forth k c cs j h = (h.0, h.1, subst (λ (n : ℕ). test n h.0 ≡ true) (let e : k + 1 + j ≡ k + suc j = omega arith in e) h.2)

  pub first_some : (k : ℕ) (cs : List Cs) (i : ℕ) → first_from test k cs ≡ Some i → FirstAt k cs i
  first_some k [] i e = let z : ◌≡◌ {A = ℕ} 0 1 = cc in absurd (omega arith)
  first_some k (c ∷ cs) i e = at (test k c) refl e (λ h. first_some (k + 1) cs i h)
    where
      none : test k c ≡ false → (f : FirstAt (k + 1) cs i) (j : ℕ) → j < suc f.place → Passes k (c ∷ cs) j → ⊥
      none t f zero l q = both_ways (test k c) t (front k c cs q)
      none t f (suc j) l q = f.before j (le_of_suc-le-suc l) (back k c cs j q)

      later : test k c ≡ false → FirstAt (k + 1) cs i → FirstAt k (c ∷ cs) i
      later t f = record { place = suc f.place; is = let w = f.is in omega arith; passes = forth k c cs f.place f.passes; before = none t f }

      at : (b : Bool) → test k c ≡ b → cond b (Some k) (first_from test (k + 1) cs) ≡ Some i → (first_from test (k + 1) cs ≡ Some i → FirstAt (k + 1) cs i) → FirstAt k (c ∷ cs) i
      at true t h go = record { place = 0; is = let w : k ≡ i = cc in omega arith; passes = (c, refl, subst (λ (n : ℕ). test n c ≡ true) (sym (add-zero k)) t); before = λ j l. absurd (omega arith) }
      at false t h go = later t (go h)

  pub first_none : (k : ℕ) (cs : List Cs) → first_from test k cs ≡ None → (j : ℕ) → Passes k cs j → ⊥
  first_none k [] e j q = let z : ◌≡◌ {A = ℕ} 0 1 = cc q.1 in omega arith
  first_none k (c ∷ cs) e j q = at (test k c) refl e (λ h. first_none (k + 1) cs h) j q
    where
      at : (b : Bool) → test k c ≡ b → cond b (Some k) (first_from test (k + 1) cs) ≡ None → (first_from test (k + 1) cs ≡ None → (j : ℕ) → Passes (k + 1) cs j → ⊥) → (j : ℕ) → Passes k (c ∷ cs) j → ⊥
      at true t h go j q = let z : ◌≡◌ {A = ℕ} 0 1 = cc in omega arith
      at false t h go zero q = both_ways (test k c) t (front k c cs q)
      at false t h go (suc j) q = go h j (back k c cs j q)

  -- The first position among the elements with their numbers.

  module _ {X : Type 0} (view : X → Cs) where
    abbrev pub passing : ℕ × X → Bool
    passing p = test p.0 (view p.1)

    position_is : (k : ℕ) (xs : List X) → position_from passing k (enumerate_from k xs) ≡ first_from test k (map view xs)
    position_is k [] = refl
    position_is k (x ∷ xs) = ap (cond (test k (view x)) (Some k)) (position_is (k + 1) xs)

    pub first_position : (xs : List X) (cs : List Cs) (r : Option ℕ) → map view xs ≡ cs → r ≡ position passing (enumerate_from 0 xs) → r ≡ first_from test 0 cs
    first_position xs cs r same e = e ∙ position_from-zero passing (enumerate_from 0 xs) ∙ position_is 0 xs ∙ ap (first_from test 0) same
