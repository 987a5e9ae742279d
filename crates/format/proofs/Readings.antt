-- The places of all kinds of names that a reader keeps, before its first turn and after a turn.
use Rattle.std.proofs.Common.{◌≡◌, ℕ, List, [], ◌∷◌, ◌++◌, map, true, Ok, Err, Option, Result, sym, refl, ap, ap₂, ◌∙◌, subst}
use Rattle.format.specs.Format.{Format, Holds, step_of, place_of, places_in, name_places}
use Rattle.format.specs.Readings.{none_yet, one_more, come}
use Rattle.format.specs.Refusals.{At}
use Rattle.format.specs.declared.refusal.Refused.{Refused}
use Rattle.std.proofs.lemmas.Bool.{false≢true}
use Rattle.std.specs.Result.{is_err}

module _ (F : Format) where
  -- the empty whole has no names
  pub none_places : Holds F → (b : F.Whole) → b ≡ F.empty → (ns : List (F.Command → Option ℕ)) → none_yet ns ≡ map (λ n. name_places F n b) ns
  none_places H b e [] = refl
  none_places H b e (n ∷ ns) =
      let h : name_places F n b ≡ [] = ap (name_places F n) e ∙ ap (places_in F.bytes_of n 0) H.nothing in
      ap₂ (λ (p : List ℕ) (ps : List (List ℕ)). p ∷ ps) (sym h) (none_places H b e ns)

  -- a command more, for each kind of name
  pub more_places : (b a : F.Whole) (c : F.Command) (at : ℕ) → ((n : F.Command → Option ℕ) → name_places F n a ≡ name_places F n b ++ place_of (n c) at) → (ns : List (F.Command → Option ℕ)) → one_more ns c at (map (λ n. name_places F n b) ns) ≡ map (λ n. name_places F n a) ns
  more_places b a c at h [] = refl
  more_places b a c at h (n ∷ ns) = ap₂ (λ (p : List ℕ) (ps : List (List ℕ)). p ∷ ps) (sym (h n)) (more_places b a c at h ns)

-- What a step came to, said of what is read against before the loop.
module _ {A S : Type 0} (format : A → Format) (whole : (a : A) → S → (format a).Whole) (x y : S) (k a : A) (same : k ≡ a) (xs : List ℕ) where
  pub step_made : (after : List ℕ) → Ok (whole k y, after) ≡ step_of (format k) xs (whole k x) → Ok (whole a y, after) ≡ step_of (format a) xs (whole a x)
  step_made after e = subst (λ (b : A). Ok (whole b y, after) ≡ step_of (format b) xs (whole b x)) same e

  pub step_refused : (n : ℕ) → Err n ≡ step_of (format k) xs (whole k x) → Err n ≡ step_of (format a) xs (whole a x)
  step_refused n e = subst (λ (b : A). Err n ≡ step_of (format b) xs (whole b x)) same e

  pub step_places : (names : (a : A) → List ((format a).Command → Option ℕ)) (at : ℕ) (ps qs : List (List ℕ)) → qs ≡ one_more (names k) ((format k).command_at xs) at ps → qs ≡ one_more (names a) ((format a).command_at xs) at ps
  step_places names at ps qs e = subst (λ (b : A). qs ≡ one_more (names b) ((format b).command_at xs) at ps) same e

-- a refusal is told in the same way, whatever is left
pub refusal_same : {W : Type 0} (r : Result (Unit {0}) Refused) (w v : W) (o : Result W At) → is_err r ≡ true → come r w ≡ o → come r v ≡ o
refusal_same (Ok u) w v o h e = absurd (false≢true h)
refusal_same (Err x) w v o h e = e
