-- Commands that are obeyed one after the other.
use Rattle.std.proofs.Common.{◌≡◌, ℕ, List, [], ◌∷◌, ◌++◌, map, Ok, sym, refl, ap, subst}
use Rattle.format.specs.Format.{Format, step_of, Runs}
use Rattle.std.proofs.lemmas.List.{append-nil, append_assoc}
use Rattle.std.specs.List.{flat_map}

joined_map : {A C : Type 0} (f : A → C) (ms : List A) → flat_map (λ m. f m ∷ []) ms ≡ map f ms
joined_map f [] = refl
joined_map {C = C} f (m ∷ ms) = ap (λ (l : List C). f m ∷ l) (joined_map f ms)

module _ {W C : Type 0} (obey : W → C → W) (Good : W → C → Type 0) where
  -- each command is good where it comes, and they make a of b
  abbrev pub Ran : List C → W → W → Type 0
  Ran [] b a = b ≡ a
  Ran (c ∷ cs) b a = Good b c × Ran cs (obey b c) a

  pub ran_append : (cs ds : List C) (b a e : W) → Ran cs b a → Ran ds a e → Ran (cs ++ ds) b e
  ran_append [] ds b a e p q = subst (λ (x : W). Ran ds x e) (sym p) q
  ran_append (c ∷ cs) ds b a e p q = (p.0, ran_append cs ds (obey b c) a e p.1 q)

  -- the one induction: what holds of a whole list lets each element be put behind those before it
  module _ {A : Type 0} (f : A → List C) (put : List A → W) (P : List A → Type 0) (step : (ds : List A) (m : A) (ms : List A) → P (ds ++ m ∷ ms) → Ran (f m) (put ds) (put (ds ++ m ∷ []))) where
    ran_behind : (ds ms : List A) → P (ds ++ ms) → Ran (flat_map f ms) (put ds) (put (ds ++ ms))
    ran_behind ds [] h = ap put (sym (append-nil ds))
    ran_behind ds (m ∷ ms) h =
        let e : (ds ++ m ∷ []) ++ ms ≡ ds ++ m ∷ ms = append_assoc ds (m ∷ []) ms in
        ran_append (f m) (flat_map f ms) (put ds) (put (ds ++ m ∷ [])) (put (ds ++ m ∷ ms)) (step ds m ms h)
        (subst (λ (l : List A). Ran (flat_map f ms) (put (ds ++ m ∷ [])) (put l)) e (ran_behind (ds ++ m ∷ []) ms (subst P (sym e) h)))

    pub ran_joined : (ms : List A) → P ms → Ran (flat_map f ms) (put []) (put ms)
    ran_joined = ran_behind []

  -- the same where each element is one command
  module _ {A : Type 0} (f : A → C) (put : List A → W) (P : List A → Type 0) (step : (ds : List A) (m : A) (ms : List A) → P (ds ++ m ∷ ms) → Ran (f m ∷ []) (put ds) (put (ds ++ m ∷ []))) where
    pub ran_map : (ms : List A) → P ms → Ran (map f ms) (put []) (put ms)
    ran_map ms h = subst (λ (l : List C). Ran l (put []) (put ms)) (joined_map f ms) (ran_joined (λ m. f m ∷ []) put P step ms h)

-- where good commands are read back from their bytes
pub runs : (F : Format) (Good : F.Whole → F.Command → Type 0) → ((b : F.Whole) (c : F.Command) (rest : List ℕ) → Good b c → step_of F (F.bytes_of c ++ rest) b ≡ Ok (F.obey b c, rest)) → (cs : List F.Command) (b a : F.Whole) → Ran F.obey Good cs b a → Runs F cs b a
runs F Good step [] b a h = h
runs F Good step (c ∷ cs) b a h = (λ rest. step b c rest h.0, runs F Good step cs (F.obey b c) a h.1)
