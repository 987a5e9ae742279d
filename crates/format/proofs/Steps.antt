-- One step of a reader: it reads a command and then judges it, which is to go through all tests in their order.
use Rattle.std.proofs.Common.{◌≡◌, ℕ, suc, Bool, true, false, cond, List, [], ◌∷◌, map, Ok, Err, Result, refl, ap, ◌∙◌}
use Rattle.format.specs.Bytes.{on_bytes}
use Rattle.format.specs.Format.{unless}

-- the answer with the bytes behind the command
abbrev pub with_rest : {W : Type 0} → Result W ℕ → List ℕ → Result (W × List ℕ) ℕ
with_rest (Ok b) rest = Ok (b, rest)
with_rest (Err e) rest = Err e

rest_cond : {W : Type 0} (n : ℕ) (p : Bool) (r : Result W ℕ) (rest : List ℕ) → with_rest (cond p (Err n) r) rest ≡ cond p (Err n) (with_rest r rest)
rest_cond n true r rest = refl
rest_cond n false r rest = refl

module _ {W C : Type 0} (command_at : List ℕ → C) (ts : List (W → C → Bool)) (obey : W → C → W) where
  -- what was read is judged by the tests from 3 on, and a refusal stays
  abbrev pub judged_first : Result (C × List ℕ) ℕ → W → Result (W × List ℕ) ℕ
  judged_first (Ok p) b = with_rest (unless 3 ts b p.0 (obey b p.0)) p.1
  judged_first (Err e) b = Err e

  judged_is : (b : W) (xs rest : List ℕ) (a : W) (n : ℕ) (us : List (W → C → Bool)) → with_rest (unless n us b (command_at xs) a) rest ≡ unless n (map (on_bytes command_at) us) b xs (a, rest)
  judged_is b xs rest a n [] = refl
  judged_is b xs rest a n (t ∷ us) = rest_cond n (t b (command_at xs)) (unless (suc n) us b (command_at xs) a) rest ∙ ap (λ (r : Result (W × List ℕ) ℕ). cond (t b (command_at xs)) (Err n) r) (judged_is b xs rest a (suc n) us)

  first_conds : (b : W) (p q : Bool) (c : C) (rest : List ℕ) (r : Result (W × List ℕ) ℕ) → with_rest (unless 3 ts b c (obey b c)) rest ≡ r → judged_first (cond p (Err 1) (cond q (Err 2) (Ok (c, rest)))) b ≡ cond p (Err 1) (cond q (Err 2) r)
  first_conds b true q c rest r e = refl
  first_conds b false true c rest r e = refl
  first_conds b false false c rest r e = e

  -- p and q are what the tests 1 and 2 say
  pub judged_all : (xs rest : List ℕ) (b : W) (p q : Bool) → judged_first (cond p (Err 1) (cond q (Err 2) (Ok (command_at xs, rest)))) b ≡ cond p (Err 1) (cond q (Err 2) (unless 3 (map (on_bytes command_at) ts) b xs (obey b (command_at xs), rest)))
  judged_all xs rest b p q = first_conds b p q (command_at xs) rest _ (judged_is b xs rest (obey b (command_at xs)) 3 ts)
