-- In the files that were read, the name asked for is handed out.
use Rattle.std.proofs.Common.{◌≡◌, ℕ, zero, suc, ◌+◌, ◌≤◌, ltb, List, [], ◌∷◌, length, take, drop, Ok, Err, Result, refl, ap, ◌∙◌, subst, arith}
use Rattle.policy.specs.Naming.{eight_at, placed_at, name_of, Hands, HandsOut}
use Rattle.policy.specs.declared.naming.Asked.TheVariants.{Call, Clause}
use Rattle.policy.specs.declared.naming.Asked.{Asked}
use Rattle.std.proofs.lemmas.List.{length-take, length-drop}
use Rattle.std.proofs.lemmas.Bool.{cond-false, lt-leb}
use Rattle.std.specs.List.{slice_get}

eight_there : (bytes n : List ℕ) (place : ℕ) → take (length n) (drop place bytes) ≡ n → length n ≡ 8 → eight_at bytes place ≡ Ok n
eight_there bytes n place e h =
    let t : take 8 (drop place bytes) ≡ n = subst (λ (k : ℕ). take k (drop place bytes) ≡ n) h e in
    let l : length (take 8 (drop place bytes)) ≡ 8 = ap length t ∙ h in
    let within : place + 8 ≤ length bytes = omega (arith, l, length-take 8 (drop place bytes), length-drop place bytes) in
    cond-false (ltb (length bytes) (place + 8)) (Err 26) (Ok (take 8 (drop place bytes))) (lt-leb (suc (length bytes)) (place + 8) (omega arith)) ∙ ap (λ (l : List ℕ). Ok l) t

hands : (bytes places : List ℕ) (k : ℕ) → Hands bytes places k (placed_at bytes (slice_get places k))
hands bytes [] k [] s h = refl
hands bytes [] k (n ∷ ns) s h = absurd s
hands bytes (p ∷ ps) k [] s h = absurd s
hands bytes (p ∷ ps) zero (n ∷ ns) s h = eight_there bytes n p s.0 h.0
hands bytes (p ∷ ps) (suc k) (n ∷ ns) s h = hands bytes ps k ns s.1 h.1

pub hands_out : (calls clauses : List ℕ) (asked : Asked) (book policy : List ℕ) (r : Result (List ℕ) ℕ) → r ≡ name_of calls clauses asked book policy → HandsOut calls clauses asked book policy r
hands_out calls clauses (Call k) book policy r e = λ names s h. e ∙ hands book calls k names s h
hands_out calls clauses (Clause k) book policy r e = λ names s h. e ∙ hands policy clauses k names s h
