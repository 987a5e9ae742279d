-- The command that was read.
use Rattle.std.proofs.Common.{◌≡◌, ℕ, Bool, true, false, cond, List, Ok, Err, Result, ap, arith}

module _ {C : Type 0} where
  abbrev pub read : C × List ℕ → Result (C × List ℕ) ℕ
  read p = Ok p

  -- the command that was read is the one that the bytes begin with; p and q are what the tests 1 and 2 say
  pub command_is : (c d : C) (rest after : List ℕ) (p q : Bool) → read (c, rest) ≡ cond p (Err 1) (cond q (Err 2) (read (d, after))) → c ≡ d
  command_is c d rest after true q h = let z : ◌≡◌ {A = ℕ} 0 1 = cc in absurd (omega arith)
  command_is c d rest after false true h = let z : ◌≡◌ {A = ℕ} 0 1 = cc in absurd (omega arith)
  command_is c d rest after false false h = let z : ◌≡◌ {A = C × List ℕ} (c, rest) (d, after) = cc in ap (λ (x : C × List ℕ). x.0) z
