-- Why a file is refused, how a refusal is written, and what functions that may refuse came to.
use Rattle.std.specs.Prelude.{ℕ, List, ◌∷◌, ◌++◌, Some, None, Ok, Err, decimal, Option, Result}
use Rattle.format.specs.declared.refusal.Refusal.TheVariants.{NoCommand, CutOff, OutOfTurn, OverCount, Outside, Undefined, Taken, MarkMissing, Unfinished}
use Rattle.format.specs.declared.refusal.Refusal.{Refusal}
use Rattle.format.specs.declared.refusal.Refused.{Refused}
use Rattle.std.specs.Borrow.{Bor}

-- each refusal's number: no command of this file, operands cut off, out of turn, over a count, operand outside its stated values, number not defined so far, name or mark taken, needed mark missing, clause left unfinished
abbrev pub number_of : Refusal → ℕ
number_of NoCommand = 1
number_of CutOff = 2
number_of OutOfTurn = 3
number_of OverCount = 4
number_of Outside = 5
number_of Undefined = 6
number_of Taken = 7
number_of MarkMissing = 8
number_of Unfinished = 9

-- a refusal as its number and its offset
pub record At : Type 0 where
  pub number : ℕ
  pub offset : ℕ

-- a refusal as it is written: its number, ` at ` and its offset
abbrev pub shown_as : Refused → List ℕ
shown_as r = decimal (number_of r.refusal) ++ (32 ∷ 97 ∷ 116 ∷ 32 ∷ decimal r.offset)

-- what a reader of files answered, with a refusal by its number
abbrev pub numbered : Result (Unit {0}) Refused → Result (Unit {0}) At
numbered (Ok u) = Ok u
numbered (Err e) = Err (record { number = number_of e.refusal; offset = e.offset })

-- what a function that changes x and may refuse came to
abbrev pub told : {X : Type 0} → Result (Unit {0}) Refusal → X → Result X ℕ
told (Ok u) x = Ok x
told (Err e) x = Err (number_of e)

-- what a reader of one command came to: the command and the bytes behind it
abbrev pub read_as : {C : Type 0} → Result (C × Bor (List ℕ)) Refusal → Result (C × List ℕ) ℕ
read_as (Ok p) = Ok (p.0, p.1.now)
read_as (Err e) = Err (number_of e)

-- what a step that changes x and hands out the bytes behind its command came to
abbrev pub stepped : {X : Type 0} → Result (Bor (List ℕ)) Refusal → X → Result (X × List ℕ) ℕ
stepped (Ok r) x = Ok (x, r.now)
stepped (Err e) x = Err (number_of e)

-- what an operand stands for, or that it is outside its stated values
abbrev pub or_outside : {X : Type 0} → Option X → Result X Refusal
or_outside (Some x) = Ok x
or_outside None = Err Outside
