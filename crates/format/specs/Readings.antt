-- What a reader comes to, and the places of names that it keeps on its way.
use Rattle.std.specs.Prelude.{ℕ, List, [], ◌∷◌, ◌++◌, map, Option, Ok, Err, Result}
use Rattle.format.specs.Format.{place_of}
use Rattle.format.specs.Refusals.{At, number_of}
use Rattle.format.specs.declared.refusal.Refused.{Refused}

-- what a reader came to: what it read, or the refusal
abbrev pub come : {W : Type 0} → Result (Unit {0}) Refused → W → Result W At
come (Ok u) w = Ok w
come (Err e) w = Err (record { number = number_of e.refusal; offset = e.offset })

-- no place yet, for each kind of name
abbrev pub none_yet : {C : Type 0} → List (C → Option ℕ) → List (List ℕ)
none_yet names = map (λ _. []) names

-- the places of each kind of name, and those of one command more, which begins at that offset
abbrev pub one_more : {C : Type 0} → List (C → Option ℕ) → C → ℕ → List (List ℕ) → List (List ℕ)
one_more [] c at ps = ps
one_more (n ∷ ns) c at [] = []
one_more (n ∷ ns) c at (p ∷ ps) = (p ++ place_of (n c) at) ∷ one_more ns c at ps
