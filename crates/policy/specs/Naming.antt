-- The name of a call or of a clause, as eight bytes of the file that it was read from.
use Rattle.std.specs.Prelude.{◌≡◌, ℕ, ◌+◌, cond, List, length, take, drop, Some, None, Ok, Err, Option, Result, nat_lt}
use Rattle.format.specs.Format.{Stand}
use Rattle.policy.specs.declared.naming.Asked.TheVariants.{Call, Clause}
use Rattle.policy.specs.declared.naming.Asked.{Asked}
use Rattle.policy.specs.declared.naming.NamingRefusal.TheVariants.{NoSuchNumber, EndsTooEarly}
use Rattle.policy.specs.declared.naming.NamingRefusal.{NamingRefusal}
use Rattle.std.specs.Option.{ok_or}
use Rattle.std.specs.List.{AllByRecursion, slice_get}
use Rattle.std.specs.Borrow.{Bor}

-- each refusal's number: no such call or clause, the bytes handed in end too early
abbrev pub naming_number : NamingRefusal → ℕ
naming_number NoSuchNumber = 25
naming_number EndsTooEarly = 26

-- what a function that hands out a part of some bytes came to
abbrev pub handed : Result (Bor (List ℕ)) NamingRefusal → Result (List ℕ) ℕ
handed (Ok r) = Ok r.now
handed (Err e) = Err (naming_number e)

-- the eight bytes at a place
abbrev pub eight_at : List ℕ → ℕ → Result (List ℕ) ℕ
eight_at bytes place = cond (nat_lt (length bytes) (place + 8)) (Err 26) (Ok (take 8 (drop place bytes)))

-- the eight bytes at the place of that number, where there is one
abbrev pub placed_at : List ℕ → Option ℕ → Result (List ℕ) ℕ
placed_at bytes None = Err 25
placed_at bytes (Some place) = eight_at bytes place

-- the name asked for: a call's is a part of the book, a clause's a part of the policy, each at the place kept of it
abbrev pub name_of : List ℕ → List ℕ → Asked → List ℕ → List ℕ → Result (List ℕ) ℕ
name_of calls clauses (Call k) book policy = placed_at book (slice_get calls k)
name_of calls clauses (Clause k) book policy = placed_at policy (slice_get clauses k)

-- The law of naming, in the files that were read.

-- the name of that number, where there is one
abbrev pub name_at : List (List ℕ) → ℕ → Result (List ℕ) ℕ
name_at names k = ok_or (slice_get names k) 25

-- where the names, each of eight letters, stand at the places in the bytes, r is the name of that number
abbrev pub Hands : List ℕ → List ℕ → ℕ → Result (List ℕ) ℕ → Type 0
Hands bytes places k r = (names : List (List ℕ)) → Stand bytes places names → AllByRecursion (λ n. length n ≡ 8) names → r ≡ name_at names k

-- r is the call's name where the calls' names stand in the book, and the clause's label where the labels stand in the policy
abbrev pub HandsOut : List ℕ → List ℕ → Asked → List ℕ → List ℕ → Result (List ℕ) ℕ → Type 0
HandsOut calls clauses (Call k) book policy r = Hands book calls k r
HandsOut calls clauses (Clause k) book policy r = Hands policy clauses k r
