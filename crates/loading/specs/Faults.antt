-- Why two files give no table, and the one line that says so.
use Rattle.std.specs.Prelude.{ℕ, List, ◌++◌, Ok, Err, codes, Result}
use Rattle.format.specs.Refusals.{At, number_of, shown_as as refused_as}
use Rattle.format.specs.declared.refusal.Refused.{Refused}
use Rattle.loading.specs.declared.fault.Fault.TheVariants.{BookMissing, BookRefused, PolicyMissing, PolicyRefused}
use Rattle.loading.specs.declared.fault.Fault.{Fault}

-- a fault with a refusal by its number and its offset
pub data Trouble : Type 0 where
  no_book : Trouble
  bad_book : At → Trouble
  no_policy : Trouble
  bad_policy : At → Trouble

-- a refusal by its number and its offset
abbrev pub at_of : Refused → At
at_of r = record { number = number_of r.refusal; offset = r.offset }

-- what each fault stands for
abbrev pub trouble_of : Fault → Trouble
trouble_of BookMissing = no_book
trouble_of (BookRefused r) = bad_book (at_of r)
trouble_of PolicyMissing = no_policy
trouble_of (PolicyRefused r) = bad_policy (at_of r)

-- what a function that may be at fault answered
abbrev pub answered : Result (Unit {0}) Fault → Result (Unit {0}) Trouble
answered (Ok u) = Ok u
answered (Err e) = Err (trouble_of e)

-- the line of each fault
abbrev pub shown_as : Fault → List ℕ
shown_as BookMissing = codes "book missing"
shown_as (BookRefused r) = codes "book " ++ refused_as r
shown_as PolicyMissing = codes "policy missing"
shown_as (PolicyRefused r) = codes "policy " ++ refused_as r
