-- The names of records and what they mean.
use Rattle.std.proofs.Common.{◌≡◌, List, map, sym}
use Rattle.book.specs.Books.{op_name, cl_name}
use Rattle.book.specs.Meaning.{op_of, cl_of}
use Rattle.book.specs.declared.table.Call.{Call}
use Rattle.book.specs.declared.table.Operation.{Operation}
use Rattle.book.proofs.Slices.{slices}
use Rattle.std.proofs.lemmas.List.{length-map}
use Rattle.std.proofs.lemmas.Simd.{map-map}

pub operation_names : (os : List Operation) → map (λ o. o.placed.name.letters) os ≡ map op_name (map op_of os)
operation_names os = sym (map-map op_name op_of os)

pub call_names : (cs : List Call) → map (λ c. c.placed.name.letters) cs ≡ map cl_name (map cl_of cs)
call_names cs = sym (map-map cl_name cl_of cs)

-- what is read of a book's records, as what they mean
pub ruleset meanings = (slices, operation_names, call_names, length-map)
