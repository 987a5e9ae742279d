-- In the file that was read, the name of each operation and of each call stands at its place.
use Rattle.std.proofs.Common.{◌≡◌, ℕ, ◌+◌, List, [], ◌++◌, map, length, take, Some, None, Option, sym, refl, ap, ◌∙◌, subst, subst₂, zero-add}
use Rattle.book.specs.Books.{Op, Cl, Bk, op_name, cl_name}
use Rattle.book.specs.declared.table.Act.{Act}
use Rattle.book_file.proofs.Law.{holds}
use Rattle.book_file.specs.Law.{bytes_of, as_field, as_before, as_act, as_after, of_op, of_cl, book_format, operation_name, call_name}
use Rattle.book_file.specs.declared.commands.Command.TheVariants.{Field, Before, Act as ACT, After as AFTER}
use Rattle.book_file.specs.declared.commands.Command.{Command}
use Rattle.format.proofs.Law.{of_left}
use Rattle.format.proofs.Places.{joined_append, places_append, Quiet, quiet_append, quiet_map, quiet_joined, Named, names_stand}
use Rattle.format.specs.Bytes.{Bytes}
use Rattle.format.specs.Format.{Format, Holds, place_of, places_in, name_places, written, read_file, whole_left, Stand}
use Rattle.std.proofs.lemmas.List.{append-nil, append_assoc, take_at}
use Rattle.std.specs.List.{flat_map}

-- only OPERATION and CALL may have such a name
record Begun (behind : Command → Option ℕ) : Type 0 where
  fields : (m : ℕ) → behind (Field m) ≡ None
  befores : (k : ℕ) → behind (Before k) ≡ None
  acts : (a : ℕ) → behind (ACT a) ≡ None
  afters : (k q : ℕ) → behind (AFTER k q) ≡ None

operation_begun : Begun operation_name
operation_begun = record { fields = λ m. refl; befores = λ k. refl; acts = λ a. refl; afters = λ k q. refl }

call_begun : Begun call_name
call_begun = record { fields = λ m. refl; befores = λ k. refl; acts = λ a. refl; afters = λ k q. refl }

module _ (behind : Command → Option ℕ) (h : Begun behind) where
  quiet_marks : (ms : List ℕ) → Quiet bytes_of behind (map as_field ms)
  quiet_marks = quiet_map bytes_of behind as_field h.fields

  quiet_act : (a : Option Act) → Quiet bytes_of behind (as_act a)
  quiet_act None at = refl
  quiet_act (Some a) at = ap (λ (o : Option ℕ). place_of o at ++ []) (h.acts _)

  -- what stands behind the CALL of a call
  abbrev parts : Cl → List Command
  parts c = map as_field c.fields ++ (map as_before c.befores ++ (as_act c.act ++ map as_after c.afters))

  quiet_parts : (c : Cl) → Quiet bytes_of behind (parts c)
  quiet_parts c =
      let bs = map as_before c.befores in
      let a = as_act c.act in
      let ss = map as_after c.afters in
      quiet_append bytes_of behind (map as_field c.fields) (bs ++ (a ++ ss)) (quiet_marks c.fields)
      (quiet_append bytes_of behind bs (a ++ ss) (quiet_map bytes_of behind as_before h.befores c.befores)
      (quiet_append bytes_of behind a ss (quiet_act c.act) (quiet_map bytes_of behind as_after (λ s. h.afters _ _) c.afters)))

-- a name stands behind the first byte of the commands that it begins
pub name_there : (n j rest : List ℕ) → take (length n) ((n ++ j) ++ rest) ≡ n
name_there n j rest = ap (take (length n)) (append_assoc n j rest) ∙ take_at n (j ++ rest) (length n) refl

operation_named : (o : Op) → Named bytes_of operation_name of_op op_name 1 o
operation_named o = record { once = λ at. ap (λ (l : List ℕ). place_of (Some 1) at ++ l) (quiet_marks operation_name operation_begun o.marks _); there = name_there (op_name o) (flat_map bytes_of (map as_field o.marks)) }

call_named : (c : Cl) → Named bytes_of call_name of_cl cl_name 1 c
call_named c = record { once = λ at. ap (λ (l : List ℕ). place_of (Some 1) at ++ l) (quiet_parts call_name call_begun c _); there = name_there (cl_name c) (flat_map bytes_of (parts call_name call_begun c)) }

-- The whole book.

module _ (b : Bk) where
  abbrev ops : List Command
  ops = flat_map of_op b.operations

  abbrev calls : List Command
  calls = flat_map of_cl b.calls

  operations_written : Stand (written book_format b) (name_places book_format operation_name b) (map op_name b.operations)
  operations_written =
      let none : Quiet bytes_of operation_name calls = quiet_joined bytes_of operation_name of_cl (λ c at. quiet_parts operation_name operation_begun c _) b.calls in
      let places : places_in bytes_of operation_name 0 ops ≡ name_places book_format operation_name b = sym (append-nil (places_in bytes_of operation_name 0 ops)) ∙ ap (λ (l : List ℕ). places_in bytes_of operation_name 0 ops ++ l) (sym (none _)) ∙ sym (places_append bytes_of operation_name 0 ops calls) in
      subst₂ (λ (l ps : List ℕ). Stand l ps (map op_name b.operations)) (sym (joined_append bytes_of ops calls)) places (names_stand bytes_of operation_name of_op op_name 1 operation_named b.operations [] (flat_map bytes_of calls))

  calls_written : Stand (written book_format b) (name_places book_format call_name b) (map cl_name b.calls)
  calls_written =
      let n = length (flat_map bytes_of ops) in
      let none : Quiet bytes_of call_name ops = quiet_joined bytes_of call_name of_op (λ o at. quiet_marks call_name call_begun o.marks _) b.operations in
      let places : places_in bytes_of call_name n calls ≡ name_places book_format call_name b = ap (λ (i : ℕ). places_in bytes_of call_name i calls) (sym (zero-add n)) ∙ ap (λ (l : List ℕ). l ++ places_in bytes_of call_name (0 + n) calls) (sym (none 0)) ∙ sym (places_append bytes_of call_name 0 ops calls) in
      let file : flat_map bytes_of ops ++ (flat_map bytes_of calls ++ []) ≡ written book_format b = ap (λ (l : List ℕ). flat_map bytes_of ops ++ l) (append-nil (flat_map bytes_of calls)) ∙ sym (joined_append bytes_of ops calls) in
      subst₂ (λ (l ps : List ℕ). Stand l ps (map cl_name b.calls)) file places (names_stand bytes_of call_name of_cl cl_name 1 call_named b.calls (flat_map bytes_of ops) [])

-- what a reader leaves: the names of the file, or none
pub stand_left : (F : Format) → Holds F → (file : List ℕ) → Bytes file → (behind : F.Command → Option ℕ) (names : F.Whole → List (List ℕ)) → Stand file (name_places F behind F.empty) (names F.empty) → ((a : F.Whole) → Stand (written F a) (name_places F behind a) (names a)) → (b : F.Whole) → b ≡ whole_left F (read_file F file) → Stand file (name_places F behind b) (names b)
stand_left F H file bs behind names none all b e = subst P (sym e) (of_left F H file bs P none (λ a w. subst (λ (l : List ℕ). Stand l (name_places F behind a) (names a)) (sym w.is) (all a)))
  where
    P : F.Whole → Type 0
    P a = Stand file (name_places F behind a) (names a)

pub operations_stand : (file : List ℕ) → Bytes file → (b : Bk) → b ≡ whole_left book_format (read_file book_format file) → Stand file (name_places book_format operation_name b) (map op_name b.operations)
operations_stand file bs = stand_left book_format holds file bs operation_name (λ b. map op_name b.operations) tt operations_written

pub calls_stand : (file : List ℕ) → Bytes file → (b : Bk) → b ≡ whole_left book_format (read_file book_format file) → Stand file (name_places book_format call_name b) (map cl_name b.calls)
calls_stand file bs = stand_left book_format holds file bs call_name (λ b. map cl_name b.calls) tt calls_written
