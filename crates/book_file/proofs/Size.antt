-- A lawful book is written in at most 64 * (9 + 6 * 2) + 64 * (9 + 8 * 2 + 8 * 2 + 2 + 8 * 3) = 5632 bytes.
use Rattle.std.proofs.Common.{◌≤◌, List, ◌++◌, map, length, Some, None, Option, refl, arith}
use Rattle.book.specs.Books.{Op, Cl, Bk}
use Rattle.book.specs.declared.table.Act.{Act}
use Rattle.book_file.specs.Law.{bytes_of, as_field, as_before, as_act, as_after, of_op, of_cl, book_format, LawfulOp, LawfulCl, Lawful}
use Rattle.format.proofs.Sizes.{size, size_append, size_joined, size_map}
use Rattle.format.specs.Format.{written}
use Rattle.std.proofs.ByRecursion.{All-weaker}
use Rattle.std.proofs.lemmas.List.{length-append}
use Rattle.std.specs.List.{flat_map}

size_act : (a : Option Act) → size bytes_of (as_act a) ≤ 2
size_act None = omega arith
size_act (Some a) = omega arith

size_op : (o : Op) → LawfulOp o → size bytes_of (of_op o) ≤ 21
size_op o h = omega (arith, length-append o.name.letters (flat_map bytes_of (map as_field o.marks)), size_map bytes_of as_field 2 (λ _. refl) o.marks, h.name.eight, h.marks.few)

size_cl : (os : List Op) (c : Cl) → LawfulCl os c → size bytes_of (of_cl c) ≤ 67
size_cl os c h =
    let fs = map as_field c.fields in
    let bs = map as_before c.befores in
    let a = as_act c.act in
    let ss = map as_after c.afters in
    omega (arith, length-append c.name.letters (flat_map bytes_of (fs ++ (bs ++ (a ++ ss)))), size_append bytes_of fs (bs ++ (a ++ ss)), size_append bytes_of bs (a ++ ss), size_append bytes_of a ss, size_map bytes_of as_field 2 (λ _. refl) c.fields, size_map bytes_of as_before 2 (λ _. refl) c.befores, size_act c.act, size_map bytes_of as_after 3 (λ _. refl) c.afters, h.name.eight, h.fields.few, h.few_befores, h.few_afters)

pub bounded : (b : Bk) → Lawful b → length (written book_format b) ≤ 5632
bounded b h = omega (arith, size_append bytes_of (flat_map of_op b.operations) (flat_map of_cl b.calls), size_joined bytes_of of_op 21 b.operations (All-weaker LawfulOp (λ o. size bytes_of (of_op o) ≤ 21) size_op b.operations h.each_operation), size_joined bytes_of of_cl 67 b.calls (All-weaker (LawfulCl b.operations) (λ c. size bytes_of (of_cl c) ≤ 67) (size_cl b.operations) b.calls h.each_call), h.few_operations, h.few_calls)
