use Rattle.book.proofs.Halves.{operations_are}
use Rattle.book.proofs.Lending.{lent_row, lent_none}
use Rattle.book.proofs.table.Book.push_mark.Goals as goal
use Rattle.book.specs.Books.{marked, full}
use Rattle.book.specs.Meaning.{op_of, book_of, op_place}
use Rattle.std.proofs.Common.{refl}
use Rattle.tables.proofs.Lent.{row_same, row_kept}

pub returns-in-Some : goal.returns-in-Some
returns-in-Some c =
    let b = c.args.self.now in
    let r = b.operations in
    let o = c.in-Some.operation.now in
    let w = c.push_mark.new.self in
    let t = c.last_mut.follows.lender w in
    let e = c.in-Some.ensures.value in
    let l = c.last_mut.follows.holds w in
    record {
      is = lent_row op_of r (operations_are (book_of b)) t (λ o. full 6 o.marks) (marked c.args.mark) o w e l c.push_mark.ensures.is;
      operations = row_kept op_place r (λ l. l) t o w e l c.push_mark.ensures.place;
      calls = refl;
    }

pub returns-in_default : goal.returns-in_default
returns-in_default c =
    let b = c.args.self.now in
    let r = b.operations in
    let t = c.last_mut.follows.lender-at-none in
    let same = c.last_mut.follows.holds-at-none in
    record {
      is = lent_none op_of r (operations_are (book_of b)) t (λ o. full 6 o.marks) (marked c.args.mark) c.in_default.ensures.value same;
      operations = row_same op_place r (λ l. l) t same;
      calls = refl;
    }
