use Rattle.book.proofs.Halves.{calls_are}
use Rattle.book.proofs.Lending.{lent_row, lent_none}
use Rattle.book.proofs.table.Book.push_field.Goals as goal
use Rattle.book.specs.Books.{fielded, full}
use Rattle.book.specs.Meaning.{cl_of, book_of, cl_place}
use Rattle.std.proofs.Common.{refl}
use Rattle.tables.proofs.Lent.{row_same, row_kept}

pub returns-in-Some : goal.returns-in-Some
returns-in-Some c =
    let b = c.args.self.now in
    let r = b.calls in
    let o = c.in-Some.call.now in
    let w = c.push_field.new.self in
    let t = c.last_mut.follows.lender w in
    let e = c.in-Some.ensures.value in
    let l = c.last_mut.follows.holds w in
    record {
      is = lent_row cl_of r (calls_are (book_of b)) t (λ c. full 8 c.fields) (fielded c.args.mark) o w e l c.push_field.ensures.is;
      calls = row_kept cl_place r (λ l. l) t o w e l c.push_field.ensures.place;
      operations = refl;
    }

pub returns-in_default : goal.returns-in_default
returns-in_default c =
    let b = c.args.self.now in
    let r = b.calls in
    let t = c.last_mut.follows.lender-at-none in
    let same = c.last_mut.follows.holds-at-none in
    record {
      is = lent_none cl_of r (calls_are (book_of b)) t (λ c. full 8 c.fields) (fielded c.args.mark) c.in_default.ensures.value same;
      calls = row_same cl_place r (λ l. l) t same;
      operations = refl;
    }
