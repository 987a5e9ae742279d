use Rattle.book.proofs.Lending.{lent_row, lent_none}
use Rattle.book.specs.Books.{full}
use Rattle.policy.proofs.Others.{clauses_are}
use Rattle.policy.proofs.table.Table.push_when.Goals as goal
use Rattle.policy.specs.Meaning.{cs_of, policy_of, cs_place}
use Rattle.policy.specs.Policies.{guarded}
use Rattle.std.proofs.Common.{Some, refl}
use Rattle.tables.proofs.Lent.{row_same, row_kept}

pub returns-in-Some : goal.returns-in-Some
returns-in-Some c =
    let b = c.args.self.now in
    let r = b.clauses in
    let o = c.in-Some.clause.now in
    let w = c.push_when.new.self in
    let t = c.last_mut.follows.lender w in
    let e = c.in-Some.ensures.value in
    let l = c.last_mut.follows.holds w in
    record {
      is = lent_row cs_of r (clauses_are (policy_of b)) t (λ c. full 3 c.whens) (guarded (Some c.args.when)) o w e l c.push_when.ensures.is;
      book = refl;
      places = row_kept cs_place r (λ l. l) t o w e l c.push_when.ensures.place;
    }

pub returns-in_default : goal.returns-in_default
returns-in_default c =
    let b = c.args.self.now in
    let r = b.clauses in
    let t = c.last_mut.follows.lender-at-none in
    let same = c.last_mut.follows.holds-at-none in
    record {
      is = lent_none cs_of r (clauses_are (policy_of b)) t (λ c. full 3 c.whens) (guarded (Some c.args.when)) c.in_default.ensures.value same;
      book = refl;
      places = row_same cs_place r (λ l. l) t same;
    }
