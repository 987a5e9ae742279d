use Rattle.book.proofs.Lending.{lent_row, lent_none}
use Rattle.book.specs.Books.{full}
use Rattle.policy.proofs.Others.{groups_are}
use Rattle.policy.proofs.table.Table.push_member.Goals as goal
use Rattle.policy.specs.Meaning.{gr_of, policy_of}
use Rattle.policy.specs.Policies.{joining}
use Rattle.std.proofs.Common.{refl}

pub returns-in-Some : goal.returns-in-Some
returns-in-Some c =
    let b = c.args.self.now in
    let r = b.groups in
    let o = c.in-Some.group.now in
    let w = c.push_member.new.self in
    let t = c.last_mut.follows.lender w in
    let e = c.in-Some.ensures.value in
    let l = c.last_mut.follows.holds w in
    record {
      is = lent_row gr_of r (groups_are (policy_of b)) t (λ g. full 16 g.members) (joining c.args.member) o w e l c.push_member.ensures;
      book = refl;
      places = refl;
    }

pub returns-in_default : goal.returns-in_default
returns-in_default c =
    let b = c.args.self.now in
    let r = b.groups in
    let t = c.last_mut.follows.lender-at-none in
    let same = c.last_mut.follows.holds-at-none in
    record {
      is = lent_none gr_of r (groups_are (policy_of b)) t (λ g. full 16 g.members) (joining c.args.member) c.in_default.ensures.value same;
      book = refl;
      places = refl;
    }
