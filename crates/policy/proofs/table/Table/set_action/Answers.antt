use Rattle.policy.proofs.Others.{clauses_are}
use Rattle.policy.proofs.table.Table.set_action.Goals as goal
use Rattle.policy.specs.Meaning.{cs_of, policy_of, cs_place}
use Rattle.policy.specs.Policies.{acting}
use Rattle.std.proofs.Common.{Some, refl, ◌∙◌}
use Rattle.tables.proofs.Lent.{meant_none, row_same, row_changed, row_kept}

pub returns-in-Some : goal.returns-in-Some
returns-in-Some c =
    let b = c.args.self.now in
    let r = b.clauses in
    let o = c.in-Some.clause.now in
    let w = c.set_action.new.self in
    let t = c.last_mut.follows.lender w in
    let e = c.in-Some.ensures.value in
    let l = c.last_mut.follows.holds w in
    record {
      is = row_changed cs_of r (clauses_are (policy_of b)) t (acting (Some c.args.action)) o w e l c.set_action.ensures.is;
      book = refl;
      places = row_kept cs_place r (λ l. l) t o w e l c.set_action.ensures.place;
    }

pub returns-in_default : goal.returns-in_default
returns-in_default c =
    let b = c.args.self.now in
    let r = b.clauses in
    let t = c.last_mut.follows.lender-at-none in
    let same = c.last_mut.follows.holds-at-none in
    let n = meant_none cs_of r c.in_default.ensures.value in
    record {
      is = row_same cs_of r (clauses_are (policy_of b)) t same ∙ simp n;
      book = refl;
      places = row_same cs_place r (λ l. l) t same;
    }
