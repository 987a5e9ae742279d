use Rattle.policy.proofs.Walks.{at_has, at_has_over, at_nest, at_nest_over, grown, complete, members_are, group_within}
use Rattle.policy.proofs.table.Table.+walk.Goals as goal
use Rattle.policy.specs.Meaning.{gr_of, policy_of}
use Rattle.book.proofs.Slices.{slices}
use Rattle.std.proofs.Common.{◌≡◌, Some, sym, ◌∙◌, arith, rules}
use Rattle.std.specs.List.{slice_get}

pub bounds-walk-number-2 : goal.bounds-walk-number-2
bounds-walk-number-2 t c =
    let there : Some (gr_of c.in-Some.group.now) ≡ slice_get (policy_of c.args.self.now).groups c.args.number = search (rules, slices) in
    group_within c.args.self.now c.args.number (gr_of c.in-Some.group.now) there

pub loop-member-preserved : goal.loop-member-preserved
loop-member-preserved t c =
    let there : Some (gr_of c.in-Some.group.now) ≡ slice_get (policy_of c.args.self.now).groups c.args.number = search (rules, slices) in
    let gs = (policy_of c.args.self.now).groups in
    let mine = members_are gs c.args.number (gr_of c.in-Some.group.now) there ∙ sym c.members-member-items.ensures in
    elim c.match-member.branch [
      | goal.in-Has+then-flag-lt-OPERATIONS w ↦ rw w.walk-is (at_has gs _ _ mine _ _ _ _ c.loop-member.invariant c.loop-member-test.true _ w.in-Has.is (omega arith) w.if-flag-lt-OPERATIONS.true)
      | goal.in-Has+else-flag-lt-OPERATIONS w ↦ rw w.walk-is (at_has_over gs _ _ mine _ _ _ _ c.loop-member.invariant c.loop-member-test.true _ w.in-Has.is w.if-flag-lt-OPERATIONS.false)
      | goal.in-Nest+then-inner-number w ↦ rw w.walk-is (at_nest gs _ _ mine _ _ _ _ c.loop-member.invariant c.loop-member-test.true _ w.in-Nest.is w.if-inner-number.true _ _ w.walk.ensures.complete w.walk.ensures.grown)
      | goal.in-Nest+else-inner-number w ↦ rw w.walk-is (at_nest_over gs _ _ mine _ _ _ _ c.loop-member.invariant c.loop-member-test.true _ w.in-Nest.is w.if-inner-number.false)
    ]

pub returns : goal.returns
returns t c =
    let there : Some (gr_of c.in-Some.group.now) ≡ slice_get (policy_of c.args.self.now).groups c.args.number = search (rules, slices) in
    let gs = (policy_of c.args.self.now).groups in
    let mine = members_are gs c.args.number (gr_of c.in-Some.group.now) there ∙ sym c.members-member-items.ensures in
    record {
      complete = complete gs _ _ mine _ _ _ _ c.loop-member.invariant c.loop-member-test.false;
      grown = grown gs _ _ mine _ _ _ _ c.loop-member.invariant c.loop-member-test.false;
    }
