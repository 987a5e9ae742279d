use Rattle.std.proofs.Common.{◌≡◌, Some, sym, ap, ◌∙◌, subst, arith}
use Rattle.policy.specs.Meaning.{policy_of}
use Rattle.pruning.proofs.Flags.{down}
use Rattle.policy.proofs.Few.{few_clauses, few_cells}
use Rattle.pruning.proofs.Settling.{Going, falls, leads_off, starts, goes, Right, right, obeys, least, exact_clause, exact_cell}
use Rattle.pruning.proofs.marking.mark.Goals as goal
use Rattle.pruning.specs.Marking.{next_of}
use Rattle.pruning.specs.Rules.{Chosen}
use Rattle.pruning.specs.declared.marks.Marks.{Marks}

pub loop-number-init : goal.loop-number-init
loop-number-init c = subst (λ (m : Marks). Going (policy_of c.args.table.now) m) (sym c.none-marks.ensures) (starts (policy_of c.args.table.now))

pub loop-number-smaller : goal.loop-number-smaller
loop-number-smaller c =
    let p = policy_of c.args.table.now in
    let e : next_of p c.loop-number.marks ≡ Some c.in-Some.number = sym c.next.ensures ∙ c.in-Some.is in
    let f = falls p (few_clauses c.args.table.now) (few_cells c.args.table.now) c.loop-number.marks c.loop-number.invariant.0 c.in-Some.number e in
    let s = ap (λ (m : Marks). down m.clauses) c.choose.ensures in
    omega arith

pub loop-number-preserved : goal.loop-number-preserved
loop-number-preserved c =
    let p = policy_of c.args.table.now in
    let e : next_of p c.loop-number.marks ≡ Some c.in-Some.number = sym c.next.ensures ∙ c.in-Some.is in
    subst (λ (m : Marks). Going p m) (sym c.choose.ensures) (goes p (few_clauses c.args.table.now) (few_cells c.args.table.now) c.loop-number.marks c.in-Some.number c.loop-number.invariant e)

pub returns : goal.returns
returns c =
    let p = policy_of c.args.table.now in
    let m = c.loop-number.marks in
    let e = sym (leads_off p (down m.clauses) m (sym c.next.ensures ∙ c.in_default.is)) ∙ c.loop-number.invariant.1 in
    let r = subst (Right p) (sym e) (right p (few_clauses c.args.table.now) (few_cells c.args.table.now)) in
    record {
      is = e;
      obeys = obeys p m r.kept r.settled;
      least = λ C D o. least p m r.kept r.settled (Chosen C) (Chosen D) o;
      exact = (exact_clause p m r.kept r.settled, exact_cell p m r.kept r.settled);
    }
