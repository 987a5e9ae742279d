use Rattle.std.proofs.Common.{◌≡◌, ℕ, List, ◌∙◌, rules}
use Rattle.register.specs.Plots.{with_entry}
use Rattle.register.proofs.Grounds.{first_now, second_now}
use Rattle.lender.proofs.put_joined.Goals as goal

pub returns : goal.returns
returns c =
    let x = c.new-grounds.result.first.numbers in
    let y = c.new-grounds.result.second.numbers in
    let x' = c.put-found.new.self.first.numbers in
    let y' = c.put-found.new.self.second.numbers in
    let p = c.put-found.ensures.plots in
    let b = c.put-found.ensures.beside in
    let f = λ (l : List ℕ). with_entry l c.args.plot c.args.entry in
    let ex : x.now ≡ c.args.old.now = search rules in
    let ey : y.now ≡ c.args.extension.now = search rules in
    let old : c.into_numbers.result.now ≡ x'.now = search rules in
    let extension : c.into_numbers-2.result.now ≡ y'.now = search rules in
    record {
      found = search rules;
      old = old ∙ first_now x y x' y' f p b.0 b.1 b.2 _ _ ex ey;
      extension = extension ∙ second_now x y x' y' f p b.0 b.1 b.2 _ _ ex ey;
    }
