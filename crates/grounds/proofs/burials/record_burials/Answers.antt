use Rattle.std.proofs.Common.{◌≡◌, ℕ, List, ◌∙◌, rules}
use Rattle.register.proofs.Grounds.{first_now, second_now}
use Rattle.grounds.specs.Burials.{buried}
use Rattle.grounds.proofs.burials.record_burials.Goals as goal

pub returns : goal.returns
returns c =
    let x = c.new-grounds.result.first.numbers in
    let y = c.new-grounds.result.second.numbers in
    let x' = c.bury_all.new.ground.first.numbers in
    let y' = c.bury_all.new.ground.second.numbers in
    let p = c.in_ok-found.ensures.plots in
    let b = c.in_ok-found.ensures.beside in
    let f = λ (l : List ℕ). buried l c.args.burials.now in
    let ex : x.now ≡ c.args.old.now = search rules in
    let ey : y.now ≡ c.args.extension.now = search rules in
    let old : c.into_numbers.result.now ≡ x'.now = search rules in
    let extension : c.into_numbers-2.result.now ≡ y'.now = search rules in
    record {
      counts = search rules;
      found = search rules;
      old = old ∙ first_now x y x' y' f p b.0 b.1 b.2 _ _ ex ey;
      extension = extension ∙ second_now x y x' y' f p b.0 b.1 b.2 _ _ ex ey;
    }
