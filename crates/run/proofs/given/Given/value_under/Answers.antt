use Rattle.run.proofs.Filling.{value_in, value_found, value_read}
use Rattle.run.proofs.given.Given.value_under.Goals as goal
use Rattle.std.proofs.Common.{◌≡◌, ℕ, Bool, eqb, Bor, MatchOption, rules, tests, ap, ◌∙◌}
use Rattle.std.proofs.lemmas.Iterator.Search.{find_from_yields_List}
use Rattle.std.proofs.lemmas.Iterator.{YieldsList-from_slice, YieldsList-from_zip}
use Rattle.std.specs.List.{find, zip}
use Rattle.std.specs.Option.{option_map}

pub returns : goal.returns
returns c =
    let fs = c.args.self.now.fields.now in
    let vs = c.args.self.now.values.now in
    let test : ℕ × ℕ → Bool = λ p. eqb p.0 c.args.mark in
    let at : Bor ℕ × Bor ℕ → ℕ × ℕ = λ p. (p.0.now, p.1.now) in
    let pairs = YieldsList-from_zip (YieldsList-from_slice {s = c.zip.result.a} fs cc) (YieldsList-from_slice {s = c.zip.result.b} vs cc) in
    let found : option_map at c.find.result ≡ find test (zip fs vs) = find_from_yields_List test c.find.new.self _ c.find.result c.find.ensures.ran pairs (λ x b q k. search (rules, tests)) in
    let read : MatchOption c.find.result (c.map_or.result ≡ 0) (λ p. c.map_or.result ≡ p.1.now) = search rules in
    value_read c.find.result c.map_or.result read ∙ ap value_in found ∙ value_found fs vs c.args.mark
