use Rattle.std.proofs.Common.{◌≡◌, ◌-◌, ◌≤◌, length, get_or, sym, ◌∙◌, arith, rules}
use Rattle.tables.proofs.Trims.{trim_space, trim_other}
use Rattle.tables.proofs.name.Name.trimmed.Goals as goal

pub loop-letters-preserved : goal.loop-letters-preserved
loop-letters-preserved c =
    let xs = c.loop-letters.letters.now in
    let h : 1 ≤ length xs = search rules in
    let e : get_or xs (length xs - 1) 0 ≡ 32 = search rules in
    trim_space xs (length xs - 1) (omega arith) e ∙ c.loop-letters.invariant

pub returns-in_default-2 : goal.returns-in_default-2
returns-in_default-2 c =
    let xs = c.loop-letters.letters.now in
    let h : 1 ≤ length xs = search rules in
    let e : get_or xs (length xs - 1) 0 ≡ 32 → ⊥ = search rules in
    sym (trim_other xs (length xs - 1) (omega arith) e) ∙ c.loop-letters.invariant
