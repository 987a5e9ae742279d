-- No condition is left past the last.
use Rattle.std.proofs.Common.{◌≡◌, ℕ, ◌≤◌, true, List, length, drop}
use Rattle.policy.specs.declared.table.When.{When}
use Rattle.run.specs.Steps.{Gv, all_hold}
use Rattle.std.proofs.lemmas.List.{at_drop_all}

module _ (g : Gv) (cells : List ℕ) (ws : List When) (i : ℕ) where
  pub all_hold_true : length ws ≤ i → all_hold g cells (drop i ws) ≡ true
  all_hold_true l = at_drop_all (all_hold g cells) ws i l
