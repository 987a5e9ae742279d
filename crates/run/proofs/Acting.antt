-- A put that the register refuses leaves its plots.
use Rattle.std.proofs.Common.{◌≡◌, ℕ, Bool, true, false, cond, ltb, List, length, get_or, IfNone, Some, None, ◌∙◌}
use Rattle.register.specs.Plots.{with_entry}
use Rattle.std.proofs.lemmas.List.{set_past}
use Rattle.std.proofs.lemmas.Bool.{ltb-false}

module _ (plots after : List ℕ) (p v : ℕ) (is : after ≡ with_entry plots p v) where
  pub refused_at_act : (b : Bool) → ltb p (length plots) ≡ b → IfNone (cond b (Some (get_or plots p 0)) None) (after ≡ plots)
  refused_at_act true e = tt
  refused_at_act false e = is ∙ set_past plots p v (ltb-false p (length plots) e)
