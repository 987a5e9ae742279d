-- Burials recorded one after the other in the plots of a register.
use Rattle.std.specs.Prelude.{ℕ, List, [], ◌∷◌, Option}
use Rattle.register.specs.Plots.{entry_at, with_entry}
use Rattle.grounds.specs.declared.burials.Burial.{Burial}

-- what each burial finds at its plot, or nothing where there is no such plot
abbrev pub found_by : List ℕ → List Burial → List (Option ℕ)
found_by plots [] = []
found_by plots (b ∷ bs) = entry_at plots b.plot ∷ found_by (with_entry plots b.plot b.entry) bs

-- the plots after all burials
abbrev pub buried : List ℕ → List Burial → List ℕ
buried plots [] = plots
buried plots (b ∷ bs) = buried (with_entry plots b.plot b.entry) bs
