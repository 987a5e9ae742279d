use Rattle.std.proofs.Common.{◌≡◌, ◌≤◌, ◌++◌, length, drop, vec_items, vec_len, vec_capacity}
use Rattle.grounds.specs.Burials.{found_by, buried}
use Rattle.grounds.proofs.burials.bury_all.Given as goal

-- what was found so far, with what the burials that are left will find, is all that is found; and likewise the plots
abbrev pub invariant-loop-burial : goal.invariant-loop-burial
invariant-loop-burial g l =
    let meaning = g.R.Register.meaning in
    (vec_items l.found ++ found_by (meaning l.ground) (drop l.burial-index l.burials) ≡ found_by (meaning l.initial.ground) l.burials)
    × (buried (meaning l.ground) (drop l.burial-index l.burials) ≡ buried (meaning l.initial.ground) l.burials)
    × g.R.Register.stays l.initial.ground l.ground
    × (vec_len l.found ≡ l.burial-index)
    × (length l.burials ≤ vec_capacity l.found)
