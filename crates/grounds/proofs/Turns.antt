-- One burial more, and the end of all burials.
use Rattle.std.proofs.Common.{◌≡◌, ℕ, ◌+◌, ◌<◌, ◌≤◌, List, [], ◌∷◌, ◌++◌, length, get_or, drop, Option, sym, ◌∙◌}
use Rattle.std.proofs.lemmas.List.{drop_more, drop_all, append_assoc, append-nil}
use Rattle.register.specs.Plots.{entry_at, with_entry}
use Rattle.grounds.specs.declared.burials.Burial.{Burial}
use Rattle.grounds.specs.Burials.{found_by, buried}

-- what is read past the end of the burials
abbrev pub none : Burial
none = record { plot = 0; entry = 0 }

-- burial i is recorded where the plots are ps, which makes them qs
module _ (bs : List Burial) (i : ℕ) (ps qs : List ℕ) (h : i < length bs) (e : qs ≡ with_entry ps (get_or bs i none).plot (get_or bs i none).entry) where
  pub found_turn : (found found' all : List (Option ℕ)) (r : Option ℕ) → found' ≡ found ++ r ∷ [] → r ≡ entry_at ps (get_or bs i none).plot → found ++ found_by ps (drop i bs) ≡ all → found' ++ found_by qs (drop (i + 1) bs) ≡ all
  found_turn found found' all r f g inv = rw (f, append_assoc, g, e) (rw (drop_more bs i none h) at inv)

  pub plots_turn : (all : List ℕ) → buried ps (drop i bs) ≡ all → buried qs (drop (i + 1) bs) ≡ all
  plots_turn all inv = rw e (rw (drop_more bs i none h) at inv)

module _ (bs : List Burial) (i : ℕ) (ps : List ℕ) (h : length bs ≤ i) where
  pub found_end : (found all : List (Option ℕ)) → found ++ found_by ps (drop i bs) ≡ all → found ≡ all
  found_end found all inv = sym (append-nil found) ∙ rw (drop_all i bs h) at inv

  pub plots_end : (all : List ℕ) → buried ps (drop i bs) ≡ all → ps ≡ all
  plots_end all inv = rw (drop_all i bs h) at inv
