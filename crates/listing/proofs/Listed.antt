-- Lines that a chain makes of the elements of a slice with their numbers.
use Rattle.std.proofs.Common.{◌≡◌, ℕ, ◌+◌, List, [], ◌∷◌, map, refl, ap, ◌∙◌, subst, Bor}
use Rattle.listing.specs.Lines.{lines_from}
use Rattle.listing.specs.declared.lines.Line.{Line}
use Rattle.std.proofs.iter.Yields.{fronts}
use Rattle.std.proofs.lemmas.Iterator.Consumers.{YieldsList-from_enumerate}
use Rattle.std.proofs.lemmas.Iterator.{YieldsList, YieldsList-from_slice, YieldsList-from_map, maps}
use Rattle.std.specs.Fn.{Called}
use Rattle.std.specs.Iterator.Adapters.{map_source, map_callee, enumerate_source, enumerate_count, enumerate_steps}
use Rattle.std.specs.List.{enumerate_from}
use Rattle.std.specs.Slice.Iter.{iter_rest}
use denote.Param.Members.{Mut}

module _ {A X : Type 0} (view : A → X) (f : ℕ → X → Line) where
  -- the line of an element with its number
  abbrev pub line_at : ℕ × A → Line
  line_at p = f p.0 (view p.1)

  lines_are : (k : ℕ) (xs : List A) → map line_at (enumerate_from k xs) ≡ lines_from f k (map view xs)
  lines_are k [] = refl
  lines_are k (x ∷ xs) = ap (λ (l : List Line). f k (view x) ∷ l) (lines_are (k + 1) xs)

  -- the chain gives a line of each
  pub numbered : {F : Type 0} {g : Mut F ((ℕ × Bor A) × Unit {0}) Line} {s : _} {h : F} (xs : List A) (ys : List X) → map view xs ≡ ys → iter_rest (enumerate_source (map_source s)) ≡ xs → enumerate_count (map_source s) ≡ 0 → map_callee s ≡ h → ((x : ℕ × Bor A) (r : Line) (q : F) → Called g h (x, tt) r q → (q ≡ h) × (r ≡ line_at (x.0, x.1.now))) → YieldsList (maps (enumerate_steps fronts) g) (λ r. r) s (lines_from f 0 ys)
  numbered {g = g} {s = s} xs ys same rest none callee called =
      subst (YieldsList (maps (enumerate_steps fronts) g) (λ r. r) s) (lines_are 0 xs ∙ ap (lines_from f 0) same) (YieldsList-from_map g line_at (YieldsList-from_enumerate (YieldsList-from_slice xs rest) none) callee called)
