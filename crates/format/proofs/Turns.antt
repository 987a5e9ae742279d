-- The turns of a reader that goes through a file command by command.
use Rattle.std.proofs.Common.{◌≡◌, ℕ, zero, suc, ◌+◌, ◌-◌, ◌<◌, ◌≤◌, ltb, List, [], ◌∷◌, ◌++◌, length, drop, Ok, Err, Option, Result, sym, refl, ap, ◌∙◌, subst, le_of_suc-le-suc, not-suc-le-zero, add-zero, add-suc, suc-add, zero-add, arith, le-leb}
use Rattle.format.proofs.Bytes.{bytes_drop}
use Rattle.format.proofs.Places.{joined_push, places_push}
use Rattle.format.proofs.Tests.{passed}
use Rattle.format.specs.Bytes.{Bytes}
use Rattle.format.specs.Format.{Format, Holds, Passes, turn, refused_at, step_of, go, read_file, written, place_of, places_in, name_places}
use Rattle.std.proofs.lemmas.List.{length-append, length-drop}
use Rattle.std.proofs.lemmas.Bool.{cond-false, cond-true}
use Rattle.std.specs.List.{flat_map}
use borrow.Author.Tests.{lt-leb}

-- where a reader stands: what is left to read from its offset on gives what the whole file gives, and what it read is the writing of b
pub record Turn (F : Format) (file rest : List ℕ) (at : ℕ) (b : F.Whole) : Type 0 where
  pub short : length file ≤ F.longest
  pub bytes : Bytes rest
  pub same : read_file F file ≡ go F 0 rest at b
  pub so_far : F.SoFar b
  pub read : at ≡ length (written F b)
  pub left : at + length rest ≡ length file

suc_of : (n : ℕ) → 0 < n → (k : ℕ) × (n ≡ suc k)
suc_of zero h = absurd (not-suc-le-zero h)
suc_of (suc k) h = (k, refl)

module _ (F : Format) (H : Holds F) where
  -- a step that was taken: the tests are passed, and the command was obeyed and left behind
  pub record Taken (xs : List ℕ) (b a : F.Whole) (rest : List ℕ) : Type 0 where
    pub clear : Passes F b xs
    pub made : a ≡ F.obey b (F.command_at xs)
    pub behind : rest ≡ drop (F.size_at xs) xs

  pub taken : (xs : List ℕ) (b a : F.Whole) (rest : List ℕ) → Ok (a, rest) ≡ step_of F xs b → Taken xs b a rest
  taken xs b a rest e =
      let w : F.Whole × List ℕ = (a, rest) in
      let z : F.Whole × List ℕ = (F.obey b (F.command_at xs), drop (F.size_at xs) xs) in
      let h = passed b xs z 1 F.tests w e in
      record { clear = h.1; made = ap (λ (p : F.Whole × List ℕ). p.0) h.0; behind = ap (λ (p : F.Whole × List ℕ). p.1) h.0 }

  -- what a step leaves is a part of what was there, without at least one byte
  left_behind : (xs : List ℕ) (b a : F.Whole) (rest : List ℕ) → Ok (a, rest) ≡ step_of F xs b → (k : ℕ) × (suc k ≤ length xs) × (rest ≡ drop (suc k) xs)
  left_behind xs b a rest e =
      let t = taken xs b a rest e in
      let s = suc_of (F.size_at xs) (H.size xs) in
      let l = H.enough b xs t.clear in
      let j = s.1 in
      (s.0, omega arith, t.behind ∙ ap (λ (n : ℕ). drop n xs) s.1)

  pub shorter : (xs : List ℕ) (b a : F.Whole) (rest : List ℕ) → Ok (a, rest) ≡ step_of F xs b → length rest < length xs
  shorter xs b a rest e =
      let l = left_behind xs b a rest e in
      let k = l.0 in
      let h : suc k ≤ length xs = l.1 in
      let n : length rest ≡ length xs - suc k = ap length l.2 ∙ length-drop (suc k) xs in
      omega arith

  -- operands are passed over
  skip : (k : ℕ) (xs : List ℕ) (at : ℕ) (b : F.Whole) → k ≤ length xs → go F k xs at b ≡ go F 0 (drop k xs) (at + k) b
  skip zero [] at b h = ap (λ (n : ℕ). go F 0 [] n b) (sym (add-zero at))
  skip zero (x ∷ xs) at b h = ap (λ (n : ℕ). go F 0 (x ∷ xs) n b) (sym (add-zero at))
  skip (suc k) [] at b h = absurd (not-suc-le-zero h)
  skip (suc k) (x ∷ xs) at b h = skip k xs (suc at) b (le_of_suc-le-suc h) ∙ ap (λ (n : ℕ). go F 0 (drop k xs) n b) (suc-add at k ∙ sym (add-suc at k))

  pub goes_on : (xs : List ℕ) (at : ℕ) (b a : F.Whole) (rest : List ℕ) → 0 < length xs → Ok (a, rest) ≡ step_of F xs b → go F 0 xs at b ≡ go F 0 rest (at + (length xs - length rest)) a
  goes_on [] at b a rest h e = absurd (not-suc-le-zero h)
  goes_on (x ∷ xs) at b a rest h e =
      let l = left_behind (x ∷ xs) b a rest e in
      let k = l.0 in
      let r : rest ≡ drop k xs = l.2 in
      let n : length rest ≡ length xs - k = ap length r ∙ length-drop k xs in
      let m : k ≤ length xs = le_of_suc-le-suc l.1 in
      let i : length xs - length rest ≡ k = omega arith in
      let j : suc at + k ≡ at + (suc (length xs) - length rest) = omega arith in
      ap (λ (o : Result (F.Whole × List ℕ) ℕ). turn o at (length xs) (λ q d. go F q xs (suc at) d)) (sym e)
      ∙ ap (λ (q : ℕ). go F q xs (suc at) a) i
      ∙ skip k xs (suc at) a m
      ∙ ap (λ (q : List ℕ). go F 0 q (suc at + k) a) (sym r)
      ∙ ap (λ (q : ℕ). go F 0 rest q a) j

  pub stops : (xs : List ℕ) (at : ℕ) (b : F.Whole) (n : ℕ) → 0 < length xs → Err n ≡ step_of F xs b → go F 0 xs at b ≡ Err (refused_at n at)
  stops [] at b n h e = absurd (not-suc-le-zero h)
  stops (x ∷ xs) at b n h e = ap (λ (o : Result (F.Whole × List ℕ) ℕ). turn o at (length xs) (λ q d. go F q xs (suc at) d)) (sym e)

  pub short_file : (file : List ℕ) → length file ≤ F.longest → read_file F file ≡ go F 0 file 0 F.empty
  short_file file h = cond-false (ltb F.longest (length file)) (Err (refused_at 4 0)) (go F 0 file 0 F.empty) (lt-leb (suc F.longest) (length file) (omega arith))

  -- The turns as a reader's loop takes them.

  -- a file that is too long is refused before the first turn
  pub long_file : (file : List ℕ) → F.longest < length file → read_file F file ≡ Err (refused_at 4 0)
  long_file file h = cond-true (ltb F.longest (length file)) (Err (refused_at 4 0)) (go F 0 file 0 F.empty) (le-leb (suc F.longest) (length file) h)

  module _ (file rest : List ℕ) (at : ℕ) (b : F.Whole) (t : Turn F file rest at b) where
    -- the places of names after a step: those before it, and that of the command's own name where it has one
    pub turn_places : (behind : F.Command → Option ℕ) (a : F.Whole) (after : List ℕ) → Ok (a, after) ≡ step_of F rest b → name_places F behind a ≡ name_places F behind b ++ place_of (behind (F.command_at rest)) at
    turn_places behind a after e =
        let k = taken rest b a after e in
        let m = H.keeps b rest k.clear t.so_far in
        ap (name_places F behind) k.made
        ∙ ap (places_in F.bytes_of behind 0) m.1
        ∙ places_push F.bytes_of behind 0 (F.commands_of b) (F.command_at rest)
        ∙ ap (λ (n : ℕ). name_places F behind b ++ place_of (behind (F.command_at rest)) n) (zero-add (length (written F b)) ∙ sym t.read)

    -- a step that was taken
    pub next_turn : (a : F.Whole) (after : List ℕ) → 0 < length rest → Ok (a, after) ≡ step_of F rest b → Turn F file after (at + (length rest - length after)) a
    next_turn a after h e =
        let k = taken rest b a after e in
        let c = F.command_at rest in
        let m = H.keeps b rest k.clear t.so_far in
        let s = shorter rest b a after e in
        let w : written F (F.obey b c) ≡ written F b ++ F.bytes_of c = ap (flat_map F.bytes_of) m.1 ∙ joined_push F.bytes_of (F.commands_of b) c in
        let d : rest ≡ F.bytes_of c ++ after = H.back b rest t.bytes k.clear ∙ ap (λ (l : List ℕ). F.bytes_of c ++ l) (sym k.behind) in
        let p : length rest ≡ length (F.bytes_of c) + length after = ap length d ∙ length-append (F.bytes_of c) after in
        let q : length (written F a) ≡ length (written F b) + length (F.bytes_of c) = ap (λ (x : F.Whole). length (written F x)) k.made ∙ ap length w ∙ length-append (written F b) (F.bytes_of c) in
        let i = t.read in
        let j = t.left in
        record { short = t.short; bytes = subst Bytes (sym k.behind) (bytes_drop (F.size_at rest) rest t.bytes); same = t.same ∙ goes_on rest at b a after h e; so_far = subst F.SoFar (sym k.made) m.0; read = omega arith; left = omega arith }

    -- a step that was refused
    pub last_turn : (n : ℕ) → 0 < length rest → Err n ≡ step_of F rest b → read_file F file ≡ Err (refused_at n at)
    last_turn n h e = t.same ∙ stops rest at b n h e
