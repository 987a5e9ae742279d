-- The law of reading, for every format that shows what it has to.
use Rattle.std.proofs.Common.{◌≡◌, ℕ, zero, suc, ◌+◌, ◌-◌, ◌<◌, ◌≤◌, Bool, true, false, cond, ltb, List, [], ◌∷◌, ◌++◌, length, drop, Ok, Err, Result, sym, refl, ap, ◌∙◌, subst, subst₂, not-suc-le-zero, add-zero, zero-add, arith, leb-false, leb-true}
use Rattle.format.proofs.Bytes.{bytes_drop}
use Rattle.format.proofs.Places.{joined_push}
use Rattle.format.proofs.Tests.{failed, fails}
use Rattle.format.proofs.Turns.{taken, shorter, goes_on, stops, short_file, long_file}
use Rattle.format.specs.Bytes.{Bytes}
use Rattle.format.specs.Format.Because.{too_long, stopped, left_open}
use Rattle.format.specs.Format.{Format, Holds, Runs, Stops, refused_at, step_of, go, read_file, written, Writes, Begins, Stopped, Because, Accepts, Refuses, OneWriting, answer_of, whole_left}
use Rattle.format.specs.Refusals.{At}
use Rattle.std.proofs.lemmas.List.{length-append, length-drop, length-take-le, append-nil, append_assoc, take-append-drop, take_at, drop_at}
use Rattle.std.proofs.lemmas.Bool.{cond-false, cond-true}
use Rattle.std.specs.List.{flat_map}

module _ (F : Format) (H : Holds F) where
  abbrev Step : Type 0
  Step = F.Whole × List ℕ

  abbrev pair : List ℕ → F.Whole → Step
  pair xs b = (F.obey b (F.command_at xs), drop (F.size_at xs) xs)

  -- What is read is what was written.

  go_runs : (cs : List F.Command) (b a : F.Whole) (rest : List ℕ) (at : ℕ) → Runs F cs b a → go F 0 (flat_map F.bytes_of cs ++ rest) at b ≡ go F 0 rest (at + length (flat_map F.bytes_of cs)) a
  go_runs [] b a rest at h = ap (λ (i : ℕ). go F 0 rest i b) (sym (add-zero at)) ∙ ap (go F 0 rest (at + 0)) h
  go_runs (c ∷ cs) b a rest at h =
      let j = flat_map F.bytes_of cs in
      let k = H.some c in
      let l = length-append (F.bytes_of c) (j ++ rest) in
      let e : (at + (length (F.bytes_of c ++ (j ++ rest)) - length (j ++ rest))) + length j ≡ at + length (F.bytes_of c ++ j) = omega (arith, length-append (F.bytes_of c) j) in
      ap (λ (l : List ℕ). go F 0 l at b) (append_assoc (F.bytes_of c) j rest)
      ∙ goes_on F H (F.bytes_of c ++ (j ++ rest)) at b (F.obey b c) (j ++ rest) (omega arith) (sym (h.0 (j ++ rest)))
      ∙ go_runs cs (F.obey b c) a rest (at + (length (F.bytes_of c ++ (j ++ rest)) - length (j ++ rest))) h.1
      ∙ ap (λ (i : ℕ). go F 0 rest i a) e

  reads_on : (b : F.Whole) (rest : List ℕ) → F.SoFar b → go F 0 (written F b ++ rest) 0 F.empty ≡ go F 0 rest (length (written F b)) b
  reads_on b rest h = go_runs (F.commands_of b) F.empty b rest 0 (H.complete b h) ∙ ap (λ (i : ℕ). go F 0 rest i b) (zero-add (length (written F b)))

  begun : (file : List ℕ) (b : F.Whole) → Begins F b file → read_file F file ≡ cond (F.unfinished b) (Err (refused_at 9 (length file))) (Ok b)
  begun file b w =
      let k = H.bounded b w.so_far in
      let i : length file ≡ length (written F b) = ap length w.is in
      short_file F H file (omega arith) ∙ ap (λ (l : List ℕ). go F 0 l 0 F.empty) (w.is ∙ sym (append-nil (written F b))) ∙ reads_on b [] w.so_far ∙ ap (λ (n : ℕ). go F 0 [] n b) (sym i)

  is_read : (file : List ℕ) (b : F.Whole) → Writes F b file → read_file F file ≡ Ok b
  is_read file b w =
      let c = H.closed b w.lawful in
      let v : Begins F b file = record { so_far = c.0; is = w.is } in
      begun file b v ∙ cond-false (F.unfinished b) (Err (refused_at 9 (length file))) (Ok b) c.1

  is_stopped : (file : List ℕ) (n o : ℕ) → Stopped F file n o → read_file F file ≡ Err (refused_at n o)
  is_stopped file n o s =
      let b = s.whole in
      let xs = drop o file in
      let w = s.up_to in
      let l = length-drop o file in
      let k = s.more in
      let e : file ≡ written F b ++ xs = sym (take-append-drop o file) ∙ ap (λ (p : List ℕ). p ++ xs) w.is in
      let i : length (written F b) ≡ o = ap length (sym w.is) ∙ length-take-le o file (omega arith) in
      let f : step_of F xs b ≡ Err n = fails b xs (pair xs b) F.tests n s.there in
      short_file F H file s.short ∙ ap (λ (l : List ℕ). go F 0 l 0 F.empty) e ∙ reads_on b xs w.so_far ∙ stops F H xs (length (written F b)) b n (omega arith) (sym f) ∙ ap (λ (m : ℕ). Err (refused_at n m)) i

  refusal_is : (n m o p : ℕ) → n ≡ m → o ≡ p → ◌≡◌ {A = Result F.Whole At} (Err (refused_at m p)) (Err (refused_at n o))
  refusal_is n m o p e f = ap (λ (k : ℕ). Err (refused_at k p)) (sym e) ∙ ap (λ (k : ℕ). Err (refused_at n k)) (sym f)

  is_refused : (file : List ℕ) (n o : ℕ) → Because F file n o → read_file F file ≡ Err (refused_at n o)
  is_refused file n o (too_long h p q) = long_file F H file h ∙ refusal_is n 4 o 0 p q
  is_refused file n o (stopped s) = is_stopped file n o s
  is_refused file n o (left_open s p q) = begun file s.whole s.up_to ∙ cond-true (F.unfinished s.whole) (Err (refused_at 9 (length file))) (Ok s.whole) s.there ∙ refusal_is n 9 o (length file) p q

  -- What was read was written so, and what was refused was refused because of that.

  abbrev Sound : List ℕ → Result F.Whole At → Type 0
  Sound file (Ok b) = Writes F b file
  Sound file (Err e) = length file ≤ F.longest → Because F file e.number e.offset

  more : (pre xs : List ℕ) (b a : F.Whole) (rest : List ℕ) → Bytes xs → Begins F b pre → Ok (a, rest) ≡ step_of F xs b → (new : List ℕ) × (xs ≡ new ++ rest) × Bytes rest × Begins F a (pre ++ new)
  more pre xs b a rest bs w e =
      let c = F.command_at xs in
      let k = taken F H xs b a rest e in
      let m = H.keeps b xs k.clear w.so_far in
      let v : Begins F (F.obey b c) (pre ++ F.bytes_of c) = record { so_far = m.0; is = ap (λ (l : List ℕ). l ++ F.bytes_of c) w.is ∙ sym (joined_push F.bytes_of (F.commands_of b) c) ∙ ap (flat_map F.bytes_of) (sym m.1) } in
      (F.bytes_of c, H.back b xs bs k.clear ∙ ap (λ (l : List ℕ). F.bytes_of c ++ l) (sym k.behind), subst Bytes (sym k.behind) (bytes_drop (F.size_at xs) xs bs), subst (λ (d : F.Whole). Begins F d (pre ++ F.bytes_of c)) (sym k.made) v)

  halted : (pre xs : List ℕ) (b : F.Whole) (n : ℕ) → 0 < length xs → Begins F b pre → Err n ≡ step_of F xs b → length (pre ++ xs) ≤ F.longest → Stopped F (pre ++ xs) n (length pre)
  halted pre xs b n l w e k = record { short = k; more = omega (arith, length-append pre xs); whole = b; up_to = subst (Begins F b) (sym (take_at pre xs (length pre) refl)) w; there = subst (Stops F.tests n b) (sym (drop_at pre xs (length pre) refl)) (failed b xs (pair xs b) F.tests n e) }

  at_end : (pre : List ℕ) (b : F.Whole) → Begins F b pre → (t : Bool) → F.unfinished b ≡ t → Sound pre (cond t (Err (refused_at 9 (length pre))) (Ok b))
  at_end pre b w true u = λ k. left_open (record { whole = b; up_to = w; there = u }) refl refl
  at_end pre b w false u = record { lawful = H.ended b w.so_far u; is = w.is }

  sound : (n : ℕ) (pre xs : List ℕ) (b : F.Whole) → length xs ≤ n → Bytes xs → Begins F b pre → Sound (pre ++ xs) (go F 0 xs (length pre) b)
  sound n pre [] b h bs w = subst (λ (l : List ℕ). Sound l (go F 0 [] (length pre) b)) (sym (append-nil pre)) (at_end pre b w (F.unfinished b) refl)
  sound zero pre (x ∷ xs) b h bs w = absurd (not-suc-le-zero h)
  sound (suc n) pre (x ∷ xs) b h bs w = at (step_of F (x ∷ xs) b) refl (sound n)
    where
      at : (r : Result Step ℕ) → r ≡ step_of F (x ∷ xs) b → ((pre' xs' : List ℕ) (b' : F.Whole) → length xs' ≤ n → Bytes xs' → Begins F b' pre' → Sound (pre' ++ xs') (go F 0 xs' (length pre') b')) → Sound (pre ++ x ∷ xs) (go F 0 (x ∷ xs) (length pre) b)
      at (Err m) e f = subst (Sound (pre ++ x ∷ xs)) (sym (stops F H (x ∷ xs) (length pre) b m (omega arith) e)) (λ k. stopped (halted pre (x ∷ xs) b m (omega arith) w e k))
      at (Ok p) e f =
          let m = more pre (x ∷ xs) b p.0 p.1 bs w e in
          let new = m.0 in
          let rest = p.1 in
          let l = length-append new rest in
          let j : length rest < suc (length xs) = shorter F H (x ∷ xs) b p.0 rest e in
          let q : suc (length xs) ≡ length (new ++ rest) = ap length m.1 in
          let i : length pre + (suc (length xs) - length rest) ≡ length (pre ++ new) = omega (arith, length-append pre new) in
          let g = goes_on F H (x ∷ xs) (length pre) b p.0 rest (omega arith) e ∙ ap (λ (k : ℕ). go F 0 rest k p.0) i in
          let o = ap (λ (k : List ℕ). pre ++ k) m.1 ∙ sym (append_assoc pre new rest) in
          let s : Sound ((pre ++ new) ++ rest) (go F 0 rest (length (pre ++ new)) p.0) = f (pre ++ new) rest p.0 (omega arith) m.2 m.3 in
          subst (λ (k : List ℕ). Sound k (go F 0 (x ∷ xs) (length pre) b)) (sym o) (subst (Sound ((pre ++ new) ++ rest)) (sym g) s)

  empty_begins : Begins F F.empty []
  empty_begins = record { so_far = H.start; is = sym (ap (flat_map F.bytes_of) H.nothing) }

  abbrev Told : List ℕ → Result F.Whole At → Type 0
  Told file (Ok b) = Writes F b file
  Told file (Err e) = Because F file e.number e.offset

  from_sound : (file : List ℕ) (o : Result F.Whole At) → length file ≤ F.longest → Sound file o → Told file o
  from_sound file (Ok b) h s = s
  from_sound file (Err e) h s = s h

  told_at : (file : List ℕ) → Bytes file → (t : Bool) → ltb F.longest (length file) ≡ t → Told file (cond t (Err (refused_at 4 0)) (go F 0 file 0 F.empty))
  told_at file bs true e = too_long (leb-true (suc F.longest) (length file) e) refl refl
  told_at file bs false e = from_sound file (go F 0 file 0 F.empty) (omega (arith, leb-false (suc F.longest) (length file) e)) (sound (length file) [] file F.empty (omega arith) bs empty_begins)

  told : (file : List ℕ) → Bytes file → Told file (read_file F file)
  told file bs = told_at file bs (ltb F.longest (length file)) refl

  found : (file : List ℕ) (o : Result F.Whole At) → Told file o → answer_of o ≡ Ok tt → Writes F (whole_left F o) file
  found file (Ok b) s e = s
  found file (Err x) s e = let z : ◌≡◌ {A = ℕ} 0 1 = cc in absurd (omega arith)

  lost : (file : List ℕ) (o : Result F.Whole At) → Told file o → (x : At) → answer_of o ≡ Err x → Because F file x.number x.offset
  lost file (Ok b) s x e = let z : ◌≡◌ {A = ℕ} 0 1 = cc in absurd (omega arith)
  lost file (Err y) s x e = let i : y ≡ x = cc in subst (λ (q : At). Because F file q.number q.offset) i s

  -- The law.

  -- a reader that answers and leaves what the file reads as accepts as it should
  pub accepts : (file : List ℕ) → Bytes file → (r : Result (Unit {0}) At) (b : F.Whole) → r ≡ answer_of (read_file F file) → b ≡ whole_left F (read_file F file) → Accepts F file r b
  accepts file bs r b p q = subst₂ (Accepts F file) (sym p) (sym q) (found file (read_file F file) (told file bs), λ c w. let e = is_read file c w in (ap answer_of e, ap (whole_left F) e))

  -- and refuses as it should
  pub refuses : (file : List ℕ) → Bytes file → (r : Result (Unit {0}) At) → r ≡ answer_of (read_file F file) → Refuses F file r
  refuses file bs r p = subst (Refuses F file) (sym p) (λ n o. (λ h. lost file (read_file F file) (told file bs) (refused_at n o) h, λ s. ap answer_of (is_refused file n o s)))

  -- what holds of the empty whole, and of the whole whose writing the file is, holds of what a reader leaves
  pub of_left : (file : List ℕ) → Bytes file → (P : F.Whole → Type 0) → P F.empty → ((b : F.Whole) → Writes F b file → P b) → P (whole_left F (read_file F file))
  of_left file bs P p f = at (read_file F file) (told file bs)
    where
      at : (o : Result F.Whole At) → Told file o → P (whole_left F o)
      at (Ok b) s = f b s
      at (Err e) s = p

  -- no two lawful wholes have one writing, since it is read as each of them
  pub one_writing : OneWriting F
  one_writing b c h k e =
      let p : read_file F (written F b) ≡ Ok b = is_read (written F b) b (record { lawful = h; is = refl }) in
      let q : read_file F (written F b) ≡ Ok c = is_read (written F b) c (record { lawful = k; is = e }) in
      ap (whole_left F) (sym p ∙ q)
