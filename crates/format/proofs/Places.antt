-- The places of names in commands that are written one after the other.
use Rattle.std.proofs.Common.{◌≡◌, ℕ, ◌+◌, List, [], ◌∷◌, ◌++◌, map, length, take, drop, None, Option, sym, refl, ap, ◌∙◌, subst₂, add-zero, add_assoc}
use Rattle.format.specs.Format.{place_of, places_in, Stand}
use Rattle.std.proofs.lemmas.List.{length-append, append-nil, append_assoc, drop-drop, drop_at}
use Rattle.std.specs.List.{flat_map}

-- the bytes of two lists of commands
pub joined_append : {C : Type 0} (f : C → List ℕ) (cs ds : List C) → flat_map f (cs ++ ds) ≡ flat_map f cs ++ flat_map f ds
joined_append f [] ds = refl
joined_append f (c ∷ cs) ds = ap (λ (l : List ℕ). f c ++ l) (joined_append f cs ds) ∙ sym (append_assoc (f c) (flat_map f cs) (flat_map f ds))

-- the bytes of one command more
pub joined_push : {C : Type 0} (f : C → List ℕ) (cs : List C) (c : C) → flat_map f (cs ++ c ∷ []) ≡ flat_map f cs ++ f c
joined_push f cs c = joined_append f cs (c ∷ []) ∙ ap (λ (l : List ℕ). flat_map f cs ++ l) (append-nil (f c))

module _ {C : Type 0} (f : C → List ℕ) (behind : C → Option ℕ) where
  -- the second of two lists begins where the first ends
  pub places_append : (at : ℕ) (cs ds : List C) → places_in f behind at (cs ++ ds) ≡ places_in f behind at cs ++ places_in f behind (at + length (flat_map f cs)) ds
  places_append at [] ds = ap (λ (n : ℕ). places_in f behind n ds) (sym (add-zero at))
  places_append at (c ∷ cs) ds =
      let on = at + length (f c) in
      let i : on + length (flat_map f cs) ≡ at + length (f c ++ flat_map f cs) = add_assoc at (length (f c)) (length (flat_map f cs)) ∙ ap (λ (n : ℕ). at + n) (sym (length-append (f c) (flat_map f cs))) in
      ap (λ (l : List ℕ). place_of (behind c) at ++ l) (places_append on cs ds ∙ ap (λ (n : ℕ). places_in f behind on cs ++ places_in f behind n ds) i)
      ∙ sym (append_assoc (place_of (behind c) at) (places_in f behind on cs) (places_in f behind (at + length (f c ++ flat_map f cs)) ds))

  -- the place of a name in one command more
  pub places_push : (at : ℕ) (cs : List C) (c : C) → places_in f behind at (cs ++ c ∷ []) ≡ places_in f behind at cs ++ place_of (behind c) (at + length (flat_map f cs))
  places_push at cs c = places_append at cs (c ∷ []) ∙ ap (λ (l : List ℕ). places_in f behind at cs ++ l) (append-nil (place_of (behind c) (at + length (flat_map f cs))))

  -- the commands have no such name
  abbrev pub Quiet : List C → Type 0
  Quiet cs = (at : ℕ) → places_in f behind at cs ≡ []

  pub quiet_append : (cs ds : List C) → Quiet cs → Quiet ds → Quiet (cs ++ ds)
  quiet_append cs ds p q at = places_append at cs ds ∙ ap (λ (l : List ℕ). l ++ places_in f behind (at + length (flat_map f cs)) ds) (p at) ∙ q (at + length (flat_map f cs))

  pub quiet_map : {X : Type 0} (g : X → C) → ((x : X) → behind (g x) ≡ None) → (xs : List X) → Quiet (map g xs)
  quiet_map g e [] at = refl
  quiet_map g e (x ∷ xs) at = ap (λ (o : Option ℕ). place_of o at ++ places_in f behind (at + length (f (g x))) (map g xs)) (e x) ∙ quiet_map g e xs (at + length (f (g x)))

  pub quiet_joined : {X : Type 0} (g : X → List C) → ((x : X) → Quiet (g x)) → (xs : List X) → Quiet (flat_map g xs)
  quiet_joined g q [] = λ at. refl
  quiet_joined g q (x ∷ xs) = quiet_append (g x) (flat_map g xs) (q x) (quiet_joined g q xs)

  -- each x is written by commands that have one such name, k bytes behind their first
  module _ {X : Type 0} (g : X → List C) (name : X → List ℕ) (k : ℕ) where
    pub record Named (x : X) : Type 0 where
      pub once : (at : ℕ) → places_in f behind at (g x) ≡ (at + k) ∷ []
      pub there : (rest : List ℕ) → take (length (name x)) (drop k (flat_map f (g x) ++ rest)) ≡ name x

    pub names_stand : ((x : X) → Named x) → (xs : List X) (pre post : List ℕ) → Stand (pre ++ (flat_map f (flat_map g xs) ++ post)) (places_in f behind (length pre) (flat_map g xs)) (map name xs)
    names_stand h [] pre post = tt
    names_stand h (x ∷ xs) pre post =
        let a = flat_map f (g x) in
        let b = flat_map f (flat_map g xs) in
        let n = h x in
        let e : flat_map f (g x ++ flat_map g xs) ++ post ≡ a ++ (b ++ post) = ap (λ (l : List ℕ). l ++ post) (joined_append f (g x) (flat_map g xs)) ∙ append_assoc a b post in
        let file : (pre ++ a) ++ (b ++ post) ≡ pre ++ (flat_map f (g x ++ flat_map g xs) ++ post) = append_assoc pre a (b ++ post) ∙ ap (λ (l : List ℕ). pre ++ l) (sym e) in
        let places : (length pre + k) ∷ places_in f behind (length (pre ++ a)) (flat_map g xs) ≡ places_in f behind (length pre) (g x ++ flat_map g xs) = ap (λ (i : ℕ). (length pre + k) ∷ places_in f behind i (flat_map g xs)) (length-append pre a) ∙ ap (λ (l : List ℕ). l ++ places_in f behind (length pre + length a) (flat_map g xs)) (sym (n.once (length pre))) ∙ sym (places_append (length pre) (g x) (flat_map g xs)) in
        let here : drop (length pre + k) ((pre ++ a) ++ (b ++ post)) ≡ drop k (a ++ (b ++ post)) = sym (drop-drop k (length pre) ((pre ++ a) ++ (b ++ post))) ∙ ap (λ (l : List ℕ). drop k (drop (length pre) l)) (append_assoc pre a (b ++ post)) ∙ ap (drop k) (drop_at pre (a ++ (b ++ post)) (length pre) refl) in
        subst₂ (λ (l ps : List ℕ). Stand l ps (map name (x ∷ xs))) file places (ap (take (length (name x))) here ∙ n.there (b ++ post), names_stand h xs (pre ++ a) post)
