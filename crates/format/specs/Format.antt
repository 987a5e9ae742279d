-- What it is to read a file of commands, of any format: the reading that computes, and the law in words of its own.
use Rattle.std.specs.Prelude.{◌≡◌, ℕ, zero, suc, ◌+◌, ◌-◌, ◌<◌, ◌≤◌, Bool, true, false, cond, List, [], ◌∷◌, ◌++◌, length, take, drop, Some, None, Ok, Err, Option, Result, nat_lt, slice_index_or}
use Rattle.std.specs.List.{flat_map, AllByRecursion}
use Rattle.format.specs.Bytes.{Bytes}
use Rattle.format.specs.Refusals.{At}

-- a format: what it is to read, to obey and to write the commands of a kind of file
pub record Format : Type 1 where
  -- what is read, and one command of it
  pub Whole : Type 0
  pub Command : Type 0
  -- the whole of an empty file
  pub empty : Whole
  -- what may speak against the command at the front of some bytes, in the order of the refusals' numbers from 1 on
  pub tests : List (Whole → List ℕ → Bool)
  -- the command at the front of some bytes, and how many bytes it takes
  pub command_at : List ℕ → Command
  pub size_at : List ℕ → ℕ
  -- what a command that no test speaks against makes of a whole
  pub obey : Whole → Command → Whole
  -- whether a file may not end so
  pub unfinished : Whole → Bool
  -- the greatest length of a file
  pub longest : ℕ
  -- a command's bytes, and a whole's commands in the order of its file
  pub bytes_of : Command → List ℕ
  pub commands_of : Whole → List Command
  -- the wholes that a lawful file may have come to so far, and those of a lawful file
  pub SoFar : Whole → Type 0
  pub Lawful : Whole → Type 0

-- The reading.

-- z, or the number of the first test that speaks against it, counted from n
abbrev pub unless : {X Y Z : Type 0} → ℕ → List (X → Y → Bool) → X → Y → Z → Result Z ℕ
unless n [] x y z = Ok z
unless n (t ∷ ts) x y z = cond (t x y) (Err n) (unless (suc n) ts x y z)

-- the refusal with that number at that offset
abbrev pub refused_at : ℕ → ℕ → At
refused_at n at = record { number = n; offset = at }

-- the command at the front of xs: the whole that it makes of b and the bytes behind it, or the number of the first test that it fails
abbrev pub step_of : (F : Format) → List ℕ → F.Whole → Result (F.Whole × List ℕ) ℕ
step_of F xs b = unless 1 F.tests b xs (F.obey b (F.command_at xs), drop (F.size_at xs) xs)

-- what a step at an offset leads to: f of how many of the n bytes behind the first are operands, and of the whole made; or the refusal there
abbrev pub turn : {W : Type 0} → Result (W × List ℕ) ℕ → ℕ → ℕ → (ℕ → W → Result W At) → Result W At
turn (Ok p) at n f = f (n - length p.1) p.0
turn (Err e) at n f = Err (refused_at e at)

-- the bytes from an offset on, of which the first k are operands still to pass, read onto b
abbrev pub go : (F : Format) → ℕ → List ℕ → ℕ → F.Whole → Result F.Whole At
go F k [] at b = cond (F.unfinished b) (Err (refused_at 9 at)) (Ok b)
go F zero (x ∷ xs) at b = turn (step_of F (x ∷ xs) b) at (length xs) (λ k a. go F k xs (suc at) a)
go F (suc k) (x ∷ xs) at b = go F k xs (suc at) b

-- a file read: the whole, or the refusal
abbrev pub read_file : (F : Format) → List ℕ → Result F.Whole At
read_file F file = cond (nat_lt F.longest (length file)) (Err (refused_at 4 0)) (go F 0 file 0 F.empty)

-- what a reader answers
abbrev pub answer_of : {W : Type 0} → Result W At → Result (Unit {0}) At
answer_of (Ok b) = Ok tt
answer_of (Err e) = Err e

-- the whole that a reader leaves: what it read, or that of an empty file
abbrev pub whole_left : (F : Format) → Result F.Whole At → F.Whole
whole_left F (Ok b) = b
whole_left F (Err e) = F.empty

-- The law: nothing is read here.

-- how a whole is written
abbrev pub written : (F : Format) → F.Whole → List ℕ
written F b = flat_map F.bytes_of (F.commands_of b)

-- the file is the writing of the lawful whole b
pub record Writes (F : Format) (b : F.Whole) (file : List ℕ) : Type 0 where
  pub lawful : F.Lawful b
  pub is : file ≡ written F b

-- xs is the beginning of a lawful file, which has come to b so far
pub record Begins (F : Format) (b : F.Whole) (xs : List ℕ) : Type 0 where
  pub so_far : F.SoFar b
  pub is : xs ≡ written F b

-- the test that speaks against nothing
abbrev pub never : {X Y : Type 0} → X → Y → Bool
never x y = false

-- the test with the number n: there is none with the number 0 or past the last
abbrev pub test : {X Y : Type 0} → List (X → Y → Bool) → ℕ → X → Y → Bool
test ts n = slice_index_or (never ∷ ts) n never

-- n is the first of the numbered tests that is failed
abbrev pub Stops : {X Y : Type 0} → List (X → Y → Bool) → ℕ → X → Y → Type 0
Stops ts n x y = (test ts n x y ≡ true) × ((j : ℕ) → j < n → test ts j x y ≡ false)

-- what stands before offset o is the beginning of a lawful file, and n is the first of the numbered tests that the command at o fails
pub record Stopped (F : Format) (file : List ℕ) (n o : ℕ) : Type 0 where
  pub short : length file ≤ F.longest
  pub more : o < length file
  pub whole : F.Whole
  pub up_to : Begins F whole (take o file)
  pub there : Stops F.tests n whole (drop o file)

-- the file is the beginning of a lawful file and may not end so
pub record Open (F : Format) (file : List ℕ) : Type 0 where
  pub whole : F.Whole
  pub up_to : Begins F whole file
  pub there : F.unfinished whole ≡ true

-- why a file is refused with number n at offset o: it is too long, it stops at a command, or it ends unfinished
pub data Because (F : Format) (file : List ℕ) (n o : ℕ) : Type 0 where
  too_long : F.longest < length file → n ≡ 4 → o ≡ 0 → Because F file n o
  stopped : Stopped F file n o → Because F file n o
  left_open : Open F file → n ≡ 9 → o ≡ length file → Because F file n o

-- a reader that answers r and leaves b accepts exactly the writing of a lawful whole, and then leaves that whole
abbrev pub Accepts : (F : Format) → List ℕ → Result (Unit {0}) At → F.Whole → Type 0
Accepts F file r b = (r ≡ Ok tt → Writes F b file) × ((c : F.Whole) → Writes F c file → (r ≡ Ok tt) × (b ≡ c))

-- a reader that answers r refuses with n at o exactly where it has to
abbrev pub Refuses : (F : Format) → List ℕ → Result (Unit {0}) At → Type 0
Refuses F file r = (n o : ℕ) → (r ≡ Err (refused_at n o) → Because F file n o) × (Because F file n o → r ≡ Err (refused_at n o))

-- no two lawful wholes have one writing
abbrev pub OneWriting : Format → Type 0
OneWriting F = (b c : F.Whole) → F.Lawful b → F.Lawful c → written F b ≡ written F c → b ≡ c

-- Where names stand in a file.

-- the place that lies k bytes behind an offset, where there is a k
abbrev pub place_of : Option ℕ → ℕ → List ℕ
place_of None at = []
place_of (Some k) at = (at + k) ∷ []

-- the places of the names in commands that are written one after the other from an offset on: behind says of a command how far behind its first byte its name stands, where it has one
abbrev pub places_in : {C : Type 0} → (C → List ℕ) → (C → Option ℕ) → ℕ → List C → List ℕ
places_in bytes_of behind at [] = []
places_in bytes_of behind at (c ∷ cs) = place_of (behind c) at ++ places_in bytes_of behind (at + length (bytes_of c)) cs

-- the places of such names in a whole's writing
abbrev pub name_places : (F : Format) → (F.Command → Option ℕ) → F.Whole → List ℕ
name_places F behind b = places_in F.bytes_of behind 0 (F.commands_of b)

-- at each of the places in the file stands the name in its turn
abbrev pub Stand : List ℕ → List ℕ → List (List ℕ) → Type 0
Stand file [] [] = Unit {0}
Stand file [] (n ∷ ns) = ⊥
Stand file (p ∷ ps) [] = ⊥
Stand file (p ∷ ps) (n ∷ ns) = (take (length n) (drop p file) ≡ n) × Stand file ps ns

-- What a format has to show, for the law to hold of it.

-- no test speaks against the command at the front of xs
abbrev pub Passes : (F : Format) → F.Whole → List ℕ → Type 0
Passes F b xs = AllByRecursion (λ (t : F.Whole → List ℕ → Bool). t b xs ≡ false) F.tests

-- the commands, one after the other, are read from their bytes and make a of b
abbrev pub Runs : (F : Format) → List F.Command → F.Whole → F.Whole → Type 0
Runs F [] b a = b ≡ a
Runs F (c ∷ cs) b a = ((rest : List ℕ) → step_of F (F.bytes_of c ++ rest) b ≡ Ok (F.obey b c, rest)) × Runs F cs (F.obey b c) a

-- what a format shows
pub record Holds (F : Format) : Type 0 where
  -- a command takes at least one byte, and no more than there are where the tests are passed
  pub size : (xs : List ℕ) → 0 < F.size_at xs
  pub some : (c : F.Command) → 0 < length (F.bytes_of c)
  pub enough : (b : F.Whole) (xs : List ℕ) → Passes F b xs → F.size_at xs ≤ length xs
  -- what is read as a command, of numbers that are bytes, are the bytes that it is written as
  pub back : (b : F.Whole) (xs : List ℕ) → Bytes xs → Passes F b xs → xs ≡ F.bytes_of (F.command_at xs) ++ drop (F.size_at xs) xs
  -- a command that passes the tests keeps the whole lawful so far, and its commands are one more
  pub keeps : (b : F.Whole) (xs : List ℕ) → Passes F b xs → F.SoFar b → F.SoFar (F.obey b (F.command_at xs)) × (F.commands_of (F.obey b (F.command_at xs)) ≡ F.commands_of b ++ F.command_at xs ∷ [])
  -- the empty whole is lawful so far and has no commands
  pub start : F.SoFar F.empty
  pub nothing : F.commands_of F.empty ≡ []
  -- the commands of a whole that is lawful so far make it, and do not take too many bytes
  pub complete : (b : F.Whole) → F.SoFar b → Runs F (F.commands_of b) F.empty b
  pub bounded : (b : F.Whole) → F.SoFar b → length (written F b) ≤ F.longest
  -- lawful is lawful so far and not unfinished
  pub ended : (b : F.Whole) → F.SoFar b → F.unfinished b ≡ false → F.Lawful b
  pub closed : (b : F.Whole) → F.Lawful b → F.SoFar b × (F.unfinished b ≡ false)
