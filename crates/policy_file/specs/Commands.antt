-- One command of a policy at the front of some bytes.
use Rattle.std.specs.Prelude.{ℕ, ◌+◌, ◌*◌, Bool, false, cond, not, List, [], ◌∷◌, drop, Ok, Err, Result, ◌==◌, slice_index}
use Rattle.format.specs.Bytes.{byte_at, size_at, cut_off}
use Rattle.policy.specs.declared.table.Write.TheVariants.{Set, Add, Take}
use Rattle.policy_file.specs.declared.commands.Command.TheVariants.{Cell, Group, Has, Nest, On, OnGroup, When, Violate, Write}
use Rattle.policy_file.specs.declared.commands.Command.{Command}
use Rattle.policy_file.specs.declared.commands.RawTerm.{RawTerm}
use Rattle.tables.specs.declared.name.Name.{Name}

-- the number of four bytes, the most significant first
abbrev pub number4 : ℕ → ℕ → ℕ → ℕ → ℕ
number4 a b c d = a * 16777216 + b * 65536 + c * 256 + d

-- the number of the four bytes from place i on
abbrev pub number_at : ℕ → List ℕ → ℕ
number_at i xs = number4 (slice_index xs i) (slice_index xs (i + 1)) (slice_index xs (i + 2)) (slice_index xs (i + 3))

-- the term of the five bytes from place i on: its kind and its number
abbrev pub term_at : ℕ → List ℕ → RawTerm
term_at i xs = record { kind = slice_index xs i; number = number_at (i + 1) xs }

-- the eight bytes behind the first two, as a label
abbrev pub label_at : List ℕ → Name
label_at xs = record { letters = slice_index xs 2 ∷ slice_index xs 3 ∷ slice_index xs 4 ∷ slice_index xs 5 ∷ slice_index xs 6 ∷ slice_index xs 7 ∷ slice_index xs 8 ∷ slice_index xs 9 ∷ [] }

-- the command that the first byte names (0x40 CELL, 0x00 GROUP, 0x10 HAS, 0x11 NEST, 0x90 ON, 0x91 ONGROUP, 0xB0 WHEN, 0x01 VIOLATE, 0x60 SET, 0x61 ADD, 0x62 TAKE), with the operands behind it
abbrev pub command_at : List ℕ → Command
command_at xs =
    cond (byte_at xs == 64) (Cell (number_at 1 xs))
    (cond (byte_at xs == 0) Group
    (cond (byte_at xs == 16) (Has (slice_index xs 1))
    (cond (byte_at xs == 17) (Nest (slice_index xs 1))
    (cond (byte_at xs == 144) (On (slice_index xs 1) (label_at xs))
    (cond (byte_at xs == 145) (OnGroup (slice_index xs 1) (label_at xs))
    (cond (byte_at xs == 176) (When (slice_index xs 1) (term_at 2 xs) (term_at 7 xs))
    (cond (byte_at xs == 1) Violate
    (cond (byte_at xs == 96) (Write Set (slice_index xs 1) (term_at 2 xs))
    (cond (byte_at xs == 97) (Write Add (slice_index xs 1) (term_at 2 xs))
    (Write Take (slice_index xs 1) (term_at 2 xs)))))))))))

-- 1: the first byte is no command's
abbrev pub unknown : {X : Type 0} → X → List ℕ → Bool
unknown p xs =
    cond (byte_at xs == 64) false
    (cond (byte_at xs == 0) false
    (cond (byte_at xs == 16) false
    (cond (byte_at xs == 17) false
    (cond (byte_at xs == 144) false
    (cond (byte_at xs == 145) false
    (cond (byte_at xs == 176) false
    (cond (byte_at xs == 1) false
    (cond (byte_at xs == 96) false
    (cond (byte_at xs == 97) false
    (not (byte_at xs == 98)))))))))))

-- the command with the bytes behind it, or the number of the test that speaks against it
abbrev pub command_of : List ℕ → Result (Command × List ℕ) ℕ
command_of xs = cond (unknown xs xs) (Err 1) (cond (cut_off xs xs) (Err 2) (Ok (command_at xs, drop (size_at xs) xs)))
