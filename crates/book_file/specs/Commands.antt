-- One command of a book at the front of some bytes.
use Rattle.std.specs.Prelude.{ℕ, Bool, false, cond, not, List, [], ◌∷◌, length, take, drop, Ok, Err, Result, ◌==◌, nat_lt, slice_index}
use Rattle.book_file.specs.declared.commands.Command.TheVariants.{Operation, Field, Call, Before, Act, After}
use Rattle.book_file.specs.declared.commands.Command.{Command}
use Rattle.format.specs.Bytes.{byte_at, size_at, cut_off}
use Rattle.tables.specs.declared.name.Name.{Name}

-- the eight bytes behind the first, as a name
abbrev pub name_at : List ℕ → Name
name_at xs = record { letters = slice_index xs 1 ∷ slice_index xs 2 ∷ slice_index xs 3 ∷ slice_index xs 4 ∷ slice_index xs 5 ∷ slice_index xs 6 ∷ slice_index xs 7 ∷ slice_index xs 8 ∷ [] }

-- the first eight bytes, as a name
abbrev pub name_in : List ℕ → Name
name_in xs = record { letters = take 8 xs }

-- what f reads of the first n bytes, with the bytes behind them; or the number of the refusal where they are cut off
abbrev pub in_front : {X : Type 0} → ℕ → (List ℕ → X) → List ℕ → Result (X × List ℕ) ℕ
in_front n f xs = cond (nat_lt (length xs) n) (Err 2) (Ok (f xs, drop n xs))

-- the command that the first byte names (0x80 OPERATION, 0x81 CALL, 0x10 FIELD, 0x11 BEFORE, 0x12 ACT, 0x20 AFTER), with the operands behind it
abbrev pub command_at : List ℕ → Command
command_at xs =
    cond (byte_at xs == 128) (Operation (name_at xs))
    (cond (byte_at xs == 129) (Call (name_at xs))
    (cond (byte_at xs == 16) (Field (slice_index xs 1))
    (cond (byte_at xs == 17) (Before (slice_index xs 1))
    (cond (byte_at xs == 18) (Act (slice_index xs 1))
    (After (slice_index xs 1) (slice_index xs 2))))))

-- 1: the first byte is no command's
abbrev pub unknown : {X : Type 0} → X → List ℕ → Bool
unknown b xs =
    cond (byte_at xs == 128) false
    (cond (byte_at xs == 129) false
    (cond (byte_at xs == 16) false
    (cond (byte_at xs == 17) false
    (cond (byte_at xs == 18) false
    (not (byte_at xs == 32))))))

-- the command with the bytes behind it, or the number of the test that speaks against it
abbrev pub command_of : List ℕ → Result (Command × List ℕ) ℕ
command_of xs = cond (unknown xs xs) (Err 1) (cond (cut_off xs xs) (Err 2) (Ok (command_at xs, drop (size_at xs) xs)))
