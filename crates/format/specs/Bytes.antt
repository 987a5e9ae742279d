-- The bytes of a command: the first names it and says, divided by 16, how many operand bytes follow.
use Rattle.std.specs.Prelude.{ℕ, suc, ◌/◌, ◌<◌, Bool, not, List, length, nat_le, slice_index}

-- each number is a byte
abbrev pub Bytes : List ℕ → Type 0
Bytes xs = (i : ℕ) → slice_index xs i < 256

-- the first byte
abbrev pub byte_at : List ℕ → ℕ
byte_at xs = slice_index xs 0

-- how many bytes a command takes: its first and its operands
abbrev pub size_at : List ℕ → ℕ
size_at xs = suc (byte_at xs / 16)

-- 2: the operands are cut off
abbrev pub cut_off : {X : Type 0} → X → List ℕ → Bool
cut_off b xs = not (nat_le (size_at xs) (length xs))

-- a test on a command, of the command at the front of some bytes
abbrev pub on_bytes : {X C : Type 0} → (List ℕ → C) → (X → C → Bool) → X → List ℕ → Bool
on_bytes command_at t b xs = t b (command_at xs)
