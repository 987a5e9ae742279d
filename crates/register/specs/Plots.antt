-- The plots of a register as a list of entries, plot 0 first: looking, putting, the cut.
use Rattle.std.specs.Prelude.{ℕ, ◌^◌, ◌<◌, ◌≤◌, cond, List, ◌++◌, length, take, drop, Some, None, Option, nat_lt, slice_index, slice_set}

-- the entry of plot p, or nothing where there is no such plot
abbrev pub entry_at : List ℕ → ℕ → Option ℕ
entry_at entries p = cond (nat_lt p (length entries)) (Some (slice_index entries p)) None

-- the plots after v is put at p: every other plot stays, and all of them where there is no plot p
abbrev pub with_entry : List ℕ → ℕ → ℕ → List ℕ
with_entry entries p v = slice_set entries p v

-- the most plots that a register has
abbrev pub most : ℕ
most = 65535

-- the plots among some numbers in a row: those past the most are none
abbrev pub cut : List ℕ → List ℕ
cut numbers = take most numbers

-- numbers in a row after a put into their plots: those past the most stay
abbrev pub numbers_after : List ℕ → ℕ → ℕ → List ℕ
numbers_after numbers p v = with_entry (cut numbers) p v ++ drop most numbers

-- each entry is below 2^32
abbrev pub Fit : List ℕ → Type 0
Fit entries = (p : ℕ) → slice_index entries p < 2 ^ 32

-- there are at most 65,535 plots
abbrev pub Short : List ℕ → Type 0
Short entries = length entries ≤ most
