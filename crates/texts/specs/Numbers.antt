-- The numbers that words stand for.
use Rattle.std.specs.Prelude.{ℕ, ◌^◌, Bool, ◌&&◌, List, length, nat_lt, if◌then◌else◌, Ok, Err, Result}
use Rattle.std.specs.Char.{is_ascii_digit}
use Rattle.std.specs.List.{list_all}
use Rattle.std.specs.Str.Parse.{digits_value}
use Rattle.texts.specs.declared.number.NotNumber.{NotNumber}
use Rattle.texts.specs.declared.number.NotNumber.TheVariants.{NoDigits, TooLarge}

-- a word is written in decimal digits alone, at least one
abbrev pub is_numeral_of : List ℕ → Bool
is_numeral_of word = nat_lt 0 (length word) && list_all is_ascii_digit word

-- the number that a word of decimal digits stands for, below 2^32
abbrev pub number_of : List ℕ → Result ℕ NotNumber
number_of word =
    if is_numeral_of word then
    (if nat_lt (digits_value 10 word) (2 ^ 32) then Ok (digits_value 10 word) else Err TooLarge)
    else Err NoDigits
