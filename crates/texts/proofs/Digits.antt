-- The number that parse gives at a word of digits.
use Rattle.std.proofs.Common.{◌≡◌, ℕ, ◌<◌, ◌≤◌, ◌^◌, true, List, length, arith, rules, ⊎_elim, Result, Ok, Err}
use Rattle.std.specs.Char.{is_ascii_digit}
use Rattle.std.specs.List.{list_all}
use Rattle.std.specs.Result.{OkIff, MatchResult}
use Rattle.std.specs.Str.Parse.{digits_value, ParsesUnsigned}
use Rattle.std.proofs.lemmas.Bool.{cases_lt}
use Rattle.std.proofs.lemmas.Grind.{common_steps}
use Rattle.std.proofs.lemmas.Str.Parse.{IsNumeralModel, numerals_by_value, parse_digits}
use Rattle.texts.specs.Numbers.{number_of}
use Rattle.texts.specs.declared.number.NotNumber.{NotNumber}
use Rattle.texts.specs.declared.number.NotNumber.TheVariants.{TooLarge}

digits : IsNumeralModel (λ ds. list_all is_ascii_digit ds ≡ true) (digits_value 10)
digits = numerals_by_value _ (search rules)

-- a word of digits is a number where it is below 2^32, and else too large
module _ (word : List ℕ) (some : 0 < length word) (all : list_all is_ascii_digit word ≡ true) (s : Result ℕ NotNumber) where
  told : {E : Type 0} → (r : Result ℕ E) → OkIff r ((0 < length word) × (digits_value 10 word < 2 ^ 32)) (digits_value 10 word) → MatchResult r (λ x. s ≡ Ok x) (λ _. s ≡ Err TooLarge) → s ≡ number_of word
  told (Ok x) k m = let fits = k.0.1 in let e = k.1 in grind (arith, common_steps)
  told (Err e) k m = let large : 2 ^ 32 ≤ digits_value 10 word = ⊎_elim (λ l. absurd (k (some, l))) (λ l. l) (cases_lt (digits_value 10 word) (2 ^ 32)) in grind (arith, common_steps)

  pub read_from : {E : Type 0} → (r : Result ℕ E) → ParsesUnsigned 32 10 word r → MatchResult r (λ x. s ≡ Ok x) (λ _. s ≡ Err TooLarge) → s ≡ number_of word
  read_from r h = told r (parse_digits digits 32 word r h all)
