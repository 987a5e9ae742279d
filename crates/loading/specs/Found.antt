-- A file that was read, or is missing, or could not be read.
use Rattle.std.specs.Prelude.{◌≡◌, ◌⊎◌, Some, None, Ok, Err, Option, Result}

-- r is the file that was read; where none was, it is that there is none, or the failure itself
abbrev pub Found : {V E : Type 0} → Result V E → Result (Option V) E → Type 0
Found (Ok v) r = r ≡ Ok (Some v)
Found (Err e) r = (r ≡ Ok None) ⊎ (r ≡ Err e)
