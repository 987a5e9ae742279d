-- A number and its four bytes.
use Rattle.std.proofs.Common.{◌≡◌, ℕ, ◌/◌, ◌%◌, ◌<◌, [], ◌∷◌, arith}
use Rattle.policy_file.specs.Commands.{number4}
use Rattle.policy_file.specs.Law.{bytes4}

-- the number of its bytes
pub number_back : (v : ℕ) → number4 (v / 16777216) (v / 65536 % 256) (v / 256 % 256) (v % 256) ≡ v
number_back v = omega arith

-- the bytes of a number of bytes
pub bytes_back : (a b c d : ℕ) → b < 256 → c < 256 → d < 256 → bytes4 (number4 a b c d) ≡ a ∷ b ∷ c ∷ d ∷ []
bytes_back a b c d p q r =
    let v = number4 a b c d in
    let x : v / 16777216 ≡ a = omega arith in
    let y : v / 65536 % 256 ≡ b = omega arith in
    let z : v / 256 % 256 ≡ c = omega arith in
    let w : v % 256 ≡ d = omega arith in
    rw (x, y, z, w)
