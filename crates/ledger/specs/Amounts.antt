-- How large an account gets.
use Rattle.std.specs.Prelude.{ℕ, ◌*◌, ◌^◌, ◌≤◌, ℤ, unsigned_abs}

-- after so many hours an account is at most the sum of so many amounts, each a signed number of 64 bits
abbrev pub FitsHours : ℤ → ℕ → Type 0
FitsHours total hours = unsigned_abs total ≤ hours * 2 ^ 63
