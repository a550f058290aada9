-- The terms of a sum, each the result of a call.
use Rattle.std.specs.Prelude.{◌≡◌, ℕ, ◌^◌, ◌<◌, ◌≤◌, ℤ, unsigned_abs}
use Rattle.auction.specs.Sums.{Σℕ}

-- the call at each number below the end gives the term that f says
abbrev pub TermsAre : (ℕ → ℤ → Type 0) → ℕ → (ℕ → ℤ) → Type 0
TermsAre gives end f = (i : ℕ) (r : ℤ) → i < end → gives i r → r ≡ f i

-- each of the terms is of at most some size
abbrev pub Within : (ℕ → ℤ → Type 0) → ℕ → (ℕ → ℕ) → Type 0
Within gives end size = (i : ℕ) (r : ℤ) → i < end → gives i r → unsigned_abs r ≤ size i

-- the sizes of the terms are so small that their sum, too, is a number of 64 bits
abbrev pub Modest : (ℕ → ℤ → Type 0) → ℕ → Type 0
Modest gives end = (size : ℕ → ℕ) × (Σℕ end size ≤ 2 ^ 62) × Within gives end size
