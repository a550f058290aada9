-- The first of some numbers at which something fails.
use Rattle.std.specs.Prelude.{◌≡◌, ℕ, ◌<◌, Some, None, Option, Ok, Err, Result}
use Rattle.auction.specs.declared.Broken.{Broken}

-- of an optional number: none means that P holds of all below the end, some n that it fails at n and holds before
abbrev pub FirstFailing : (ℕ → Type 0) → ℕ → Option ℕ → Type 0
FirstFailing P end None = (n : ℕ) → n < end → P n
FirstFailing P end (Some n) = (n < end) × ((k : ℕ) → k < n → P k) × (P n → ⊥)

-- P holds of all below the end, or the rule is broken at the first number at which it fails
abbrev pub Each : (ℕ → Broken) → (ℕ → Type 0) → ℕ → Result (Unit {0}) Broken → Type 0
Each rule P end (Ok _) = FirstFailing P end None
Each rule P end (Err broken) = (n : ℕ) × (broken ≡ rule n) × FirstFailing P end (Some n)
