-- Sums over an index range.
use Rattle.std.specs.Prelude.{ℕ, zero, suc, ◌+◌, ℤ, pos, ◌+ℤ◌}

-- f 0 + f 1 + .. + f (n - 1), of whole numbers
unfoldable pub Σ : ℕ → (ℕ → ℤ) → ℤ
Σ zero f = pos 0
Σ (suc n) f = Σ n f +ℤ f n

-- the same, of natural numbers
unfoldable pub Σℕ : ℕ → (ℕ → ℕ) → ℕ
Σℕ zero f = 0
Σℕ (suc n) f = Σℕ n f + f n
