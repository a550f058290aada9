-- Numbers of 64 bits that are small, as they go through casts and products.
use Rattle.std.proofs.Common.{◌≡◌, ℕ, ◌*◌, ◌^◌, ◌<◌, ◌≤◌, ℤ, pos, ◌*ℤ◌, nat_abs, arith, w32, w64, SFits, to_z, of_z}
use borrow.Author.Differences.{ints}
use lib.Signed.{mag}

-- a price in range, cut to 32 bits
pub narrowed : (x : ℤ) → mag x < 2 ^ 63 → nat_abs (to_z w64 (of_z w64 x)) ≤ 500000000 → to_z w32 (of_z w32 (to_z w64 (of_z w64 x))) ≡ x
narrowed x ok small = omega (arith, ints)

-- a thousand times a natural number
pub thousand_fits : (r : ℤ) (n : ℕ) → r ≡ pos n → n ≤ 10000000000000 → SFits w64 (pos 1000 *ℤ to_z w64 (of_z w64 r))
thousand_fits r n e h = omega (arith, ints)

pub thousand_is : (r : ℤ) (n : ℕ) → r ≡ pos n → n ≤ 10000000000000 → to_z w64 (of_z w64 (pos 1000 *ℤ to_z w64 (of_z w64 r))) ≡ pos (1000 * n)
thousand_is r n e h = omega (arith, ints)
