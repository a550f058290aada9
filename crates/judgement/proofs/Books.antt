-- A sum over the orders of three lists is the sum of the three.
use Rattle.std.proofs.Common.{◌≡◌, ℕ, ◌*◌, ◌^◌, ◌≤◌, List, ℤ, pos, ◌+ℤ◌, nat_abs, arith, w64, to_z, of_z}
use borrow.Author.Differences.{ints}
use Rattle.auction.specs.Sums.{Σ}
use Rattle.auction.specs.Hours.{Entry, Dispatch, over_orders}
use Rattle.judgement.specs.Parts.{first_sum, list_sum}
use Rattle.orders.specs.Books.{book_of}

pub three_lists : (x y z : List Entry) (d : Dispatch) (f : Entry → ℕ → ℤ) → (list_sum x (d 0) f +ℤ list_sum y (d 1) f) +ℤ list_sum z (d 2) f ≡ over_orders (book_of x y z) d f
unfolding over_orders Σ first_sum
three_lists x y z d f = from_nothing (list_sum x (d 0) f) (list_sum y (d 1) f) (list_sum z (d 2) f)
  where
    from_nothing : (a b c : ℤ) → (a +ℤ b) +ℤ c ≡ ((pos 0 +ℤ a) +ℤ b) +ℤ c
    from_nothing a b c = omega (arith, ints)

-- what the sums of three lists of such a size add up to
pub three_fit : (a b c : ℤ) (k : ℕ) → nat_abs a ≤ k * 10000000 → nat_abs b ≤ k * 10000000 → nat_abs c ≤ k * 10000000 → nat_abs ((a +ℤ b) +ℤ c) ≤ k * 30000000
three_fit a b c k x y z = omega (arith, ints)

-- the same sum as it is added up in 64 bits
pub three_added : (a b c : ℤ) → nat_abs a ≤ 2 ^ 60 → nat_abs b ≤ 2 ^ 60 → nat_abs c ≤ 2 ^ 60
    → to_z w64 (of_z w64 (to_z w64 (of_z w64 (to_z w64 (of_z w64 a) +ℤ to_z w64 (of_z w64 b))) +ℤ to_z w64 (of_z w64 c))) ≡ (a +ℤ b) +ℤ c
three_added a b c x y z = omega (arith, ints)
