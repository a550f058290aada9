-- How large a product of whole numbers is.
use Rattle.std.proofs.Common.{◌≡◌, ℕ, zero, suc, ◌*◌, ◌^◌, ◌≤◌, ℤ, pos, negsuc, ◌*ℤ◌, neg_ℤ, nat_abs, sym, refl, subst, mul-le-mul, arith, w64, SFits}
use borrow.Author.Differences.{ints}

unsigned_abs_neg : (a : ℤ) → nat_abs (neg_ℤ a) ≡ nat_abs a
unsigned_abs_neg (pos zero) = refl
unsigned_abs_neg (pos (suc n)) = refl
unsigned_abs_neg (negsuc n) = refl

nat_abs_mul : (a b : ℤ) → nat_abs (a *ℤ b) ≡ nat_abs a * nat_abs b
nat_abs_mul (pos a) (pos b) = refl
nat_abs_mul (pos a) (negsuc b) = unsigned_abs_neg (pos (a * suc b))
nat_abs_mul (negsuc a) (pos b) = unsigned_abs_neg (pos (suc a * b))
nat_abs_mul (negsuc a) (negsuc b) = refl

pub product_small : (a b : ℤ) (m n : ℕ) → nat_abs a ≤ m → nat_abs b ≤ n → nat_abs (a *ℤ b) ≤ m * n
product_small a b m n h k = subst (λ (x : ℕ). x ≤ m * n) (sym (nat_abs_mul a b)) (mul-le-mul h k)

pub product_fits : (a b : ℤ) → nat_abs a ≤ 2 ^ 31 → nat_abs b ≤ 2 ^ 31 → SFits w64 (a *ℤ b)
product_fits a b h k = small (a *ℤ b) (product_small a b (2 ^ 31) (2 ^ 31) h k)
  where
    small : (x : ℤ) → nat_abs x ≤ 2 ^ 62 → SFits w64 x
    small x h = omega (arith, ints)
