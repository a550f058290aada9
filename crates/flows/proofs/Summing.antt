-- Sums of terms, and how large they can get.
use Rattle.std.proofs.Common.{◌≡◌, ℕ, zero, suc, ◌+◌, ◌-◌, ◌*◌, ◌^◌, ◌<◌, ◌≤◌, ℤ, pos, ◌+ℤ◌, nat_abs, ap, ◌∙◌, subst, mul-suc, add-one, arith, w64, SFits}
use borrow.Author.Differences.{ints}
use Rattle.auction.specs.Sums.{Σ, Σℕ}

-- terms that are 0 add nothing
pub Σ_beyond : (f : ℕ → ℤ) (n k : ℕ) → ((i : ℕ) → n ≤ i → f i ≡ pos 0) → Σ (k + n) f ≡ Σ n f
unfolding Σ
Σ_beyond f n zero h = ap (λ m. Σ m f) (zero_first n)
  where
    zero_first : (n : ℕ) → 0 + n ≡ n
    zero_first n = omega arith
Σ_beyond f n (suc k) h = ap (λ m. Σ m f) (one_out k n) ∙ last (Σ (k + n) f) (f (k + n)) (Σ n f) (Σ_beyond f n k h) (h (k + n) (omega arith))
  where
    one_out : (k n : ℕ) → suc k + n ≡ suc (k + n)
    one_out k n = omega arith

    last : (x y z : ℤ) → x ≡ z → y ≡ pos 0 → x +ℤ y ≡ z
    last x y z p q = omega (arith, ints)

-- the sum to one place further
pub Σ_next : (f : ℕ → ℤ) (i : ℕ) → Σ (i + 1) f ≡ Σ i f +ℤ f i
unfolding Σ
Σ_next f i = ap (λ n. Σ n f) (add-one i)

-- a sum of fewer natural numbers is not larger
pub Σℕ_mono : (f : ℕ → ℕ) (i k : ℕ) → Σℕ i f ≤ Σℕ (k + i) f
unfolding Σℕ
Σℕ_mono f i zero = subst (λ (n : ℕ). Σℕ i f ≤ Σℕ n f) (start i) (omega arith)
  where
    start : (i : ℕ) → i ≡ 0 + i
    start i = omega arith
Σℕ_mono f i (suc k) = let h = Σℕ_mono f i k in subst (λ (n : ℕ). Σℕ i f ≤ Σℕ n f) (later i k) (omega arith)
  where
    later : (i k : ℕ) → suc (k + i) ≡ suc k + i
    later i k = omega arith

pub Σℕ_within : (f : ℕ → ℕ) (i n : ℕ) → i ≤ n → Σℕ i f ≤ Σℕ n f
Σℕ_within f i n h = subst (λ (m : ℕ). Σℕ i f ≤ Σℕ m f) (rest i n h) (Σℕ_mono f i (n - i))
  where
    rest : (i n : ℕ) → i ≤ n → n - i + i ≡ n
    rest i n h = omega arith

pub Σℕ_next : (f : ℕ → ℕ) (i : ℕ) → Σℕ (i + 1) f ≡ Σℕ i f + f i
unfolding Σℕ
Σℕ_next f i = ap (λ n. Σℕ n f) (add-one i)

pub Σℕ_term : (f : ℕ → ℕ) (i n : ℕ) → i < n → Σℕ i f + f i ≤ Σℕ n f
Σℕ_term f i n h = let e = Σℕ_next f i in let w = Σℕ_within f (i + 1) n (omega arith) in omega arith

pub sum_fits : (a b : ℤ) (m n k : ℕ) → nat_abs a ≤ m → nat_abs b ≤ n → m + n ≤ k → k ≤ 2 ^ 62 → SFits w64 (a +ℤ b)
sum_fits a b m n k p q r s = omega (arith, ints)

pub sum_grows : (a b c : ℤ) (m n k : ℕ) → c ≡ a +ℤ b → nat_abs a ≤ m → nat_abs b ≤ n → k ≡ m + n → nat_abs c ≤ k
sum_grows a b c m n k e p q r = omega (arith, ints)

-- terms of one size
pub Σℕ_even : (k n : ℕ) → Σℕ n (λ _. k) ≡ k * n
unfolding Σℕ
Σℕ_even k zero = omega arith
Σℕ_even k (suc n) = let h = Σℕ_even k n in let e = mul-suc k n in omega arith
