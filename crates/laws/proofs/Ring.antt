-- Laws of sum and product of whole numbers that the library lacks. `rearrange` lemmas are over plain variables, where omega is quick.
use Rattle.std.proofs.Common.{◌≡◌, ℕ, zero, suc, ◌<◌, ℤ, pos, ◌+ℤ◌, ◌-ℤ◌, ◌*ℤ◌, neg_ℤ, ◌≤ℤ◌, ◌<ℤ◌, sym, refl, ap, ◌∙◌, subst, arith}
use borrow.Author.Differences.{ints}
use lib.IntN.{suc_ℤ, pred_ℤ, ℤ_ind, +ℤ_one, -ℤ_one, suc_ℤ-*ℤ, pred_ℤ-*ℤ, zero-*ℤ, *ℤ_comm, +ℤ_invr}
use Rattle.std.proofs.lemmas.Int.{by_lt_z}

-- ---- a (b + c) = a b + a c, by going up and down from a = 0
step_up : (x y z b c : ℤ) → x ≡ y +ℤ z → x +ℤ (b +ℤ c) ≡ (y +ℤ b) +ℤ (z +ℤ c)
step_up x y z b c h = omega (arith, ints)

step_down : (x y z b c : ℤ) → x ≡ y +ℤ z → x -ℤ (b +ℤ c) ≡ (y -ℤ b) +ℤ (z -ℤ c)
step_down x y z b c h = omega (arith, ints)

pub both_sums : {x x' y y' : ℤ} → x ≡ x' → y ≡ y' → x +ℤ y ≡ x' +ℤ y'
both_sums p q = λ i. p i +ℤ q i

zero_sum : (x y : ℤ) → x ≡ pos 0 → y ≡ pos 0 → pos 0 ≡ x +ℤ y
zero_sum x y p q = omega (arith, ints)

-- a property of all whole numbers, by going up and down from 0
by_steps : (P : ℤ → Type 0) → P (pos 0) → ((a : ℤ) → P a → P (suc_ℤ a)) → ((a : ℤ) → P a → P (pred_ℤ a)) → (a : ℤ) → P a
by_steps P start up down = ℤ_ind P start (λ n h. subst P (sym (+ℤ_one (pos n))) (up (pos n) h)) (λ n h. subst P (sym (-ℤ_one (neg_ℤ (pos n)))) (down (neg_ℤ (pos n)) h))

pub distrib : (a b c : ℤ) → a *ℤ (b +ℤ c) ≡ a *ℤ b +ℤ a *ℤ c
distrib a b c = by_steps (λ x. x *ℤ (b +ℤ c) ≡ x *ℤ b +ℤ x *ℤ c)
    (zero-*ℤ (b +ℤ c) ∙ zero_sum (pos 0 *ℤ b) (pos 0 *ℤ c) (zero-*ℤ b) (zero-*ℤ c))
    (λ x h. suc_ℤ-*ℤ x (b +ℤ c) ∙ step_up (x *ℤ (b +ℤ c)) (x *ℤ b) (x *ℤ c) b c h ∙ sym (both_sums (suc_ℤ-*ℤ x b) (suc_ℤ-*ℤ x c)))
    (λ x h. pred_ℤ-*ℤ x (b +ℤ c) ∙ step_down (x *ℤ (b +ℤ c)) (x *ℤ b) (x *ℤ c) b c h ∙ sym (both_sums (pred_ℤ-*ℤ x b) (pred_ℤ-*ℤ x c))) a

pub distrib_right : (a b c : ℤ) → (a +ℤ b) *ℤ c ≡ a *ℤ c +ℤ b *ℤ c
distrib_right a b c = *ℤ_comm (a +ℤ b) c ∙ distrib c a b ∙ both_sums (*ℤ_comm c a) (*ℤ_comm c b)

-- (- a) c = - (a c)
pub neg_mul : (a c : ℤ) → neg_ℤ a *ℤ c ≡ neg_ℤ (a *ℤ c)
neg_mul a c = opposite (a *ℤ c) (neg_ℤ a *ℤ c) (sym (distrib_right a (neg_ℤ a) c) ∙ ap (λ x. x *ℤ c) (+ℤ_invr a) ∙ zero-*ℤ c)
  where
    opposite : (x y : ℤ) → x +ℤ y ≡ pos 0 → y ≡ neg_ℤ x
    opposite x y h = omega (arith, ints)

pub sub_mul : (a b c : ℤ) → (a -ℤ b) *ℤ c ≡ a *ℤ c -ℤ b *ℤ c
sub_mul a b c = distrib_right a (neg_ℤ b) c ∙ ap (λ x. a *ℤ c +ℤ x) (neg_mul b c)

pub mul_assoc : (a b c : ℤ) → (a *ℤ b) *ℤ c ≡ a *ℤ (b *ℤ c)
mul_assoc a b c = by_steps (λ x. (x *ℤ b) *ℤ c ≡ x *ℤ (b *ℤ c))
    (ap (λ x. x *ℤ c) (zero-*ℤ b) ∙ zero-*ℤ c ∙ sym (zero-*ℤ (b *ℤ c)))
    (λ x h. ap (λ y. y *ℤ c) (suc_ℤ-*ℤ x b) ∙ distrib_right (x *ℤ b) b c ∙ both_sums h refl ∙ sym (suc_ℤ-*ℤ x (b *ℤ c)))
    (λ x h. ap (λ y. y *ℤ c) (pred_ℤ-*ℤ x b) ∙ sub_mul (x *ℤ b) b c ∙ both_sums h refl ∙ sym (pred_ℤ-*ℤ x (b *ℤ c))) a

-- ---- a natural factor keeps an order, and a positive one can be cancelled
pub mul_le : (k : ℕ) (a b : ℤ) → a ≤ℤ b → (pos k *ℤ a) ≤ℤ (pos k *ℤ b)
mul_le zero a b h = both_zero (pos 0 *ℤ a) (pos 0 *ℤ b) (zero-*ℤ a) (zero-*ℤ b)
  where
    both_zero : (x y : ℤ) → x ≡ pos 0 → y ≡ pos 0 → x ≤ℤ y
    both_zero x y p q = omega (arith, ints)
mul_le (suc k) a b h = one_more (pos (suc k) *ℤ a) (pos k *ℤ a) a (pos (suc k) *ℤ b) (pos k *ℤ b) b (suc_ℤ-*ℤ (pos k) a) (suc_ℤ-*ℤ (pos k) b) (mul_le k a b h) h
  where
    one_more : (x x₀ a y y₀ b : ℤ) → x ≡ x₀ +ℤ a → y ≡ y₀ +ℤ b → x₀ ≤ℤ y₀ → a ≤ℤ b → x ≤ℤ y
    one_more x x₀ a y y₀ b p q r s = omega (arith, ints)

-- k a < k b for a positive k
mul_lt : (k : ℕ) (a b : ℤ) → a <ℤ b → (pos (suc k) *ℤ a) <ℤ (pos (suc k) *ℤ b)
mul_lt k a b h = one_more (pos (suc k) *ℤ a) (pos k *ℤ a) a (pos (suc k) *ℤ b) (pos k *ℤ b) b (suc_ℤ-*ℤ (pos k) a) (suc_ℤ-*ℤ (pos k) b) (mul_le k a b (weaker a b h)) h
  where
    weaker : (a b : ℤ) → a <ℤ b → a ≤ℤ b
    weaker a b h = omega (arith, ints)

    one_more : (x x₀ a y y₀ b : ℤ) → x ≡ x₀ +ℤ a → y ≡ y₀ +ℤ b → x₀ ≤ℤ y₀ → a <ℤ b → x <ℤ y
    one_more x x₀ a y y₀ b p q r s = omega (arith, ints)

pub mul_cancel : (k : ℕ) (a b : ℤ) → 0 < k → pos k *ℤ a ≡ pos k *ℤ b → a ≡ b
mul_cancel zero a b h e = absurd (never h)
  where
    never : 0 < 0 → ⊥
    never h = omega arith
mul_cancel (suc k) a b h e = by_lt_z a b (λ l. absurd (apart _ _ (mul_lt k a b l) e)) (λ ge. by_lt_z b a (λ l. absurd (apart _ _ (mul_lt k b a l) (sym e))) (λ le. same a b le ge))
  where
    apart : (x y : ℤ) → x <ℤ y → x ≡ y → ⊥
    apart x y l e = omega (arith, ints)

    same : (a b : ℤ) → a ≤ℤ b → b ≤ℤ a → a ≡ b
    same a b l g = omega (arith, ints)
