-- Where the gain of a quantity is the quantity times a slope, the slope decides what an order is content with.
use Rattle.std.proofs.Common.{◌≡◌, ℕ, zero, suc, ◌+◌, ◌-◌, ◌<◌, ◌≤◌, Bool, ℤ, pos, ◌+ℤ◌, ◌*ℤ◌, ◌≤ℤ◌, Decides, sym, ap, subst, ⊎_elim, arith}
use borrow.Author.Differences.{ints}
use lib.IntN.{suc_ℤ-*ℤ, *ℤ-zero}
use Rattle.std.proofs.lemmas.Bool.{cases_order}
use Rattle.auction.specs.Orders.{Order, Possible, ZonePrices, gain, Content}
use Rattle.laws.proofs.Ring.{distrib_right, mul_le}
use Rattle.kinds.specs.Slopes.{ContentBySlope}

-- one kWh more gains the slope
pub one_more : (q : ℕ) (s : ℤ) → pos (suc q) *ℤ s ≡ pos q *ℤ s +ℤ s
one_more q s = suc_ℤ-*ℤ (pos q) s

pub up_from : (x y s : ℤ) → y ≡ x +ℤ s → x ≤ℤ y → pos 0 ≤ℤ s
up_from x y s e h = omega (arith, ints)

pub down_from : (x y s : ℤ) → y ≡ x +ℤ s → y ≤ℤ x → s ≤ℤ pos 0
down_from x y s e h = omega (arith, ints)

more : (x y z w : ℤ) → x ≡ y +ℤ z → w ≡ pos 0 → w ≤ℤ z → y ≤ℤ x
more x y z w e o h = omega (arith, ints)

less : (x y z w : ℤ) → x ≡ y +ℤ z → w ≡ pos 0 → z ≤ℤ w → x ≤ℤ y
less x y z w e o h = omega (arith, ints)

pub added : (m k : ℕ) (s : ℤ) → pos (m + k) *ℤ s ≡ pos m *ℤ s +ℤ pos k *ℤ s
added m k s = distrib_right (pos m) (pos k) s

-- where the slope is not negative, more gains at least as much
pub rising : (m n : ℕ) (s : ℤ) → m ≤ n → pos 0 ≤ℤ s → (pos m *ℤ s) ≤ℤ (pos n *ℤ s)
rising m n s h p =
    let split : m + (n - m) ≡ n = omega arith in
    let e : pos n *ℤ s ≡ pos m *ℤ s +ℤ pos (n - m) *ℤ s = subst (λ x. pos x *ℤ s ≡ pos m *ℤ s +ℤ pos (n - m) *ℤ s) split (added m (n - m) s) in
    more (pos n *ℤ s) (pos m *ℤ s) (pos (n - m) *ℤ s) (pos (n - m) *ℤ pos 0) e (*ℤ-zero (pos (n - m))) (mul_le (n - m) (pos 0) s p)

-- where it is not positive, less gains at least as much
pub falling : (m n : ℕ) (s : ℤ) → m ≤ n → s ≤ℤ pos 0 → (pos n *ℤ s) ≤ℤ (pos m *ℤ s)
falling m n s h p =
    let split : m + (n - m) ≡ n = omega arith in
    let e : pos n *ℤ s ≡ pos m *ℤ s +ℤ pos (n - m) *ℤ s = subst (λ x. pos x *ℤ s ≡ pos m *ℤ s +ℤ pos (n - m) *ℤ s) split (added m (n - m) s) in
    less (pos n *ℤ s) (pos m *ℤ s) (pos (n - m) *ℤ s) (pos (n - m) *ℤ pos 0) e (*ℤ-zero (pos (n - m))) (mul_le (n - m) s (pos 0) p)

pub level : (x y : ℤ) → x ≡ y → x ≤ℤ y
level x y e = omega (arith, ints)

pub carried : (x y x' y' : ℤ) → x ≡ x' → y ≡ y' → x' ≤ℤ y' → x ≤ℤ y
carried x y x' y' p q h = omega (arith, ints)

module _ (r : ZonePrices) (o : Order) (s : ℤ) (linear : (q : ℕ) → gain r o q ≡ pos q *ℤ s) where
  from_gains : (a b : ℕ) → gain r o a ≤ℤ gain r o b → (pos a *ℤ s) ≤ℤ (pos b *ℤ s)
  from_gains a b h = carried (pos a *ℤ s) (pos b *ℤ s) (gain r o a) (gain r o b) (sym (linear a)) (sym (linear b)) h

  to_gains : (a b : ℕ) → (pos a *ℤ s) ≤ℤ (pos b *ℤ s) → gain r o a ≤ℤ gain r o b
  to_gains a b h = carried (gain r o a) (gain r o b) (pos a *ℤ s) (pos b *ℤ s) (linear a) (linear b) h

  some_wants : (q : ℕ) → Content r o q → 0 < q → pos 0 ≤ℤ s
  some_wants zero c h = absurd (omega arith)
  some_wants (suc q) c h = up_from (pos q *ℤ s) (pos (suc q) *ℤ s) s (one_more q s) (from_gains q (suc q) (c.best q (omega (arith, c.possible))))

  not_all_wants : (q : ℕ) → Content r o q → q < o.largest → s ≤ℤ pos 0
  not_all_wants q c h = down_from (pos q *ℤ s) (pos (suc q) *ℤ s) s (one_more q s) (from_gains (suc q) q (c.best (suc q) (omega arith)))

  pub to_slope : (q : ℕ) → Content r o q → ContentBySlope o.largest q s
  to_slope q c = record { possible = c.possible; rising = some_wants q c; falling = not_all_wants q c }

  best_of : (q : ℕ) → ContentBySlope o.largest q s → (other : ℕ) → Possible o other → (pos other *ℤ s) ≤ℤ (pos q *ℤ s)
  best_of q c other p = ⊎_elim
      (λ e. level (pos other *ℤ s) (pos q *ℤ s) (ap (λ n. pos n *ℤ s) e))
      (⊎_elim (λ l. rising other q s (omega arith) (c.rising (omega arith))) (λ l. falling q other s (omega arith) (c.falling (omega arith))))
      (cases_order other q)

  pub from_slope : (q : ℕ) → ContentBySlope o.largest q s → Content r o q
  from_slope q c = record { possible = c.possible; best = λ other p. to_gains other q (best_of q c other p) }

  -- a test of the slope, or of what equals it, is a test of contentment
  pub content_by : (q : ℕ) (b : Bool) (t : ℤ) → Decides b (ContentBySlope o.largest q t) → t ≡ s → Decides b (Content r o q)
  content_by q b t d e = (
    λ h. from_slope q (subst (λ x. ContentBySlope o.largest q x) e (d.0 h)),
    λ h. d.1 (subst (λ x. ContentBySlope o.largest q x) (sym e) (to_slope q h)),
  )
