-- What an order gains at zone prices, where it feeds into one zone or takes from it.
use Rattle.std.specs.Prelude.{◌≡◌, ℕ, zero, suc, ◌*◌, ◌<◌, ◌≤◌, List, length, ℤ, pos, ◌+ℤ◌, ◌-ℤ◌, ◌*ℤ◌, neg_ℤ, ◌≢◌}
use Rattle.std.proofs.Common.{sym, ap, ◌∙◌, ⊎_elim, mul_comm, mul_assoc, arith}
use Rattle.std.proofs.lemmas.Int.{ints}
use Rattle.std.proofs.Math.IntN.{*ℤ-zero, *ℤ_comm}
use Rattle.std.proofs.lemmas.List.{get_or_past}
use Rattle.std.proofs.lemmas.Bool.{cases_lt, cases_eq}
use Rattle.std.proofs.lemmas.Bool.Decides.{nat_tests}
use Rattle.auction.specs.Sums.{Σ}
use Rattle.auction.specs.Orders.{gain}
use Rattle.orders.specs.Reads.{array_prices}
use Rattle.laws.proofs.Ring.{both_sums, distrib, neg_mul}
use Rattle.laws.proofs.Sums.{Σ_same, Σ_zero, Σ_plus, Σ_neg}
use Rattle.kinds.specs.Kinds.{into, offer, bid, transfer}
use Rattle.kinds.specs.Slopes.{price_in, scaled, offer_slope, bid_slope, transfer_slope}

pub into_here : (zone q z : ℕ) → z ≡ zone → into zone q z ≡ pos q
into_here zone q z h = grind (arith, nat_tests)

pub into_elsewhere : (zone q z : ℕ) → (z ≢ zone) → into zone q z ≡ pos 0
into_elsewhere zone q z h = grind (arith, nat_tests)

elsewhere_free : (f : ℕ → ℤ) (zone q z : ℕ) → (z ≢ zone) → f z *ℤ into zone q z ≡ pos 0
elsewhere_free f zone q z h = ap (λ x. f z *ℤ x) (into_elsewhere zone q z h) ∙ *ℤ-zero (f z)

-- ---- a sum over zones with one term
Σ_beyond : (n : ℕ) (f : ℕ → ℤ) (zone q : ℕ) → n ≤ zone → Σ n (λ z. f z *ℤ into zone q z) ≡ pos 0
Σ_beyond n f zone q h = Σ_zero n (λ z. f z *ℤ into zone q z) (λ z l. elsewhere_free f zone q z (λ e. omega arith))

only_last : (x y z : ℤ) → x ≡ pos 0 → y ≡ z → x +ℤ y ≡ z
only_last x y z p e = omega (arith, ints)

not_last : (x y z : ℤ) → x ≡ z → y ≡ pos 0 → x +ℤ y ≡ z
not_last x y z p e = omega (arith, ints)

Σ_there : (n : ℕ) (f : ℕ → ℤ) (zone q : ℕ) → zone < n → Σ n (λ z. f z *ℤ into zone q z) ≡ f zone *ℤ pos q
unfolding Σ
Σ_there zero f zone q h = absurd (omega arith)
Σ_there (suc n) f zone q h = ⊎_elim
    (λ e. only_last (Σ n (λ z. f z *ℤ into zone q z)) (f n *ℤ into zone q n) (f zone *ℤ pos q) (Σ_beyond n f zone q (omega arith)) (ap (λ x. f n *ℤ x) (into_here zone q n e) ∙ ap (λ x. f x *ℤ pos q) e))
    (λ ne. not_last (Σ n (λ z. f z *ℤ into zone q z)) (f n *ℤ into zone q n) (f zone *ℤ pos q) (Σ_there n f zone q (omega arith)) (elsewhere_free f zone q n ne))
    (cases_eq n zone)

pub mul_neg : (a b : ℤ) → a *ℤ neg_ℤ b ≡ neg_ℤ (a *ℤ b)
mul_neg a b = *ℤ_comm a (neg_ℤ b) ∙ neg_mul b a ∙ ap neg_ℤ (*ℤ_comm b a)

-- ---- what a quantity is worth, in the unit in which it is paid
worth_scaled : (price q : ℕ) → pos 1000 *ℤ pos (price * q) ≡ pos q *ℤ scaled price
worth_scaled price q = ap pos (sym (mul_assoc 1000 price q) ∙ mul_comm (1000 * price) q)

cost_scaled : (price q : ℕ) → pos 1000 *ℤ neg_ℤ (pos (price * q)) ≡ neg_ℤ (pos q *ℤ scaled price)
cost_scaled price q = mul_neg (pos 1000) (pos (price * q)) ∙ ap neg_ℤ (worth_scaled price q)

-- ---- the gain of each kind; the sums of products are over plain variables, where omega is quick
difference : (q a b x y : ℤ) → x ≡ q *ℤ a → y ≡ neg_ℤ (q *ℤ b) → x +ℤ y ≡ q *ℤ (a -ℤ b)
difference q a b x y p e = sums x y (q *ℤ a) (q *ℤ b) p e ∙ sym (distrib q a (neg_ℤ b) ∙ ap (λ z. q *ℤ a +ℤ z) (mul_neg q b))
  where
    sums : (x y u v : ℤ) → x ≡ u → y ≡ neg_ℤ v → x +ℤ y ≡ u +ℤ neg_ℤ v
    sums x y u v p e = omega (arith, ints)

turned : (x y z : ℤ) → y +ℤ x ≡ z → x +ℤ y ≡ z
turned x y z h = omega (arith, ints)

-- what a quantity is paid in one zone
module _ (prices : List ℤ) (each : length prices ≡ 24) where
  pub paid_in : (zone q : ℕ) → Σ 24 (λ z. price_in prices z *ℤ into zone q z) ≡ pos q *ℤ price_in prices zone
  paid_in zone q = ⊎_elim
      (λ l. Σ_there 24 (price_in prices) zone q l ∙ *ℤ_comm (price_in prices zone) (pos q))
      (λ g. Σ_beyond 24 (price_in prices) zone q g ∙ sym (ap (λ x. pos q *ℤ x) (get_or_past prices zone (pos 0) (omega arith)) ∙ *ℤ-zero (pos q)))
      (cases_lt zone 24)

  pub paid_out : (zone q : ℕ) → Σ 24 (λ z. price_in prices z *ℤ neg_ℤ (into zone q z)) ≡ neg_ℤ (pos q *ℤ price_in prices zone)
  paid_out zone q =
      Σ_same 24 (λ z. price_in prices z *ℤ neg_ℤ (into zone q z)) (λ z. neg_ℤ (price_in prices z *ℤ into zone q z)) (λ z _. mul_neg (price_in prices z) (into zone q z))
      ∙ Σ_neg 24 (λ z. price_in prices z *ℤ into zone q z) ∙ ap neg_ℤ (paid_in zone q)

  paid_between : (first second q : ℕ) → Σ 24 (λ z. price_in prices z *ℤ (into first q z -ℤ into second q z)) ≡ pos q *ℤ (price_in prices first -ℤ price_in prices second)
  paid_between first second q =
      Σ_same 24 (λ z. price_in prices z *ℤ (into first q z -ℤ into second q z)) (λ z. price_in prices z *ℤ into first q z +ℤ price_in prices z *ℤ neg_ℤ (into second q z)) (λ z _. distrib (price_in prices z) (into first q z) (neg_ℤ (into second q z)))
      ∙ Σ_plus 24 (λ z. price_in prices z *ℤ into first q z) (λ z. price_in prices z *ℤ neg_ℤ (into second q z))
      ∙ difference (pos q) (price_in prices first) (price_in prices second) (Σ 24 (λ z. price_in prices z *ℤ into first q z)) (Σ 24 (λ z. price_in prices z *ℤ neg_ℤ (into second q z))) (paid_in first q) (paid_out second q)

  pub offer_gain : (zone price largest q : ℕ) → gain (array_prices prices) (offer zone price largest) q ≡ pos q *ℤ offer_slope prices zone price
  offer_gain zone price largest q = turned (pos 1000 *ℤ neg_ℤ (pos (price * q))) (Σ 24 (λ z. price_in prices z *ℤ into zone q z)) (pos q *ℤ offer_slope prices zone price)
      (difference (pos q) (price_in prices zone) (scaled price) (Σ 24 (λ z. price_in prices z *ℤ into zone q z)) (pos 1000 *ℤ neg_ℤ (pos (price * q))) (paid_in zone q) (cost_scaled price q))

  pub bid_gain : (zone price largest q : ℕ) → gain (array_prices prices) (bid zone price largest) q ≡ pos q *ℤ bid_slope prices zone price
  bid_gain zone price largest q = difference (pos q) (scaled price) (price_in prices zone) (pos 1000 *ℤ pos (price * q)) (Σ 24 (λ z. price_in prices z *ℤ neg_ℤ (into zone q z))) (worth_scaled price q) (paid_out zone q)

  pub transfer_gain : (first second price largest q : ℕ) → gain (array_prices prices) (transfer first second price largest) q ≡ pos q *ℤ transfer_slope prices first second price
  transfer_gain first second price largest q =
      joined (pos q) (scaled price) (price_in prices first -ℤ price_in prices second) (pos 1000 *ℤ pos (price * q)) (Σ 24 (λ z. price_in prices z *ℤ (into first q z -ℤ into second q z))) (worth_scaled price q) (paid_between first second q)
    where
      joined : (q a b x y : ℤ) → x ≡ q *ℤ a → y ≡ q *ℤ b → x +ℤ y ≡ q *ℤ (a +ℤ b)
      joined q a b x y p e = both_sums p e ∙ sym (distrib q a b)
