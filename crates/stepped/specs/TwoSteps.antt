-- Where the gain rises by one amount for each kWh up to a step and by a lower one beyond, the two amounts decide what an order is content with.
use Rattle.std.specs.Prelude.{◌≡◌, ℕ, zero, suc, ◌+◌, ◌-◌, ◌*◌, ◌/◌, ◌<◌, ◌≤◌, min, Bool, List, length, ℤ, pos, ◌+ℤ◌, ◌-ℤ◌, ◌*ℤ◌, neg_ℤ, ◌≤ℤ◌, Decides, unsigned_abs, refl}
use Rattle.std.proofs.Common.{sym, ap, subst, ◌∙◌, ⊎_elim, mul-add, mul_assoc, mul_comm, arith}
use Rattle.std.proofs.lemmas.Int.{ints}
use Rattle.std.proofs.lemmas.Bool.{cases_lt, cases_order}
use Rattle.auction.specs.Sums.{Σ}
use Rattle.auction.specs.Orders.{Order, ZonePrices, gain, Content, Sound}
use Rattle.orders.specs.Reads.{array_prices}
use Rattle.rows.specs.Bounds.{InRange}
use Rattle.laws.proofs.Ring.{distrib}
use Rattle.kinds.specs.Kinds.{into}
use Rattle.kinds.specs.Slopes.{price_in, scaled}
use Rattle.kinds.proofs.Slopes.{one_more, added, rising, falling, level, carried}
use Rattle.kinds.specs.Gains.{mul_neg, paid_out, into_elsewhere}
use Rattle.kinds.specs.Sounds.{size, Σℕ_into, Σℕ_under, neg_size, nothing, at_most}
use Rattle.stepped.specs.Steps.{in_steps, stepped, ContentInSteps}

both : (x y x' y' : ℤ) → x ≤ℤ x' → y ≤ℤ y' → (x +ℤ y) ≤ℤ (x' +ℤ y')
both x y x' y' p q = omega (arith, ints)

up_left : (x x' y s : ℤ) → x' ≡ x +ℤ s → (x +ℤ y) ≤ℤ (x' +ℤ y) → pos 0 ≤ℤ s
up_left x x' y s e h = omega (arith, ints)

up_right : (x y y' s : ℤ) → y' ≡ y +ℤ s → (x +ℤ y) ≤ℤ (x +ℤ y') → pos 0 ≤ℤ s
up_right x y y' s e h = omega (arith, ints)

down_left : (x x' y s : ℤ) → x' ≡ x +ℤ s → (x' +ℤ y) ≤ℤ (x +ℤ y) → s ≤ℤ pos 0
down_left x x' y s e h = omega (arith, ints)

down_right : (x y y' s : ℤ) → y' ≡ y +ℤ s → (x +ℤ y') ≤ℤ (x +ℤ y) → s ≤ℤ pos 0
down_right x y y' s e h = omega (arith, ints)

above : (a b : ℤ) → b ≤ℤ a → pos 0 ≤ℤ b → pos 0 ≤ℤ a
above a b h k = omega (arith, ints)

below : (a b : ℤ) → b ≤ℤ a → a ≤ℤ pos 0 → b ≤ℤ pos 0
below a b h k = omega (arith, ints)

-- what x kWh of the first step and y beyond it gain
abbrev gained : (high low : ℤ) (x y : ℕ) → ℤ
gained high low x y = pos x *ℤ high +ℤ pos y *ℤ low

module _ (r : ZonePrices) (o : Order) (step : ℕ) (high low : ℤ) (within : step ≤ o.largest) (lower : low ≤ℤ high) (in_two : (q : ℕ) → gain r o q ≡ gained high low (min q step) (q - step)) where
  -- gains at quantities that are told as first part and rest
  compared : (a b x y x' y' : ℕ) → min a step ≡ x → a - step ≡ y → min b step ≡ x' → b - step ≡ y' → gain r o a ≤ℤ gain r o b → gained high low x y ≤ℤ gained high low x' y'
  compared a b x y x' y' p q p' q' h = carried (gained high low x y) (gained high low x' y') (gain r o a) (gain r o b)
      (sym (in_two a ∙ ap (λ n. gained high low n (a - step)) p ∙ ap (λ n. gained high low x n) q))
      (sym (in_two b ∙ ap (λ n. gained high low n (b - step)) p' ∙ ap (λ n. gained high low x' n) q')) h

  more_wanted : (q : ℕ) → Content r o q → step < q → pos 0 ≤ℤ low
  more_wanted zero c h = absurd (omega arith)
  more_wanted (suc q) c h = up_right (pos step *ℤ high) (pos (q - step) *ℤ low) (pos (suc (q - step)) *ℤ low) low (one_more (q - step) low)
      (compared q (suc q) step (q - step) step (suc (q - step)) (omega arith) refl (omega arith) (omega arith) (c.best q (omega (arith, c.possible))))

  some_wanted : (q : ℕ) → Content r o q → 0 < q → pos 0 ≤ℤ high
  some_wanted zero c h = absurd (omega arith)
  some_wanted (suc q) c h = ⊎_elim
      (λ l. up_left (pos q *ℤ high) (pos (suc q) *ℤ high) (pos 0 *ℤ low) high (one_more q high)
      (compared q (suc q) q 0 (suc q) 0 (omega arith) (omega arith) (omega arith) (omega arith) (c.best q (omega (arith, c.possible)))))
      (λ g. above high low lower (more_wanted (suc q) c (omega arith)))
      (cases_lt q step)

  few_wanted : (q : ℕ) → Content r o q → q < step → high ≤ℤ pos 0
  few_wanted q c h = down_left (pos q *ℤ high) (pos (suc q) *ℤ high) (pos 0 *ℤ low) high (one_more q high)
      (compared (suc q) q (suc q) 0 q 0 (omega arith) (omega arith) (omega arith) (omega arith) (c.best (suc q) (omega arith)))

  not_all_wanted : (q : ℕ) → Content r o q → q < o.largest → low ≤ℤ pos 0
  not_all_wanted q c h = ⊎_elim
      (λ l. below high low lower (few_wanted q c l))
      (λ g. down_right (pos step *ℤ high) (pos (q - step) *ℤ low) (pos (suc (q - step)) *ℤ low) low (one_more (q - step) low)
      (compared (suc q) q step (suc (q - step)) step (q - step) (omega arith) (omega arith) (omega arith) refl (c.best (suc q) (omega arith))))
      (cases_lt q step)

  to_steps : (q : ℕ) → Content r o q → ContentInSteps step o.largest q high low
  to_steps q c = record { possible = c.possible; some = some_wanted q c; more = more_wanted q c; few = few_wanted q c; not_all = not_all_wanted q c }

  same_rest : (a b : ℕ) → a - step ≡ b - step → (pos (a - step) *ℤ low) ≤ℤ (pos (b - step) *ℤ low)
  same_rest a b e = level (pos (a - step) *ℤ low) (pos (b - step) *ℤ low) (ap (λ n. pos n *ℤ low) e)

  same_first : (a b : ℕ) → min a step ≡ min b step → (pos (min a step) *ℤ high) ≤ℤ (pos (min b step) *ℤ high)
  same_first a b e = level (pos (min a step) *ℤ high) (pos (min b step) *ℤ high) (ap (λ n. pos n *ℤ high) e)

  best_below : (q other : ℕ) → ContentInSteps step o.largest q high low → other < q → gained high low (min other step) (other - step) ≤ℤ gained high low (min q step) (q - step)
  best_below q other c l = both (pos (min other step) *ℤ high) (pos (other - step) *ℤ low) (pos (min q step) *ℤ high) (pos (q - step) *ℤ low)
      (rising (min other step) (min q step) high (omega arith) (c.some (omega arith)))
      (⊎_elim (λ s. rising (other - step) (q - step) low (omega arith) (c.more s)) (λ s. same_rest other q (omega arith)) (cases_lt step q))

  best_above : (q other : ℕ) → ContentInSteps step o.largest q high low → other ≤ o.largest → q < other → gained high low (min other step) (other - step) ≤ℤ gained high low (min q step) (q - step)
  best_above q other c p l = both (pos (min other step) *ℤ high) (pos (other - step) *ℤ low) (pos (min q step) *ℤ high) (pos (q - step) *ℤ low)
      (⊎_elim (λ s. falling (min q step) (min other step) high (omega arith) (c.few s)) (λ s. same_first other q (omega arith)) (cases_lt q step))
      (falling (q - step) (other - step) low (omega arith) (c.not_all (omega arith)))

  from_steps : (q : ℕ) → ContentInSteps step o.largest q high low → Content r o q
  from_steps q c = record {
    possible = c.possible;
    best = λ other p. carried (gain r o other) (gain r o q) (gained high low (min other step) (other - step)) (gained high low (min q step) (q - step)) (in_two other) (in_two q)
        (⊎_elim (λ e. level (gained high low (min other step) (other - step)) (gained high low (min q step) (q - step)) (ap (λ n. gained high low (min n step) (n - step)) e))
        (⊎_elim (best_below q other c) (best_above q other c p)) (cases_order other q));
  }

  pub content_by_steps : (q : ℕ) (b : Bool) (h l : ℤ) → Decides b (ContentInSteps step o.largest q h l) → h ≡ high → l ≡ low → Decides b (Content r o q)
  content_by_steps q b h l d e f =
      let there : ContentInSteps step o.largest q h l → ContentInSteps step o.largest q high low = λ x. subst (λ y. ContentInSteps step o.largest q high y) f (subst (λ y. ContentInSteps step o.largest q y l) e x) in
      let back : ContentInSteps step o.largest q high low → ContentInSteps step o.largest q h l = λ x. subst (λ y. ContentInSteps step o.largest q y l) (sym e) (subst (λ y. ContentInSteps step o.largest q high y) (sym f) x) in
      (λ t. from_steps q (there (d.0 t)), λ c. d.1 (back (to_steps q c)))

-- ---- the gain of a bid in two steps
parts : (q step : ℕ) → min q step + (q - step) ≡ q
parts q step = omega arith

worth_parts : (x y a l : ℕ) → pos 1000 *ℤ pos (a * x + l * y) ≡ pos x *ℤ scaled a +ℤ pos y *ℤ scaled l
worth_parts x y a l = ap pos (mul-add 1000 (a * x) (l * y) ∙ joined (1000 * (a * x)) (1000 * (l * y)) (x * (1000 * a)) (y * (1000 * l)) (turned a x) (turned l y))
  where
    turned : (b z : ℕ) → 1000 * (b * z) ≡ z * (1000 * b)
    turned b z = sym (mul_assoc 1000 b z) ∙ mul_comm (1000 * b) z

    joined : (u v u' v' : ℕ) → u ≡ u' → v ≡ v' → u + v ≡ u' + v'
    joined u v u' v' p q = omega arith

paid_parts : (q x y : ℕ) (p : ℤ) → x + y ≡ q → pos q *ℤ p ≡ pos x *ℤ p +ℤ pos y *ℤ p
paid_parts q x y p e = subst (λ n. pos n *ℤ p ≡ pos x *ℤ p +ℤ pos y *ℤ p) e (added x y p)

less_paid : (x : ℕ) (a p : ℤ) → pos x *ℤ (a -ℤ p) ≡ pos x *ℤ a -ℤ pos x *ℤ p
less_paid x a p = distrib (pos x) a (neg_ℤ p) ∙ ap (λ z. pos x *ℤ a +ℤ z) (mul_neg (pos x) p)

sorted : (w out u v s t f g : ℤ) → w ≡ u +ℤ v → out ≡ neg_ℤ (s +ℤ t) → f ≡ u -ℤ s → g ≡ v -ℤ t → w +ℤ out ≡ f +ℤ g
sorted w out u v s t f g a b c d = omega (arith, ints)

pub steps_gain : (prices : List ℤ) → length prices ≡ 24 → (zone price largest q : ℕ) → gain (array_prices prices) (stepped zone price largest) q ≡ gained (scaled price -ℤ price_in prices zone) (scaled (price / 2) -ℤ price_in prices zone) (min q (largest / 2)) (q - largest / 2)
steps_gain prices each zone price largest q =
    let x : ℕ = min q (largest / 2) in
    let y : ℕ = q - largest / 2 in
    let p : ℤ = price_in prices zone in
    sorted (pos 1000 *ℤ pos (in_steps (largest / 2) price (price / 2) q)) (Σ 24 (λ z. price_in prices z *ℤ neg_ℤ (into zone q z)))
    (pos x *ℤ scaled price) (pos y *ℤ scaled (price / 2)) (pos x *ℤ p) (pos y *ℤ p) (pos x *ℤ (scaled price -ℤ p)) (pos y *ℤ (scaled (price / 2) -ℤ p))
    (worth_parts x y price (price / 2)) (paid_out prices each zone q ∙ ap neg_ℤ (paid_parts q x y p (parts q (largest / 2)))) (less_paid x (scaled price) p) (less_paid y (scaled (price / 2)) p)

pub lower_step : (price : ℕ) (p : ℤ) → (scaled (price / 2) -ℤ p) ≤ℤ (scaled price -ℤ p)
lower_step price p = let h : 1000 * (price / 2) ≤ 1000 * price = omega arith in moved (scaled (price / 2)) (scaled price) p (less_scaled (1000 * (price / 2)) (1000 * price) h)
  where
    less_scaled : (m n : ℕ) → m ≤ n → pos m ≤ℤ pos n
    less_scaled m n h = omega (arith, ints)

    moved : (a b p : ℤ) → a ≤ℤ b → (a -ℤ p) ≤ℤ (b -ℤ p)
    moved a b p h = omega (arith, ints)

pub steps_at_most : (price largest q : ℕ) → price ≤ 500000 → in_steps (largest / 2) price (price / 2) q ≤ 500000 * q
steps_at_most price largest q h =
    let low : price / 2 ≤ 500000 = omega arith in
    let first = at_most price (min q (largest / 2)) h in
    let rest = at_most (price / 2) (q - largest / 2) low in
    let whole = parts q (largest / 2) in
    omega arith

pub stepped_sound : (zone price quantity : ℕ) → InRange price quantity → Sound (stepped zone price quantity)
stepped_sound zone price quantity t = record {
  largest_positive = t.some;
  largest_in_range = t.quantity_in_range;
  nothing_is_worth_nothing = ap pos (no_more (in_steps (quantity / 2) price (price / 2) 0) (steps_at_most price quantity 0 t.price_in_range));
  nothing_feeds_nothing = λ z. ap neg_ℤ (nothing zone z);
  worth_in_range = λ q p. steps_at_most price quantity q t.price_in_range;
  injections_in_range = λ q n p. let k = Σℕ_into n zone q in let l = Σℕ_under n (λ z. unsigned_abs (neg_ℤ (into zone q z))) (size zone q) (size zone q) (λ z. neg_size (into zone q z)) in omega arith;
  none_beyond_last = λ q z h. ap neg_ℤ (into_elsewhere zone q z (λ e. omega arith));
}
  where
    no_more : (n : ℕ) → n ≤ 0 → n ≡ 0
    no_more n h = omega arith

pub steps_same : (a l q step first : ℕ) → first ≡ min q step → a * first + l * (q - first) ≡ in_steps step a l q
steps_same a l q step first e = ap (λ n. a * n + l * (q - n)) e ∙ ap (λ n. a * min q step + l * n) (rest q step)
  where
    rest : (q step : ℕ) → q - min q step ≡ q - step
    rest q step = omega arith
