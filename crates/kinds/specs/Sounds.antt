-- Offers, bids and transfers are what every kind of order owes.
use Rattle.std.specs.Prelude.{◌≡◌, ℕ, zero, suc, ◌+◌, ◌*◌, ◌≤◌, true, false, cond, ℤ, pos, ◌-ℤ◌, neg_ℤ, ◌==◌, unsigned_abs, refl}
use Rattle.std.proofs.Common.{ap, ⊎_elim, mul-zero, mul-le-mul_right, arith}
use Rattle.std.proofs.lemmas.Int.{ints}
use Rattle.std.proofs.lemmas.Bool.{cases_eq}
use Rattle.auction.specs.Sums.{Σℕ}
use Rattle.auction.specs.Orders.{Sound}
use Rattle.rows.specs.Bounds.{InRange}
use Rattle.kinds.specs.Kinds.{into, offer, bid, transfer}
use Rattle.kinds.specs.Gains.{into_here, into_elsewhere}

abbrev pub size : (zone q z : ℕ) → ℕ
size zone q z = unsigned_abs (into zone q z)

-- ---- the sizes of what goes into one zone add up to at most q
Σℕ_beyond : (n zone q : ℕ) → n ≤ zone → Σℕ n (size zone q) ≡ 0
unfolding Σℕ
Σℕ_beyond zero zone q h = refl
Σℕ_beyond (suc n) zone q h =
    let e : Σℕ n (size zone q) ≡ 0 = Σℕ_beyond n zone q (omega arith) in
    let k : unsigned_abs (into zone q n) ≡ 0 = ap unsigned_abs (into_elsewhere zone q n (λ s. omega arith)) in
    omega arith

pub Σℕ_into : (n zone q : ℕ) → Σℕ n (size zone q) ≤ q
unfolding Σℕ
Σℕ_into zero zone q = omega arith
Σℕ_into (suc n) zone q = ⊎_elim
    (λ e. let k : unsigned_abs (into zone q n) ≡ q = ap unsigned_abs (into_here zone q n e) in let o : Σℕ n (size zone q) ≡ 0 = Σℕ_beyond n zone q (omega arith) in omega arith)
    (λ ne. let k : unsigned_abs (into zone q n) ≡ 0 = ap unsigned_abs (into_elsewhere zone q n ne) in let o : Σℕ n (size zone q) ≤ q = Σℕ_into n zone q in omega arith)
    (cases_eq n zone)

-- a sum of sizes, each at most one of another sum and one of a third
pub Σℕ_under : (n : ℕ) (f g h : ℕ → ℕ) → ((i : ℕ) → f i ≤ g i + h i) → Σℕ n f ≤ Σℕ n g + Σℕ n h
unfolding Σℕ
Σℕ_under zero f g h e = omega arith
Σℕ_under (suc n) f g h e = let k = Σℕ_under n f g h e in let l = e n in omega arith

pub neg_size : (x : ℤ) → unsigned_abs (neg_ℤ x) ≤ unsigned_abs x + unsigned_abs x
neg_size x = omega (arith, ints)

triangle : (x y : ℤ) → unsigned_abs (x -ℤ y) ≤ unsigned_abs x + unsigned_abs y
triangle x y = omega (arith, ints)

pub at_most : (price q : ℕ) → price ≤ 500000 → price * q ≤ 500000 * q
at_most price q h = mul-le-mul_right q h

neg_abs : (n : ℕ) → unsigned_abs (neg_ℤ (pos n)) ≡ n
neg_abs n = omega (arith, ints)

pub nothing : (zone z : ℕ) → into zone 0 z ≡ pos 0
nothing zone z = elim (z == zone) as (λ b. cond b (pos 0) (pos 0) ≡ pos 0) [ true ↦ refl | false ↦ refl ]

none_from_none : (x y : ℤ) → x ≡ pos 0 → y ≡ pos 0 → x -ℤ y ≡ pos 0
none_from_none x y p e = omega (arith, ints)

-- ---- the three kinds
pub offer_sound : (zone price quantity : ℕ) → InRange price quantity → Sound (offer zone price quantity)
offer_sound zone price quantity t = record {
  largest_positive = t.some;
  largest_in_range = t.quantity_in_range;
  nothing_is_worth_nothing = ap (λ x. neg_ℤ (pos x)) (mul-zero price);
  nothing_feeds_nothing = nothing zone;
  worth_in_range = λ q p. let k = at_most price q t.price_in_range in let e = neg_abs (price * q) in omega arith;
  injections_in_range = λ q n p. let k = Σℕ_into n zone q in omega arith;
  none_beyond_last = λ q z h. into_elsewhere zone q z (λ e. omega arith);
}

pub bid_sound : (zone price quantity : ℕ) → InRange price quantity → Sound (bid zone price quantity)
bid_sound zone price quantity t = record {
  largest_positive = t.some;
  largest_in_range = t.quantity_in_range;
  nothing_is_worth_nothing = ap pos (mul-zero price);
  nothing_feeds_nothing = λ z. ap neg_ℤ (nothing zone z);
  worth_in_range = λ q p. at_most price q t.price_in_range;
  injections_in_range = λ q n p. let k = Σℕ_into n zone q in let l = Σℕ_under n (λ z. unsigned_abs (neg_ℤ (into zone q z))) (size zone q) (size zone q) (λ z. neg_size (into zone q z)) in omega arith;
  none_beyond_last = λ q z h. ap neg_ℤ (into_elsewhere zone q z (λ e. omega arith));
}

pub transfer_sound : (first second price quantity : ℕ) → InRange price quantity → Sound (transfer first second price quantity)
transfer_sound first second price quantity t = record {
  largest_positive = t.some;
  largest_in_range = t.quantity_in_range;
  nothing_is_worth_nothing = ap pos (mul-zero price);
  nothing_feeds_nothing = λ z. none_from_none (into first 0 z) (into second 0 z) (nothing first z) (nothing second z);
  worth_in_range = λ q p. at_most price q t.price_in_range;
  injections_in_range = λ q n p. let k = Σℕ_into n first q in let m = Σℕ_into n second q in let l = Σℕ_under n (λ z. unsigned_abs (into first q z -ℤ into second q z)) (size first q) (size second q) (λ z. triangle (into first q z) (into second q z)) in omega arith;
  none_beyond_last = λ q z h. none_from_none (into first q z) (into second q z) (into_elsewhere first q z (λ e. omega arith)) (into_elsewhere second q z (λ e. omega arith));
}
