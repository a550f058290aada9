-- The price of a zone that a network has, and of one that it lacks.
use Rattle.std.proofs.Common.{◌≡◌, ℕ, ◌+◌, ◌<◌, ◌≤◌, cond, List, length, get_or, set, replicate, ℤ, pos, ◌-ℤ◌, Ok, sym, refl, ap, ◌∙◌, subst, ⊎_elim, arith, le-ltb, lt-ltb}
use Rattle.std.proofs.lemmas.List.{length-set}
use Rattle.std.proofs.lemmas.Bool.{cases_eq, cases_lt}
use Rattle.auction.specs.Orders.{ZonePriceInRange}
use Rattle.flows.proofs.Arrays.{zeros, at_set}
use Rattle.auction.specs.Sums.{Σ}
use Rattle.auction.specs.Grids.{Grid, line_count}
use Rattle.auction.specs.Hours.{Prices, zone_price}
use Rattle.flows.specs.Flows.{Priced, discount}

pub price_inside : (g : Grid) (p : Prices) (z : ℕ) → z < g.zones → zone_price g p z ≡ p.lambda -ℤ Σ (line_count g) (discount g p z)
unfolding zone_price
price_inside g p z h = ap (λ t. cond t (p.lambda -ℤ Σ (line_count g) (discount g p z)) (pos 0)) (lt-ltb z g.zones h)

pub price_outside : (g : Grid) (p : Prices) (z : ℕ) → g.zones ≤ z → zone_price g p z ≡ pos 0
unfolding zone_price
price_outside g p z h = ap (λ t. cond t (p.lambda -ℤ Σ (line_count g) (discount g p z)) (pos 0)) (le-ltb z g.zones h)

-- the prices of the zones so far, in range, and 0 for all others
pub record PricedBefore (g : Grid) (p : Prices) (i : ℕ) (prices : List ℤ) : Type 0 where
  pub inside : (z : ℕ) → z < i → get_or prices z (pos 0) ≡ zone_price g p z
  pub in_range : (z : ℕ) → z < i → ZonePriceInRange (zone_price g p z)
  pub outside : (z : ℕ) → i ≤ z → get_or prices z (pos 0) ≡ pos 0
  pub full : length prices ≡ 24

module _ (g : Grid) (p : Prices) where
  pub priced_start : PricedBefore g p 0 (replicate 24 (pos 0))
  priced_start = record { inside = λ z h. absurd (none z h); in_range = λ z h. absurd (none z h); outside = λ z h. zeros 24 z; full = refl }
    where
      none : (z : ℕ) → z < 0 → ⊥
      none z h = omega arith

  pub priced_next : (i : ℕ) (prices : List ℤ) (v : ℤ) → PricedBefore g p i prices → i < 24 → v ≡ zone_price g p i → ZonePriceInRange (zone_price g p i) → PricedBefore g p (i + 1) (set prices i v)
  priced_next i prices v so_far h is ranged = record {
    inside = λ z l. at_set (λ x. x ≡ zone_price g p z) prices i z v place (λ e. is ∙ ap (zone_price g p) (sym e)) (λ ne. so_far.inside z (less z i l ne));
    in_range = λ z l. ⊎_elim (λ e. subst (λ (k : ℕ). ZonePriceInRange (zone_price g p k)) (sym e) ranged) (λ ne. so_far.in_range z (less z i l ne)) (cases_eq z i);
    outside = λ z l. at_set (λ x. x ≡ pos 0) prices i z v place (λ e. absurd (beyond z i l e)) (λ ne. so_far.outside z (omega arith));
    full = length-set prices i v ∙ so_far.full;
  }
    where
      place : i < length prices
      place = subst (λ (n : ℕ). i < n) (sym so_far.full) h

      less : (z i : ℕ) → z < i + 1 → (z ≡ i → ⊥) → z < i
      less z i l ne = omega arith

      beyond : (z i : ℕ) → i + 1 ≤ z → z ≡ i → ⊥
      beyond z i l e = omega arith

  -- beyond the zones the prices are 0
  pub priced_all : (i : ℕ) (prices : List ℤ) → PricedBefore g p i prices → g.zones ≤ i → Priced g p (Ok prices)
  priced_all i prices so_far all =
      ((λ z l. so_far.in_range z (omega arith)), λ z. ⊎_elim (so_far.inside z) (λ l. so_far.outside z l ∙ sym (price_outside g p z (omega arith))) (cases_lt z i))

  -- so that only a zone of the network can have one that is out of range
  pub fails_inside : (z : ℕ) → (ZonePriceInRange (zone_price g p z) → ⊥) → z < g.zones
  fails_inside z fails = ⊎_elim (λ l. l) (λ l. absurd (fails (subst ZonePriceInRange (sym (price_outside g p z l)) (omega arith)))) (cases_lt z g.zones)
