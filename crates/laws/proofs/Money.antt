-- What all orders together gain and are paid, told by welfare-of and by the shadow prices of the lines.
use Rattle.std.proofs.Common.{◌≡◌, ℕ, ◌<◌, cond, ℤ, pos, ◌+ℤ◌, ◌-ℤ◌, ◌*ℤ◌, neg_ℤ, sym, ap, ◌∙◌, arith, lt-ltb}
use borrow.Author.Differences.{ints}
use lib.IntN.{*ℤ-zero}
use Rattle.auction.specs.Sums.{Σ}
use Rattle.auction.specs.Grids.{Grid, line_count, sensitivity_at}
use Rattle.auction.specs.Orders.{gain, proceeds}
use Rattle.auction.specs.Hours.{Book, Dispatch, Prices, over_orders, welfare_of, net_injection, flow_over, Balanced, zone_price, zone_prices}
use Rattle.laws.proofs.Ring.{both_sums, sub_mul, mul_assoc}
use Rattle.laws.proofs.Sums.{Σ_same, Σ_plus, Σ_neg, Σ_times, Σ_times_right, Σ_swap}
use Rattle.laws.proofs.Books.{orders_plus, orders_times, orders_swap}

module _ (g : Grid) (b : Book) (d : Dispatch) (p : Prices) where
  -- what the flows of all lines earn at the shadow prices
  unfoldable pub congestion : ℤ
  congestion = Σ (line_count g) (λ l. pos (p.shadow l) *ℤ flow_over g b d l)

  -- what all orders are paid is each zone's price times its net injection
  paid_by_zone : over_orders b d (λ e q. proceeds (zone_prices g p) e.order q) ≡ Σ g.zones (λ z. zone_price g p z *ℤ net_injection b d z)
  unfolding net_injection
  paid_by_zone =
      orders_swap b d g.zones (λ z e q. zone_price g p z *ℤ e.order.injection q z)
      ∙ Σ_same g.zones _ _ (λ z _. orders_times b d (zone_price g p z) (λ e q. e.order.injection q z))

  -- one zone's share
  discount : ℕ → ℤ
  discount z = Σ (line_count g) (λ l. pos (p.shadow l) *ℤ sensitivity_at g l z)

  zone_share : (z : ℕ) → z < g.zones → zone_price g p z *ℤ net_injection b d z ≡ p.lambda *ℤ net_injection b d z -ℤ Σ (line_count g) (λ l. pos (p.shadow l) *ℤ (sensitivity_at g l z *ℤ net_injection b d z))
  unfolding zone_price discount
  zone_share z inside =
      ap (λ x. x *ℤ net_injection b d z) (ap (λ t. cond t (p.lambda -ℤ discount z) (pos 0)) (lt-ltb z g.zones inside))
      ∙ sub_mul p.lambda (discount z) (net_injection b d z)
      ∙ ap (λ x. p.lambda *ℤ net_injection b d z -ℤ x) (sym (Σ_times_right (line_count g) (λ l. pos (p.shadow l) *ℤ sensitivity_at g l z) (net_injection b d z))
      ∙ Σ_same (line_count g) _ _ (λ l _. mul_assoc (pos (p.shadow l)) (sensitivity_at g l z) (net_injection b d z)))

  -- lambda pays for the net injections of all zones, which add up to 0
  lambda_pays_nothing : Balanced g b d → Σ g.zones (λ z. p.lambda *ℤ net_injection b d z) ≡ pos 0
  unfolding Balanced
  lambda_pays_nothing balanced = Σ_times g.zones p.lambda (net_injection b d) ∙ ap (λ x. p.lambda *ℤ x) balanced ∙ *ℤ-zero p.lambda

  zones_to_lines : Σ g.zones (λ z. Σ (line_count g) (λ l. pos (p.shadow l) *ℤ (sensitivity_at g l z *ℤ net_injection b d z))) ≡ congestion
  unfolding congestion flow_over
  zones_to_lines =
      Σ_swap g.zones (line_count g) (λ z l. pos (p.shadow l) *ℤ (sensitivity_at g l z *ℤ net_injection b d z))
      ∙ Σ_same (line_count g) _ _ (λ l _. Σ_times g.zones (pos (p.shadow l)) (λ z. sensitivity_at g l z *ℤ net_injection b d z))

  -- a balanced dispatch is paid the negative of what its flows earn
  pub paid_is_congestion : Balanced g b d → over_orders b d (λ e q. proceeds (zone_prices g p) e.order q) ≡ neg_ℤ congestion
  paid_is_congestion balanced =
      paid_by_zone
      ∙ Σ_same g.zones _ _ zone_share
      ∙ Σ_plus g.zones (λ z. p.lambda *ℤ net_injection b d z) (λ z. neg_ℤ (by_line z))
      ∙ remainder (Σ g.zones (λ z. p.lambda *ℤ net_injection b d z)) (Σ g.zones (λ z. neg_ℤ (by_line z))) congestion (lambda_pays_nothing balanced) (Σ_neg g.zones by_line ∙ ap neg_ℤ zones_to_lines)
    where
      by_line : ℕ → ℤ
      by_line z = Σ (line_count g) (λ l. pos (p.shadow l) *ℤ (sensitivity_at g l z *ℤ net_injection b d z))

      remainder : (x y c : ℤ) → x ≡ pos 0 → y ≡ neg_ℤ c → x +ℤ y ≡ neg_ℤ c
      remainder x y c h k = omega (arith, ints)

  -- what all orders of a balanced dispatch gain
  pub gained : Balanced g b d → over_orders b d (λ e q. gain (zone_prices g p) e.order q) ≡ pos 1000 *ℤ welfare_of b d -ℤ congestion
  unfolding welfare_of
  gained balanced =
      orders_plus b d (λ e q. pos 1000 *ℤ e.order.worth q) (λ e q. proceeds (zone_prices g p) e.order q)
      ∙ both_sums (orders_times b d (pos 1000) (λ e q. e.order.worth q)) (paid_is_congestion balanced)
