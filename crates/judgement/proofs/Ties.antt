-- What is worked out over arrays with a place for each possible zone is what the network's zones give.
use Rattle.std.proofs.Common.{◌≡◌, ℕ, ◌+◌, ◌-◌, ◌<◌, ◌≤◌, cond, eqb, List, get_or, ℤ, pos, ◌+ℤ◌, ◌*ℤ◌, neg_ℤ, ◌≤ℤ◌, sym, ap, ◌∙◌, subst, arith}
use lib.IntN.{zero-*ℤ, *ℤ-zero}
use Rattle.auction.specs.Sums.{Σ}
use Rattle.auction.specs.Grids.{Grid, sensitivity_at}
use Rattle.auction.specs.Orders.{Order, Content, gain, proceeds}
use Rattle.auction.specs.Hours.{Book, Dispatch, Prices, net_injection, flow_over, zone_price, zone_prices, over_orders, amount_of, charge, entry_at}
use Rattle.orders.specs.Reads.{array_prices}
use Rattle.laws.proofs.Sums.{Σ_same}
use Rattle.laws.proofs.Books.{orders_same}
use Rattle.judgement.specs.Parts.{own_charge}
use Rattle.flows.specs.Flows.{array_flow, array_total}
use Rattle.judgement.specs.Verdicts.{Nets}
use Rattle.flows.proofs.Summing.{Σ_beyond}
use Rattle.flows.proofs.Pricing.{price_outside}

-- a sum over all places is one over the zones, where nothing stands beyond
to_zones : (f h : ℕ → ℤ) (zones : ℕ) → zones ≤ 24 → ((z : ℕ) → zones ≤ z → f z ≡ pos 0) → ((z : ℕ) → z < zones → f z ≡ h z) → Σ 24 f ≡ Σ zones h
to_zones f h zones few beyond same = ap (λ n. Σ n f) (rest zones few) ∙ Σ_beyond f zones (24 - zones) beyond ∙ Σ_same zones f h same
  where
    rest : (zones : ℕ) → zones ≤ 24 → 24 ≡ 24 - zones + zones
    rest zones few = omega arith

module _ (g : Grid) (b : Book) (d : Dispatch) (nets : List ℤ) (few : g.zones ≤ 24) (found : Nets g.zones b d nets) where
  pub injections_tie : array_total nets ≡ Σ g.zones (net_injection b d)
  injections_tie = to_zones (λ z. get_or nets z (pos 0)) (net_injection b d) g.zones few found.outside found.inside

  pub flow_tie : (l : ℕ) → array_flow g nets l ≡ flow_over g b d l
  unfolding array_flow flow_over
  flow_tie l = to_zones (λ z. sensitivity_at g l z *ℤ get_or nets z (pos 0)) (λ z. sensitivity_at g l z *ℤ net_injection b d z) g.zones few
      (λ z h. ap (λ x. sensitivity_at g l z *ℤ x) (found.outside z h) ∙ *ℤ-zero (sensitivity_at g l z))
      (λ z h. ap (λ x. sensitivity_at g l z *ℤ x) (found.inside z h))

module _ (g : Grid) (p : Prices) (prices : List ℤ) (few : g.zones ≤ 24) (found : (z : ℕ) → get_or prices z (pos 0) ≡ zone_price g p z) where
  pub proceeds_tie : (o : Order) (q : ℕ) → proceeds (array_prices prices) o q ≡ proceeds (zone_prices g p) o q
  proceeds_tie o q = to_zones (λ z. get_or prices z (pos 0) *ℤ o.injection q z) (λ z. zone_price g p z *ℤ o.injection q z) g.zones few
      (λ z h. ap (λ x. x *ℤ o.injection q z) (found z ∙ price_outside g p z h) ∙ zero-*ℤ (o.injection q z))
      (λ z h. ap (λ x. x *ℤ o.injection q z) (found z))

  gain_tie : (o : Order) (q : ℕ) → gain (array_prices prices) o q ≡ gain (zone_prices g p) o q
  gain_tie o q = ap (λ x. pos 1000 *ℤ o.worth q +ℤ x) (proceeds_tie o q)

  pub content_tie : (o : Order) (q : ℕ) → Content (array_prices prices) o q → Content (zone_prices g p) o q
  content_tie o q content = record {
    possible = content.possible;
    best = λ other may. subst (λ (x : ℤ). x ≤ℤ gain (zone_prices g p) o q) (gain_tie o other) (subst (λ (x : ℤ). gain (array_prices prices) o other ≤ℤ x) (gain_tie o q) (content.best other may));
  }

  pub content_back : (o : Order) (q : ℕ) → Content (zone_prices g p) o q → Content (array_prices prices) o q
  content_back o q content = record {
    possible = content.possible;
    best = λ other may. subst (λ (x : ℤ). x ≤ℤ gain (array_prices prices) o q) (sym (gain_tie o other)) (subst (λ (x : ℤ). gain (zone_prices g p) o other ≤ℤ x) (sym (gain_tie o q)) (content.best other may));
  }

  pub amount_tie : (b : Book) (d : Dispatch) (house : ℕ) → over_orders b d (own_charge (array_prices prices) house) ≡ amount_of g b d p house
  unfolding amount_of
  amount_tie b d house = orders_same b d d (own_charge (array_prices prices) house) (λ e q. cond (eqb e.house house) (charge g p e q) (pos 0))
      (λ l n entered. ap (λ x. cond (eqb (entry_at b l n).house house) (neg_ℤ x) (pos 0)) (proceeds_tie (entry_at b l n).order (d l n)))
