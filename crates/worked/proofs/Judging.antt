-- The verdict on a sheet, computed: every rule is tested at every place, in their order. It is right for every network, all orders and every sheet.
use Rattle.std.proofs.Common.{◌≡◌, ℕ, Bool, true, false, cond, leb, pos, nat_abs, Some, None, Ok, Decides, Option, refl, subst, inl, inr}
use lib.Signed.{le_z}
use Rattle.std.proofs.lemmas.Bool.{false≢true}
use Rattle.auction.specs.declared.Broken.{Broken}
use Rattle.auction.specs.declared.Broken.TheVariants.{Quantity, Balance, Flow, ZonePrice, Binding, Contentment}
use Rattle.auction.specs.Bounds.{most_zone_price}
use Rattle.auction.specs.Sums.{Σ, Σℕ}
use Rattle.auction.specs.Limits.{WithinLimit, Binds, capacity}
use Rattle.auction.specs.Grids.{Grid, line_count, limit_at}
use Rattle.auction.specs.Orders.{ZonePriceInRange}
use Rattle.auction.specs.Hours.{Book, Dispatch, Prices, Takes, Balanced, over_orders, net_injection, flow_over, zone_price, zone_prices, welfare_of, rent_of, exact_rent, amount_of}
use Rattle.auction.specs.Rules.{Accepted, FirstBroken}
use Rattle.tree.specs.Trees.{passes, share, tree_line, tree_lines}
use Rattle.orders.specs.Reads.{standing_kwh}
use Rattle.history.specs.declared.calls.Reply.TheVariants as Says
use Rattle.history.specs.Events.{Answer}
use Rattle.history.specs.Right.{Verdict}
use Rattle.judgement.specs.Parts.{AtEase, FirstFailing}
use Rattle.judgement.specs.Verdicts.{FirstOrder, OfOrder}
use Rattle.judgement.proofs.Verdicts.{MetBelow, quantities_met, quantity_first, balance_met, balance_first, flows_met, flow_first, zone_prices_met, zone_price_first, bindings_met, binding_first, contentment_first, all_met}
use Rattle.worked.specs.Cases.{refused}
use Rattle.worked.proofs.Searching.{or_else, mapped, first_failing, first_failing_is, first_order, first_order_in, first_order_is}
use Rattle.worked.proofs.Testing.{le_decides, le_ℤ_decides, same, same_decides, takes, takes_decides, binds, binds_decides, at_ease, at_ease_decides}

-- the first of the numbers or orders at which a rule is broken, and else what the later rules find
abbrev along : Option ℕ → (ℕ → Broken) → Option Broken → Option Broken
along found rule later = or_else (mapped rule found) later

abbrev at_orders : Option (ℕ × ℕ) → (ℕ → ℕ → Broken) → Option Broken → Option Broken
at_orders found rule later = or_else (mapped (λ place. rule place.0 place.1) found) later

module _ (g : Grid) (b : Book) (d : Dispatch) (p : Prices) where
  unfoldable pub first_broken : Option Broken
  first_broken =
      at_orders (first_order b d takes) Quantity
      (cond (same (Σ g.zones (net_injection b d)) (pos 0))
      (along (first_failing (λ l. le_z (flow_over g b d l) (capacity (limit_at g l))) (line_count g)) Flow
      (along (first_failing (λ z. leb (nat_abs (zone_price g p z)) most_zone_price) g.zones) ZonePrice
      (along (first_failing (λ l. binds (limit_at g l) (p.shadow l) (flow_over g b d l)) (line_count g)) Binding
      (at_orders (first_order b d (at_ease (zone_prices g p))) Contentment None))))
      (Some Balance))

  Found : Option Broken → Type 0
  Found None = Accepted g b d p
  Found (Some x) = FirstBroken g b d p x

  -- ---- each rule: broken first at the place that was found, or met, so that the later rules decide
  quantities : (o : Option (ℕ × ℕ)) → FirstOrder (OfOrder b d Takes) o → (later : Option Broken) → (MetBelow g b d p 11 → Found later) → Found (at_orders o Quantity later)
  unfolding Found
  quantities (Some place) (lists, before, fails) later go = quantity_first g b d p place.0 place.1 lists before fails
  quantities None all later go = go (quantities_met g b d p all)

  balance : (t : Bool) → Decides t (Balanced g b d) → MetBelow g b d p 11 → (later : Option Broken) → (MetBelow g b d p 12 → Found later) → Found (cond t later (Some Balance))
  unfolding Found
  balance true decides below later go = go (balance_met g b d p below (decides.0 refl))
  balance false decides below later go = balance_first g b d p below (λ met. false≢true (decides.1 met))

  flows : (o : Option ℕ) → FirstFailing (λ l. WithinLimit (limit_at g l) (flow_over g b d l)) (line_count g) o → MetBelow g b d p 12 → (later : Option Broken) → (MetBelow g b d p 13 → Found later) → Found (along o Flow later)
  unfolding Found
  flows (Some l) (there, before, fails) below later go = flow_first g b d p l below (λ k h _. before k h) (λ met. fails (met there))
  flows None all below later go = go (flows_met g b d p below all)

  zones_priced : (o : Option ℕ) → FirstFailing (λ z. ZonePriceInRange (zone_price g p z)) g.zones o → MetBelow g b d p 13 → (later : Option Broken) → (MetBelow g b d p 14 → Found later) → Found (along o ZonePrice later)
  unfolding Found
  zones_priced (Some z) (there, before, fails) below later go = zone_price_first g b d p z below (λ k h _. before k h) (λ met. fails (met there))
  zones_priced None all below later go = go (zone_prices_met g b d p below all)

  bindings : (o : Option ℕ) → FirstFailing (λ l. Binds (limit_at g l) (p.shadow l) (flow_over g b d l)) (line_count g) o → MetBelow g b d p 14 → (later : Option Broken) → (MetBelow g b d p 15 → Found later) → Found (along o Binding later)
  unfolding Found
  bindings (Some l) (there, before, fails) below later go = binding_first g b d p l below (λ k h _. before k h) (λ met. fails (met there))
  bindings None all below later go = go (bindings_met g b d p below all)

  contents : (o : Option (ℕ × ℕ)) → FirstOrder (OfOrder b d (AtEase (zone_prices g p))) o → MetBelow g b d p 15 → Found (at_orders o Contentment None)
  unfolding Found
  contents (Some place) (lists, before, fails) below = contentment_first g b d p place.0 place.1 below lists before fails
  contents None all below = all_met g b d p below all

  balanced_decides : Decides (same (Σ g.zones (net_injection b d)) (pos 0)) (Balanced g b d)
  unfolding Balanced
  balanced_decides = same_decides (Σ g.zones (net_injection b d)) (pos 0)

  found : Found first_broken
  unfolding first_broken
  found =
      quantities _ (first_order_is b d Takes takes takes_decides) _ λ below₁.
      balance _ balanced_decides below₁ _ λ below₂.
      flows _ (first_failing_is _ _ (λ l. le_ℤ_decides (flow_over g b d l) (capacity (limit_at g l))) (line_count g)) below₂ _ λ below₃.
      zones_priced _ (first_failing_is _ _ (λ z. le_decides (nat_abs (zone_price g p z)) most_zone_price) g.zones) below₃ _ λ below₄.
      bindings _ (first_failing_is _ _ (λ l. binds_decides (limit_at g l) (p.shadow l) (flow_over g b d l)) (line_count g)) below₄ _ λ below₅.
      contents _ (first_order_is b d (AtEase (zone_prices g p)) (at_ease (zone_prices g p)) (at_ease_decides (zone_prices g p))) below₅

  told : Option Broken → Answer
  told None = Ok (Says.Accepted (welfare_of b d) (rent_of g b d p))
  told (Some x) = refused x

  told_right : (o : Option Broken) → Found o → Verdict g b d p (told o)
  unfolding Found told
  told_right None ok = inl (ok, refl)
  told_right (Some x) first = inr (x, first, refl)

  unfoldable pub judged : Answer
  unfolding told
  judged = told first_broken

  pub judged_right : (a : Answer) → judged ≡ a → Verdict g b d p a
  unfolding judged
  judged_right a e = subst (Verdict g b d p) e (told_right first_broken found)

-- all that has to be opened to compute with a sheet of a tree's network
unfoldable pub computing : Unit {0}
unfolding judged first_broken first_failing first_order_in Σ Σℕ over_orders welfare_of net_injection flow_over zone_price exact_rent amount_of standing_kwh passes share tree_line tree_lines
computing = tt
