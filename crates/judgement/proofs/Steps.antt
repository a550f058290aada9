-- From what each step of the judgement finds to its verdict.
use Rattle.std.proofs.Common.{◌≡◌, ℕ, ◌≤◌, List, ℤ, pos, None, Ok, Err, sym, ◌∙◌, subst}
use Rattle.auction.specs.declared.Broken.{Broken}
use Rattle.auction.specs.declared.Broken.TheVariants.{Balance, Flow, Binding, Contentment}
use Rattle.auction.specs.Limits.{WithinLimit, Binds}
use Rattle.auction.specs.Grids.{Grid, line_count, limit_at}
use Rattle.auction.specs.Hours.{Book, Dispatch, Prices, Takes, Balanced, flow_over}
use Rattle.auction.specs.Rules.{Met, FirstBroken}
use Rattle.orders.specs.Reads.{array_prices}
use Rattle.flows.specs.Firsts.{Each, FirstFailing}
use Rattle.flows.specs.Flows.{Priced, array_flow, array_total}
use Rattle.places.specs.Places.{AtEase, EachOrder, FirstOrder, OfOrder}
use Rattle.judgement.specs.Verdicts.{Nets, Ruled}
use Rattle.judgement.proofs.Ties.{injections_tie, flow_tie, content_tie, content_back}
use Rattle.judgement.proofs.Verdicts.{MetBelow, quantities_met, balance_met, balance_first, flows_met, flow_first, zone_prices_met, zone_price_first, bindings_met, binding_first, contentment_first, all_met}

module _ (g : Grid) (b : Book) (d : Dispatch) (p : Prices) where
  module _ (few : g.zones ≤ 24) (nets : List ℤ) (found : Nets g.zones b d nets) (takes : FirstOrder (OfOrder b d Takes) None) where
    pub balance_broken : (array_total nets ≡ pos 0 → ⊥) → FirstBroken g b d p Balance
    unfolding Balanced
    balance_broken fails = balance_first g b d p (quantities_met g b d p takes) (λ met. fails (injections_tie g b d nets few found ∙ met))

    module _ (balanced : array_total nets ≡ pos 0) where
      after_balance : MetBelow g b d p 12
      unfolding Balanced
      after_balance = balance_met g b d p (quantities_met g b d p takes) (sym (injections_tie g b d nets few found) ∙ balanced)

      within : (l : ℕ) → WithinLimit (limit_at g l) (array_flow g nets l) → WithinLimit (limit_at g l) (flow_over g b d l)
      within l h = subst (WithinLimit (limit_at g l)) (flow_tie g b d nets few found l) h

      pub flow_broken : (broken : Broken) → Each Flow (λ k. WithinLimit (limit_at g k) (array_flow g nets k)) (line_count g) (Err broken) → FirstBroken g b d p broken
      flow_broken broken (l, is, (there, before, fails)) = subst (FirstBroken g b d p) (sym is) (flow_first g b d p l after_balance (λ j h listed. within j (before j h)) (λ met. fails (subst (WithinLimit (limit_at g l)) (sym (flow_tie g b d nets few found l)) (met there))))

      module _ (flows : FirstFailing (λ k. WithinLimit (limit_at g k) (array_flow g nets k)) (line_count g) None) where
        after_flows : MetBelow g b d p 13
        after_flows = flows_met g b d p after_balance (λ l listed. within l (flows l listed))

        pub zone_price_broken : (broken : Broken) → Priced g p (Err broken) → FirstBroken g b d p broken
        zone_price_broken broken (z, is, (there, before, fails)) = subst (FirstBroken g b d p) (sym is) (zone_price_first g b d p z after_flows (λ j h listed. before j h) (λ met. fails (met there)))

        module _ (prices : List ℤ) (priced : Priced g p (Ok prices)) where
          after_prices : MetBelow g b d p 14
          after_prices = zone_prices_met g b d p after_flows priced.0

          bound : (l : ℕ) → Binds (limit_at g l) (p.shadow l) (array_flow g nets l) → Binds (limit_at g l) (p.shadow l) (flow_over g b d l)
          bound l h = subst (Binds (limit_at g l) (p.shadow l)) (flow_tie g b d nets few found l) h

          pub binding_broken : (broken : Broken) → Each Binding (λ k. Binds (limit_at g k) (p.shadow k) (array_flow g nets k)) (line_count g) (Err broken) → FirstBroken g b d p broken
          binding_broken broken (l, is, (there, before, fails)) = subst (FirstBroken g b d p) (sym is) (binding_first g b d p l after_prices (λ j h listed. bound j (before j h)) (λ met. fails (subst (Binds (limit_at g l) (p.shadow l)) (sym (flow_tie g b d nets few found l)) (met there))))

          module _ (binding : FirstFailing (λ k. Binds (limit_at g k) (p.shadow k) (array_flow g nets k)) (line_count g) None) where
            after_binding : MetBelow g b d p 15
            after_binding = bindings_met g b d p after_prices (λ l listed. bound l (binding l listed))

            eased : (l n : ℕ) → OfOrder b d (AtEase (array_prices prices)) l n → Met g b d p (Contentment l n)
            eased l n ease entered stands = content_tie g p prices few priced.1 _ _ (ease entered stands)

            pub contentment_broken : (broken : Broken) → EachOrder Contentment (OfOrder b d (AtEase (array_prices prices))) (Err broken) → FirstBroken g b d p broken
            contentment_broken broken (place, is, (lists, before, fails)) = subst (FirstBroken g b d p) (sym is) (contentment_first g b d p place.0 place.1 after_binding (λ j m h. eased j m (lists j m h)) (λ m h. eased place.0 m (before m h)) (λ met. fails (λ entered stands. content_back g p prices few priced.1 _ _ (met entered stands))))

            pub none_broken : FirstOrder (OfOrder b d (AtEase (array_prices prices))) None → Ruled g b d p (Ok prices)
            none_broken eases = (all_met g b d p after_binding (λ l n. eased l n (eases l n)), priced.1)
