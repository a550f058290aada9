-- From what the judgement finds, rule by rule, to its verdict.
use Rattle.std.proofs.Common.{◌≡◌, ℕ, ◌+◌, ◌<◌, ◌⊎◌, sym, refl, ap, ◌∙◌, subst, ⊎_elim, arith}
use Rattle.std.proofs.lemmas.Bool.{cases_eq}
use Rattle.auction.specs.declared.Broken.{Broken}
use Rattle.auction.specs.declared.Broken.TheVariants.{Quantity, Balance, Flow, ZonePrice, Binding, Contentment}
use Rattle.auction.specs.Refusals.{broken_number, broken_place}
use Rattle.auction.specs.Grids.{Grid}
use Rattle.auction.specs.Hours.{Book, Dispatch, Prices}
use Rattle.auction.specs.Rules.{Met, Accepted, FirstBroken}

-- each rule is told by its number
only_quantity : (y : Broken) → broken_number y ≡ 10 → (l : ℕ) × (n : ℕ) × (y ≡ Quantity l n)
only_quantity (Quantity l n) e = (l, n, refl)
only_quantity Balance e = absurd (omega arith)
only_quantity (Flow l) e = absurd (omega arith)
only_quantity (ZonePrice z) e = absurd (omega arith)
only_quantity (Binding l) e = absurd (omega arith)
only_quantity (Contentment l n) e = absurd (omega arith)

only_balance : (y : Broken) → broken_number y ≡ 11 → y ≡ Balance
only_balance (Quantity l n) e = absurd (omega arith)
only_balance Balance e = refl
only_balance (Flow l) e = absurd (omega arith)
only_balance (ZonePrice z) e = absurd (omega arith)
only_balance (Binding l) e = absurd (omega arith)
only_balance (Contentment l n) e = absurd (omega arith)

only_flow : (y : Broken) → broken_number y ≡ 12 → (l : ℕ) × (y ≡ Flow l)
only_flow (Quantity l n) e = absurd (omega arith)
only_flow Balance e = absurd (omega arith)
only_flow (Flow l) e = (l, refl)
only_flow (ZonePrice z) e = absurd (omega arith)
only_flow (Binding l) e = absurd (omega arith)
only_flow (Contentment l n) e = absurd (omega arith)

only_zone_price : (y : Broken) → broken_number y ≡ 13 → (z : ℕ) × (y ≡ ZonePrice z)
only_zone_price (Quantity l n) e = absurd (omega arith)
only_zone_price Balance e = absurd (omega arith)
only_zone_price (Flow l) e = absurd (omega arith)
only_zone_price (ZonePrice z) e = (z, refl)
only_zone_price (Binding l) e = absurd (omega arith)
only_zone_price (Contentment l n) e = absurd (omega arith)

only_binding : (y : Broken) → broken_number y ≡ 14 → (l : ℕ) × (y ≡ Binding l)
only_binding (Quantity l n) e = absurd (omega arith)
only_binding Balance e = absurd (omega arith)
only_binding (Flow l) e = absurd (omega arith)
only_binding (ZonePrice z) e = absurd (omega arith)
only_binding (Binding l) e = (l, refl)
only_binding (Contentment l n) e = absurd (omega arith)

only_contentment : (y : Broken) → broken_number y ≡ 15 → (l : ℕ) × (n : ℕ) × (y ≡ Contentment l n)
only_contentment (Quantity l n) e = absurd (omega arith)
only_contentment Balance e = absurd (omega arith)
only_contentment (Flow l) e = absurd (omega arith)
only_contentment (ZonePrice z) e = absurd (omega arith)
only_contentment (Binding l) e = absurd (omega arith)
only_contentment (Contentment l n) e = (l, n, refl)

nearer : (i a c j : ℕ) → a ≡ j → c ≡ i → a < c → j < i
nearer i a c j e f h = omega arith

at_or_below : (n k : ℕ) → n < k + 1 → (n ≡ k) ⊎ (n < k)
at_or_below n k h = grind (arith, cases_eq n k)

none_before_0 : (a c : ℕ) → c ≡ 0 → a < c → ⊥
none_before_0 a c e h = omega arith

module _ (g : Grid) (b : Book) (d : Dispatch) (p : Prices) where
  -- all rules with a smaller number are met
  abbrev pub MetBelow : ℕ → Type 0
  MetBelow k = (y : Broken) → broken_number y < k → Met g b d p y

  -- a rule that is put at each line, or at each zone
  module _ (mk : ℕ → Broken) (k : ℕ) (number : (i : ℕ) → broken_number (mk i) ≡ k) (first : (i : ℕ) → (broken_place (mk i)).0 ≡ i) (second : (i : ℕ) → (broken_place (mk i)).1 ≡ 0) (only : (y : Broken) → broken_number y ≡ k → (i : ℕ) × (y ≡ mk i)) where
    first_along : (i : ℕ) → MetBelow k → ((j : ℕ) → j < i → Met g b d p (mk j)) → (Met g b d p (mk i) → ⊥) → FirstBroken g b d p (mk i)
    first_along i below before fails = record {
      broken = fails;
      rules_before = λ y h. below y (subst (λ (n : ℕ). broken_number y < n) (number i) h);
      places_before = λ y e h. along y (only y (e ∙ number i)) h;
      there_before = λ y e f h. absurd (none_before_0 (broken_place y).1 (broken_place (mk i)).1 (second i) h);
    }
      where
        along : (y : Broken) → (j : ℕ) × (y ≡ mk j) → (broken_place y).0 < (broken_place (mk i)).0 → Met g b d p y
        along y found h = subst (Met g b d p) (sym found.1) (before found.0 (nearer i (broken_place y).0 (broken_place (mk i)).0 found.0 (ap (λ x. (broken_place x).0) found.1 ∙ first found.0) (first i) h))

    met_along : MetBelow k → ((j : ℕ) → Met g b d p (mk j)) → MetBelow (k + 1)
    met_along below all y h = ⊎_elim (λ e. here (only y e)) (below y) (at_or_below (broken_number y) k h)
      where
        here : (i : ℕ) × (y ≡ mk i) → Met g b d p y
        here found = subst (Met g b d p) (sym found.1) (all found.0)

  -- a rule that is put at each order of each list
  module _ (mk : ℕ → ℕ → Broken) (k : ℕ) (number : (l n : ℕ) → broken_number (mk l n) ≡ k) (first : (l n : ℕ) → (broken_place (mk l n)).0 ≡ l) (second : (l n : ℕ) → (broken_place (mk l n)).1 ≡ n) (only : (y : Broken) → broken_number y ≡ k → (l : ℕ) × (n : ℕ) × (y ≡ mk l n)) where
    first_order : (l n : ℕ) → MetBelow k → ((j m : ℕ) → j < l → Met g b d p (mk j m)) → ((m : ℕ) → m < n → Met g b d p (mk l m)) → (Met g b d p (mk l n) → ⊥) → FirstBroken g b d p (mk l n)
    first_order l n below lists before fails = record {
      broken = fails;
      rules_before = λ y h. below y (subst (λ (m : ℕ). broken_number y < m) (number l n) h);
      places_before = λ y e h. earlier_list y (only y (e ∙ number l n)) h;
      there_before = λ y e f h. earlier_here y (only y (e ∙ number l n)) f h;
    }
      where
        earlier_list : (y : Broken) → (j : ℕ) × (m : ℕ) × (y ≡ mk j m) → (broken_place y).0 < (broken_place (mk l n)).0 → Met g b d p y
        earlier_list y found h = subst (Met g b d p) (sym found.2) (lists found.0 found.1 (nearer l (broken_place y).0 (broken_place (mk l n)).0 found.0 (ap (λ x. (broken_place x).0) found.2 ∙ first found.0 found.1) (first l n) h))

        earlier_here : (y : Broken) → (j : ℕ) × (m : ℕ) × (y ≡ mk j m) → (broken_place y).0 ≡ (broken_place (mk l n)).0 → (broken_place y).1 < (broken_place (mk l n)).1 → Met g b d p y
        earlier_here y found f h =
            let same : found.0 ≡ l = sym (ap (λ x. (broken_place x).0) found.2 ∙ first found.0 found.1) ∙ f ∙ first l n in
            subst (Met g b d p) (sym found.2) (subst (λ (j : ℕ). Met g b d p (mk j found.1)) (sym same) (before found.1 (nearer n (broken_place y).1 (broken_place (mk l n)).1 found.1 (ap (λ x. (broken_place x).1) found.2 ∙ second found.0 found.1) (second l n) h)))

    met_orders : MetBelow k → ((l n : ℕ) → Met g b d p (mk l n)) → MetBelow (k + 1)
    met_orders below all y h = ⊎_elim (λ e. here (only y e)) (below y) (at_or_below (broken_number y) k h)
      where
        here : (l : ℕ) × (n : ℕ) × (y ≡ mk l n) → Met g b d p y
        here found = subst (Met g b d p) (sym found.2) (all found.0 found.1)

  -- ---- the rules in their order
  below_quantity : MetBelow 10
  below_quantity (Quantity l n) h = absurd (omega arith)
  below_quantity Balance h = absurd (omega arith)
  below_quantity (Flow l) h = absurd (omega arith)
  below_quantity (ZonePrice z) h = absurd (omega arith)
  below_quantity (Binding l) h = absurd (omega arith)
  below_quantity (Contentment l n) h = absurd (omega arith)

  pub quantities_met : ((l n : ℕ) → Met g b d p (Quantity l n)) → MetBelow 11
  quantities_met all = met_orders Quantity 10 (λ l n. refl) (λ l n. refl) (λ l n. refl) only_quantity below_quantity all

  pub quantity_first : (l n : ℕ) → ((j m : ℕ) → j < l → Met g b d p (Quantity j m)) → ((m : ℕ) → m < n → Met g b d p (Quantity l m)) → (Met g b d p (Quantity l n) → ⊥) → FirstBroken g b d p (Quantity l n)
  quantity_first l n = first_order Quantity 10 (λ l n. refl) (λ l n. refl) (λ l n. refl) only_quantity l n below_quantity

  pub balance_met : MetBelow 11 → Met g b d p Balance → MetBelow 12
  balance_met below met y h = ⊎_elim (λ e. subst (Met g b d p) (sym (only_balance y e)) met) (below y) (at_or_below (broken_number y) 11 h)

  pub balance_first : MetBelow 11 → (Met g b d p Balance → ⊥) → FirstBroken g b d p Balance
  balance_first below fails = record {
    broken = fails;
    rules_before = below;
    places_before = λ y e h. absurd (none_before_0 (broken_place y).0 0 refl h);
    there_before = λ y e f h. absurd (none_before_0 (broken_place y).1 0 refl h);
  }

  pub flows_met : MetBelow 12 → ((l : ℕ) → Met g b d p (Flow l)) → MetBelow 13
  flows_met = met_along Flow 12 (λ i. refl) (λ i. refl) (λ i. refl) only_flow

  pub flow_first : (l : ℕ) → MetBelow 12 → ((j : ℕ) → j < l → Met g b d p (Flow j)) → (Met g b d p (Flow l) → ⊥) → FirstBroken g b d p (Flow l)
  flow_first = first_along Flow 12 (λ i. refl) (λ i. refl) (λ i. refl) only_flow

  pub zone_prices_met : MetBelow 13 → ((z : ℕ) → Met g b d p (ZonePrice z)) → MetBelow 14
  zone_prices_met = met_along ZonePrice 13 (λ i. refl) (λ i. refl) (λ i. refl) only_zone_price

  pub zone_price_first : (z : ℕ) → MetBelow 13 → ((j : ℕ) → j < z → Met g b d p (ZonePrice j)) → (Met g b d p (ZonePrice z) → ⊥) → FirstBroken g b d p (ZonePrice z)
  zone_price_first = first_along ZonePrice 13 (λ i. refl) (λ i. refl) (λ i. refl) only_zone_price

  pub bindings_met : MetBelow 14 → ((l : ℕ) → Met g b d p (Binding l)) → MetBelow 15
  bindings_met = met_along Binding 14 (λ i. refl) (λ i. refl) (λ i. refl) only_binding

  pub binding_first : (l : ℕ) → MetBelow 14 → ((j : ℕ) → j < l → Met g b d p (Binding j)) → (Met g b d p (Binding l) → ⊥) → FirstBroken g b d p (Binding l)
  binding_first = first_along Binding 14 (λ i. refl) (λ i. refl) (λ i. refl) only_binding

  pub contentment_first : (l n : ℕ) → MetBelow 15 → ((j m : ℕ) → j < l → Met g b d p (Contentment j m)) → ((m : ℕ) → m < n → Met g b d p (Contentment l m)) → (Met g b d p (Contentment l n) → ⊥) → FirstBroken g b d p (Contentment l n)
  contentment_first = first_order Contentment 15 (λ l n. refl) (λ l n. refl) (λ l n. refl) only_contentment

  pub all_met : MetBelow 15 → ((l n : ℕ) → Met g b d p (Contentment l n)) → Accepted g b d p
  all_met below all y = met_orders Contentment 15 (λ l n. refl) (λ l n. refl) (λ l n. refl) only_contentment below all y (last y)
    where
      last : (y : Broken) → broken_number y < 16
      last (Quantity l n) = omega arith
      last Balance = omega arith
      last (Flow l) = omega arith
      last (ZonePrice z) = omega arith
      last (Binding l) = omega arith
      last (Contentment l n) = omega arith
