-- Every sheet breaks no rule, or one first, at a first place: each rule is decided at each place, and the places are searched in their order.
use Rattle.std.proofs.Common.{◌≡◌, ℕ, suc, ◌+◌, ◌<◌, ◌≤◌, Bool, true, false, ◌⊎◌, [], length, pos, nat_abs, ◌≤ℤ◌, MatchBool, sym, refl, ◌∙◌, subst, subst₂, inl, inr, ⊎_elim, arith}
use mathlib.Core.Logic.Dec
use mathlib.Core.Logic.{by_cases}
use mathlib.Core.Bool.{Bool-discrete}
use native.Mathlib.Decide.{map_dec, dec_le, dec_lt, ℕ_discrete}
use lib.IntN.{ℤ_discrete}
use lib.ListN.{get_or-eq_default}
use Rattle.auction.specs.declared.Broken.{Broken}
use Rattle.auction.specs.declared.Broken.TheVariants.{Quantity, Balance, Flow, ZonePrice, Binding, Contentment}
use Rattle.auction.specs.Bounds.{most_zone_price}
use Rattle.auction.specs.Sums.{Σ}
use Rattle.auction.specs.Refusals.{broken_number, broken_place}
use Rattle.auction.specs.Limits.{capacity}
use Rattle.auction.specs.Grids.{Grid, line_count, limit_at}
use Rattle.auction.specs.Orders.{Order, Possible, ZonePrices, Content, gain}
use Rattle.auction.specs.Hours.{Entry, Book, Dispatch, Prices, list_at, entry_at, Takes, Balanced, net_injection, flow_over, zone_price, zone_prices}
use Rattle.auction.specs.Rules.{Met, Accepted, FirstBroken}
use Rattle.laws.proofs.Laws.{of_numbers, told_by_numbers}
use Rattle.one_answer.proofs.Deciding.{First, implies, at_most, every, search_all}

takes : (e : Entry) (q : ℕ) → Dec (Takes e q)
takes e q = by_standing e.standing
  where
    by_standing : (standing : Bool) → Dec (MatchBool standing (Possible e.order q) (q ≡ 0))
    by_standing true = dec_le q e.order.largest
    by_standing false = ℕ_discrete q 0

-- only finitely many quantities are possible, and their gains can be compared
content : (r : ZonePrices) (o : Order) (q : ℕ) → Dec (Content r o q)
content r o q = map_dec (λ c. record { possible = c.0; best = c.1 }) (λ c. (c.possible, c.best)) (Dec.and (dec_le q o.largest) best)
  where
    best : Dec ((other : ℕ) → Possible o other → gain r o other ≤ℤ gain r o q)
    best = every (λ other. implies (dec_le other o.largest) (at_most (gain r o other) (gain r o q))) (suc o.largest) (λ other beyond may. absurd (omega arith))

-- a rule with this number, at the place with these two
abbrev Named : ℕ → ℕ → ℕ → Broken → Type 0
Named r i j y = (broken_number y ≡ r) × (((broken_place y).0 ≡ i) × ((broken_place y).1 ≡ j))

named : (r i j : ℕ) (y : Broken) → Dec (Named r i j y)
named r i j y = Dec.and (ℕ_discrete (broken_number y) r) (Dec.and (ℕ_discrete (broken_place y).0 i) (ℕ_discrete (broken_place y).1 j))

-- no other than this has them, and this one need not: balance, say, has no place but 0, 0
only : (r i j : ℕ) (y : Broken) → Named r i j y → y ≡ of_numbers r i j
only r i j y is = sym (told_by_numbers y) ∙ (λ k. of_numbers (is.0 k) (is.1.0 k) (is.1.1 k))

module _ (g : Grid) (b : Book) (d : Dispatch) (p : Prices) where
  met : (rule : Broken) → Dec (Met g b d p rule)
  unfolding Balanced
  met (Quantity l n) = implies (dec_lt n (length (list_at b l))) (takes (entry_at b l n) (d l n))
  met Balance = ℤ_discrete (Σ g.zones (net_injection b d)) (pos 0)
  met (Flow l) = implies (dec_lt l (line_count g)) (at_most (flow_over g b d l) (capacity (limit_at g l)))
  met (ZonePrice z) = implies (dec_lt z g.zones) (dec_le (nat_abs (zone_price g p z)) most_zone_price)
  met (Binding l) = implies (dec_lt l (line_count g)) (implies (dec_lt 0 (p.shadow l)) (ℤ_discrete (flow_over g b d l) (capacity (limit_at g l))))
  met (Contentment l n) = implies (dec_lt n (length (list_at b l))) (implies (Bool-discrete (entry_at b l n).standing true) (content (zone_prices g p) (entry_at b l n).order (d l n)))

  -- Nothing is asked beyond the last rule, beyond the last list, line and zone, and beyond the last order of a list.
  last_rule : (rule : Broken) → 16 ≤ broken_number rule → ⊥
  last_rule (Quantity l n) h = omega arith
  last_rule Balance h = omega arith
  last_rule (Flow l) h = omega arith
  last_rule (ZonePrice z) h = omega arith
  last_rule (Binding l) h = omega arith
  last_rule (Contentment l n) h = omega arith

  no_such_list : {X : Type 0} (l n : ℕ) → length b ≤ l → n < length (list_at b l) → X
  no_such_list l n h entered = absurd (none (subst (λ es. n < length es) (get_or-eq_default b [] h) entered))
    where
      none : n < 0 → ⊥
      none h = omega arith

  end : ℕ
  end = suc (length b + line_count g + g.zones)

  beyond_end : (rule : Broken) → end ≤ (broken_place rule).0 → Met g b d p rule
  unfolding end
  beyond_end (Quantity l n) h = no_such_list l n (omega arith)
  beyond_end Balance h = absurd (omega arith)
  beyond_end (Flow l) h = λ listed. absurd (omega arith)
  beyond_end (ZonePrice z) h = λ listed. absurd (omega arith)
  beyond_end (Binding l) h = λ listed. absurd (omega arith)
  beyond_end (Contentment l n) h = no_such_list l n (omega arith)

  beyond_list : (rule : Broken) → suc (length (list_at b (broken_place rule).0)) ≤ (broken_place rule).1 → Met g b d p rule
  beyond_list (Quantity l n) h = λ entered. absurd (omega arith)
  beyond_list Balance h = absurd (omega arith)
  beyond_list (Flow l) h = absurd (omega arith)
  beyond_list (ZonePrice z) h = absurd (omega arith)
  beyond_list (Binding l) h = absurd (omega arith)
  beyond_list (Contentment l n) h = λ entered. absurd (omega arith)

  -- The search goes by the number of the rule, within a rule by the first number of the place, and there by the second.
  abbrev MetThere : ℕ → ℕ → ℕ → Type 0
  MetThere r i j = (y : Broken) → Named r i j y → Met g b d p y

  abbrev BrokenThere : ℕ → ℕ → ℕ → Type 0
  BrokenThere r i j = (x : Broken) × Named r i j x × (Met g b d p x → ⊥)

  there : (r i j : ℕ) → MetThere r i j ⊎ BrokenThere r i j
  there r i j = by_cases (met x) (λ holds. inl (λ y is. subst (Met g b d p) (sym (only r i j y is)) holds)) (λ broken. by_cases (named r i j x) (λ is. inr (x, is, broken)) (λ not. inl (λ y is. absurd (not (subst (Named r i j) (only r i j y is) is)))))
    where
      x : Broken
      x = of_numbers r i j

  abbrev MetAlong : ℕ → ℕ → Type 0
  MetAlong r i = (y : Broken) → broken_number y ≡ r → (broken_place y).0 ≡ i → Met g b d p y

  abbrev FirstAlong : ℕ → ℕ → Type 0
  FirstAlong r i = First (MetThere r i) (BrokenThere r i)

  along : (r i : ℕ) → MetAlong r i ⊎ FirstAlong r i
  along r i = ⊎_elim (λ all. inl (λ y e f. all (broken_place y).1 y (e, (f, refl)))) inr (search_all (there r i) (suc (length (list_at b i))) (λ j h y is. beyond_list y (subst₂ (λ (m n : ℕ). suc (length (list_at b m)) ≤ n) (sym is.1.0) (sym is.1.1) h)))

  abbrev MetRule : ℕ → Type 0
  MetRule r = (y : Broken) → broken_number y ≡ r → Met g b d p y

  abbrev FirstOfRule : ℕ → Type 0
  FirstOfRule r = First (MetAlong r) (FirstAlong r)

  of_rule : (r : ℕ) → MetRule r ⊎ FirstOfRule r
  of_rule r = ⊎_elim (λ all. inl (λ y e. all (broken_place y).0 y e refl)) inr (search_all (along r) end (λ i h y e f. beyond_end y (subst (λ (n : ℕ). end ≤ n) (sym f) h)))

  first_broken : First MetRule FirstOfRule → (x : Broken) × FirstBroken g b d p x
  first_broken (r, (i, (j, (x, (e, (f, h)), broken), here), places), rules) = (
    x,
    record {
      broken = broken;
      rules_before = λ y l. rules (broken_number y) (omega arith) y refl;
      places_before = λ y n l. places (broken_place y).0 (omega arith) y (n ∙ e) refl;
      there_before = λ y n m l. here (broken_place y).1 (omega arith) y (n ∙ e, (m ∙ f, refl));
    },
  )

  pub accepted_or_broken : Accepted g b d p ⊎ ((x : Broken) × FirstBroken g b d p x)
  accepted_or_broken = ⊎_elim (λ all. inl (λ y. all (broken_number y) y refl)) (λ found. inr (first_broken found)) (search_all of_rule 16 (λ r h y e. absurd (last_rule y (subst (λ (n : ℕ). 16 ≤ n) (sym e) h))))
