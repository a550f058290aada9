-- The proofs of the three laws.
use Rattle.std.proofs.Common.{◌≡◌, ℕ, zero, suc, ◌<◌, Bool, true, false, cond, eqb, ℤ, pos, ◌+ℤ◌, ◌-ℤ◌, ◌*ℤ◌, neg_ℤ, ◌≤ℤ◌, MatchBool, sym, refl, ap, ◌∙◌, subst, ⊎_elim, arith}
use borrow.Author.Differences.{ints}
use Rattle.std.proofs.lemmas.Bool.{cases_order}
use Rattle.auction.specs.Refusals.{broken_number, broken_place}
use Rattle.auction.specs.declared.Broken.{Broken}
use Rattle.auction.specs.declared.Broken.TheVariants.{Quantity, Balance, Flow, ZonePrice, Binding, Contentment}
use Rattle.auction.specs.Grids.{Grid, line_count, limit_at}
use Rattle.auction.specs.Orders.{Order, Possible, ZonePrices, Content, gain, proceeds}
use Rattle.auction.specs.Hours.{Book, Dispatch, Entry, Prices, Feasible, Takes, entry_at, over_orders, welfare_of, amount_of, flow_over, exact_rent, charge, zone_prices}
use Rattle.auction.specs.Rules.{Accepted, FirstBroken, Met}
use Rattle.laws.specs.Laws.{OptimalityLaw, RentLaw, InterchangeLaw, OneVerdictLaw}
use Rattle.laws.proofs.Limits.{binding_earns_most, binding_earns_rent, binding_shared}
use Rattle.laws.proofs.Sums.{Σ_same, Σ_le, Σ_tight}
use Rattle.laws.proofs.Books.{Each, orders_same, orders_plus, orders_neg, orders_le, orders_tight}
use Rattle.laws.proofs.Money.{congestion, paid_is_congestion, gained}

-- what an accepted sheet's dispatch is
pub feasible_of_accepted : (g : Grid) (b : Book) (d : Dispatch) (p : Prices) → Accepted g b d p → Feasible g b d
feasible_of_accepted g b d p ok = record { possible = λ l n. ok (Quantity l n); balanced = ok Balance; within = λ l. ok (Flow l) }

-- no quantity that an order may take gains more than one that it is content with, and a withdrawn order takes nothing either way
gain_at_most : (r : ZonePrices) (o : Order) (standing : Bool) (q other : ℕ) → MatchBool standing (Possible o q) (q ≡ 0) → MatchBool standing (Possible o other) (other ≡ 0) → (standing ≡ true → Content r o q) → gain r o other ≤ℤ gain r o q
gain_at_most r o true q other takes rivals content = (content refl).best other rivals
gain_at_most r o false q other takes rivals content = equal (gain r o other) (gain r o q) (ap (gain r o) (rivals ∙ sym takes))
  where
    equal : (x y : ℤ) → x ≡ y → x ≤ℤ y
    equal x y e = omega (arith, ints)

possible_if_standing : (e : Entry) (q : ℕ) → e.standing ≡ true → Takes e q → Possible e.order q
possible_if_standing e q stands takes = subst (λ (s : Bool). MatchBool s (Possible e.order q) (q ≡ 0)) stands takes

module _ (g : Grid) (b : Book) (d : Dispatch) (p : Prices) (ok : Accepted g b d p) (rival : Dispatch) (feasible : Feasible g b rival) where
  rival_gains_less : Each b (λ l n. gain (zone_prices g p) (entry_at b l n).order (rival l n) ≤ℤ gain (zone_prices g p) (entry_at b l n).order (d l n))
  rival_gains_less l n entered = gain_at_most (zone_prices g p) (entry_at b l n).order (entry_at b l n).standing (d l n) (rival l n) (ok (Quantity l n) entered) (feasible.possible l n entered) (ok (Contentment l n) entered)

  line_earns_less : (l : ℕ) → l < line_count g → (pos (p.shadow l) *ℤ flow_over g b rival l) ≤ℤ (pos (p.shadow l) *ℤ flow_over g b d l)
  line_earns_less l listed = binding_earns_most (limit_at g l) (p.shadow l) (flow_over g b d l) (flow_over g b rival l) (ok (Binding l) listed) (feasible.within l listed)

  -- the rival's flows earn no more at the sheet's shadow prices
  rival_congestion : congestion g b rival p ≤ℤ congestion g b d p
  unfolding congestion
  rival_congestion = Σ_le (line_count g) _ _ line_earns_less

  gains_compared : (pos 1000 *ℤ welfare_of b rival -ℤ congestion g b rival p) ≤ℤ (pos 1000 *ℤ welfare_of b d -ℤ congestion g b d p)
  gains_compared =
      subst (λ (x : ℤ). x ≤ℤ (pos 1000 *ℤ welfare_of b d -ℤ congestion g b d p)) (gained g b rival p feasible.balanced)
      (subst (λ (x : ℤ). over_orders b rival (λ e q. gain (zone_prices g p) e.order q) ≤ℤ x) (gained g b d p (ok Balance))
      (orders_le b rival d (λ e q. gain (zone_prices g p) e.order q) rival_gains_less))

  pub worth_at_most : welfare_of b rival ≤ℤ welfare_of b d
  worth_at_most = less (welfare_of b rival) (welfare_of b d) (congestion g b rival p) (congestion g b d p) gains_compared rival_congestion
    where
      less : (w v c k : ℤ) → (pos 1000 *ℤ w -ℤ c) ≤ℤ (pos 1000 *ℤ v -ℤ k) → c ≤ℤ k → w ≤ℤ v
      less w v c k h m = omega (arith, ints)

  -- a rival that is worth as much is content at the sheet's prices, and its flows bind the same lines
  module _ (as-good : welfare_of b rival ≡ welfare_of b d) where
    congestion_equal : (x y c k : ℤ) → x ≡ y → (pos 1000 *ℤ x -ℤ c) ≤ℤ (pos 1000 *ℤ y -ℤ k) → c ≤ℤ k → k ≤ℤ c
    congestion_equal x y c k e h m = omega (arith, ints)

    rival_earns_as_much : congestion g b d p ≤ℤ congestion g b rival p
    rival_earns_as_much = congestion_equal (welfare_of b rival) (welfare_of b d) (congestion g b rival p) (congestion g b d p) as-good gains_compared rival_congestion

    rival_earns_equal : (l : ℕ) → l < line_count g → pos (p.shadow l) *ℤ flow_over g b rival l ≡ pos (p.shadow l) *ℤ flow_over g b d l
    unfolding congestion
    rival_earns_equal = Σ_tight (line_count g) _ _ line_earns_less rival_earns_as_much

    pub rival_binds : (l : ℕ) → Met g b rival p (Binding l)
    rival_binds l listed = binding_shared (limit_at g l) (p.shadow l) (flow_over g b d l) (flow_over g b rival l) (ok (Binding l) listed) (rival_earns_equal l listed)

    gains_as_much : (x y c k : ℤ) → x ≡ y → c ≤ℤ k → (pos 1000 *ℤ y -ℤ k) ≤ℤ (pos 1000 *ℤ x -ℤ c)
    gains_as_much x y c k e h = omega (arith, ints)

    rival_gains_equal : Each b (λ l n. gain (zone_prices g p) (entry_at b l n).order (rival l n) ≡ gain (zone_prices g p) (entry_at b l n).order (d l n))
    rival_gains_equal =
        orders_tight b rival d (λ e q. gain (zone_prices g p) e.order q) rival_gains_less
        (subst (λ (x : ℤ). x ≤ℤ over_orders b rival (λ e q. gain (zone_prices g p) e.order q)) (sym (gained g b d p (ok Balance)))
        (subst (λ (x : ℤ). (pos 1000 *ℤ welfare_of b d -ℤ congestion g b d p) ≤ℤ x) (sym (gained g b rival p feasible.balanced))
        (gains_as_much (welfare_of b rival) (welfare_of b d) (congestion g b rival p) (congestion g b d p) as-good rival_congestion)))

    pub rival_content : (l n : ℕ) → Met g b rival p (Contentment l n)
    rival_content l n entered stands = record {
      possible = possible_if_standing (entry_at b l n) (rival l n) stands (feasible.possible l n entered);
      best = λ other may. subst (λ (x : ℤ). gain (zone_prices g p) (entry_at b l n).order other ≤ℤ x) (sym (rival_gains_equal l n entered)) ((ok (Contentment l n) entered stands).best other may);
    }

pub optimality : OptimalityLaw
optimality = worth_at_most

-- at binding lines the flows earn the congestion rent
congestion_is_rent : (g : Grid) (b : Book) (d : Dispatch) (p : Prices) → Accepted g b d p → congestion g b d p ≡ exact_rent g p
unfolding congestion exact_rent
congestion_is_rent g b d p ok = Σ_same (line_count g) _ _ (λ l listed. binding_earns_rent (limit_at g l) (p.shadow l) (flow_over g b d l) (ok (Binding l) listed))

-- of two houses, one has the order
one_has_it : (house : ℕ) (x : ℤ) → house < 2 → cond (eqb house 0) x (pos 0) +ℤ cond (eqb house 1) x (pos 0) ≡ x
one_has_it zero x h = omega (arith, ints)
one_has_it (suc zero) x h = omega (arith, ints)
one_has_it (suc (suc n)) x h = absurd (never n h)
  where
    never : (n : ℕ) → suc (suc n) < 2 → ⊥
    never n h = omega arith

pub rent_law : RentLaw
unfolding amount_of
rent_law g b d p ok two =
    sym (orders_plus b d (of 0) (of 1))
    ∙ orders_same b d d (λ e q. of 0 e q +ℤ of 1 e q) (charge g p) (λ l n entered. one_has_it (entry_at b l n).house (charge g p (entry_at b l n) (d l n)) (two l n entered))
    ∙ orders_neg b d (λ e q. proceeds (zone_prices g p) e.order q)
    ∙ twice (over_orders b d (λ e q. proceeds (zone_prices g p) e.order q)) (congestion g b d p) (paid_is_congestion g b d p (ok Balance))
    ∙ congestion_is_rent g b d p ok
  where
    of : ℕ → Entry → ℕ → ℤ
    of house e q = cond (eqb e.house house) (charge g p e q) (pos 0)

    twice : (x c : ℤ) → x ≡ neg_ℤ c → neg_ℤ x ≡ c
    twice x c h = omega (arith, ints)

-- the quantities of one accepted sheet at the prices of another
module _ (g : Grid) (b : Book) (d od : Dispatch) (p op : Prices) (ok : Accepted g b d p) (ook : Accepted g b od op) where
  equal_welfare : welfare_of b d ≡ welfare_of b od
  equal_welfare = both_ways (welfare_of b d) (welfare_of b od) (worth_at_most g b od op ook d (feasible_of_accepted g b d p ok)) (worth_at_most g b d p ok od (feasible_of_accepted g b od op ook))
    where
      both_ways : (x y : ℤ) → x ≤ℤ y → y ≤ℤ x → x ≡ y
      both_ways x y h k = omega (arith, ints)

  prices_exchanged : Accepted g b d op
  prices_exchanged (Quantity l n) = ok (Quantity l n)
  prices_exchanged Balance = ok Balance
  prices_exchanged (Flow l) = ok (Flow l)
  prices_exchanged (ZonePrice z) = ook (ZonePrice z)
  prices_exchanged (Binding l) = rival_binds g b od op ook d (feasible_of_accepted g b d p ok) equal_welfare l
  prices_exchanged (Contentment l n) = rival_content g b od op ook d (feasible_of_accepted g b d p ok) equal_welfare l n

pub interchange : InterchangeLaw
interchange g b d od p op ok ook = (equal_welfare g b d od p op ok ook, prices_exchanged g b d od p op ok ook, prices_exchanged g b od d op p ook ok)

-- a rule and place is told by its number and the two numbers of the place
pub of_numbers : ℕ → ℕ → ℕ → Broken
of_numbers n i j = cond (eqb n 10) (Quantity i j) (cond (eqb n 11) Balance (cond (eqb n 12) (Flow i) (cond (eqb n 13) (ZonePrice i) (cond (eqb n 14) (Binding i) (Contentment i j)))))

pub told_by_numbers : (x : Broken) → of_numbers (broken_number x) (broken_place x).0 (broken_place x).1 ≡ x
unfolding of_numbers
told_by_numbers (Quantity l n) = refl
told_by_numbers Balance = refl
told_by_numbers (Flow l) = refl
told_by_numbers (ZonePrice z) = refl
told_by_numbers (Binding l) = refl
told_by_numbers (Contentment l n) = refl

same_numbers : (x y : Broken) → broken_number y ≡ broken_number x → (broken_place y).0 ≡ (broken_place x).0 → (broken_place y).1 ≡ (broken_place x).1 → y ≡ x
same_numbers x y n i j = sym (told_by_numbers y) ∙ (λ k. of_numbers (n k) (i k) (j k)) ∙ told_by_numbers x

-- of two first broken rules and places neither comes before the other, so they are the same
pub one_verdict : OneVerdictLaw
one_verdict g b d p x first = ((λ ok. first.broken (ok x)), same)
  where
    same : (y : Broken) → FirstBroken g b d p y → y ≡ x
    same y other =
        ⊎_elim (λ n. ⊎_elim (λ i. ⊎_elim (same_numbers x y n i)
        (⊎_elim (λ l. absurd (other.broken (first.there_before y n i l))) (λ l. absurd (first.broken (other.there_before x (sym n) (sym i) l))))
        (cases_order (broken_place y).1 (broken_place x).1))
        (⊎_elim (λ l. absurd (other.broken (first.places_before y n l))) (λ l. absurd (first.broken (other.places_before x (sym n) l))))
        (cases_order (broken_place y).0 (broken_place x).0))
        (⊎_elim (λ l. absurd (other.broken (first.rules_before y l))) (λ l. absurd (first.broken (other.rules_before x l))))
        (cases_order (broken_number y) (broken_number x))
