-- A test for what each rule asks at a place.
use Rattle.std.proofs.Common.{◌≡◌, ℕ, suc, ◌≤◌, Bool, true, false, cond, not, ◌&&◌, eqb, ltb, leb, ℤ, ◌≤ℤ◌, is_some, Some, None, Decides, MatchBool, Option, refl, arith}
use borrow.Author.Differences.{ints}
use lib.Signed.{le_z}
use Rattle.std.proofs.lemmas.Bool.{leb-true, le-leb, eqb-true, eq-eqb, ltb-true, and_parts, and_from, false≢true}
use Rattle.auction.specs.Limits.{Limit, Binds, capacity}
use Rattle.auction.specs.Orders.{Order, Possible, ZonePrices, Content, gain}
use Rattle.auction.specs.Hours.{Entry, Takes}
use Rattle.judgement.specs.Parts.{AtEase, FirstFailing}
use Rattle.worked.proofs.Searching.{first_failing, first_failing_is}

pub le_decides : (m n : ℕ) → Decides (leb m n) (m ≤ n)
le_decides m n = (leb-true m n, le-leb m n)

pub le_ℤ_decides : (x y : ℤ) → Decides (le_z x y) (x ≤ℤ y)
le_ℤ_decides x y = (λ e. grind (arith, ints), λ h. grind (arith, ints))

abbrev pub same : ℤ → ℤ → Bool
same x y = le_z x y && le_z y x

pub same_decides : (x y : ℤ) → Decides (same x y) (x ≡ y)
same_decides x y = (λ e. grind (arith, ints), λ h. grind (arith, ints))

-- what is asked only where a test passes
asked_decides : {P Q : Type 0} (asked t : Bool) → (asked ≡ true → P) → (P → asked ≡ true) → Decides t Q → Decides (cond asked t true) (P → Q)
asked_decides true t holds from d = (λ e p. d.0 e, λ f. d.1 (f (holds refl)))
asked_decides false t holds from d = (λ e p. absurd (false≢true (from p)), λ f. refl)

abbrev pub takes : Entry → ℕ → Bool
takes e q = cond e.standing (leb q e.order.largest) (eqb q 0)

pub takes_decides : (e : Entry) (q : ℕ) → Decides (takes e q) (Takes e q)
takes_decides e q = either e.standing
  where
    either : (standing : Bool) → Decides (cond standing (leb q e.order.largest) (eqb q 0)) (MatchBool standing (Possible e.order q) (q ≡ 0))
    either true = le_decides q e.order.largest
    either false = (eqb-true q 0, eq-eqb q 0)

abbrev pub binds : Limit → ℕ → ℤ → Bool
binds limit shadow flow = cond (ltb 0 shadow) (same flow (capacity limit)) true

pub binds_decides : (limit : Limit) (shadow : ℕ) (flow : ℤ) → Decides (binds limit shadow flow) (Binds limit shadow flow)
binds_decides limit shadow flow = asked_decides (ltb 0 shadow) (same flow (capacity limit)) (ltb-true 0 shadow) (λ h. le-leb 1 shadow h) (same_decides flow (capacity limit))

-- every quantity that is possible is tried
module _ (r : ZonePrices) (o : Order) (q : ℕ) where
  abbrev none_better : Option ℕ
  none_better = first_failing (λ other. le_z (gain r o other) (gain r o q)) (suc o.largest)

  abbrev pub content : Bool
  content = leb q o.largest && not (is_some none_better)

  best_decides : (found : Option ℕ) → FirstFailing (λ other. gain r o other ≤ℤ gain r o q) (suc o.largest) found → Decides (not (is_some found)) ((other : ℕ) → Possible o other → gain r o other ≤ℤ gain r o q)
  best_decides None all = (λ e other h. all other (omega arith), λ h. refl)
  best_decides (Some other) (there, before, fails) = (λ e. absurd (false≢true e), λ h. absurd (fails (h other (omega arith))))

  content_decides : Decides content (Content r o q)
  content_decides =
      let best = best_decides none_better (first_failing_is _ _ (λ other. le_ℤ_decides (gain r o other) (gain r o q)) (suc o.largest)) in (
        λ e. let both = and_parts (leb q o.largest) (not (is_some none_better)) e in record { possible = leb-true q o.largest both.0; best = best.0 both.1 },
        λ c. and_from (leb q o.largest) (not (is_some none_better)) (le-leb q o.largest c.possible) (best.1 c.best),
      )

abbrev pub at_ease : ZonePrices → Entry → ℕ → Bool
at_ease r e q = cond e.standing (content r e.order q) true

pub at_ease_decides : (r : ZonePrices) (e : Entry) (q : ℕ) → Decides (at_ease r e q) (AtEase r e q)
at_ease_decides r e q = asked_decides e.standing (content r e.order q) (λ h. h) (λ h. h) (content_decides r e.order q)
