-- A running sum over the orders of a list, and how large it can get.
use Rattle.std.proofs.Common.{◌≡◌, ℕ, suc, ◌+◌, ◌*◌, ◌^◌, ◌≤◌, Bool, true, false, cond, List, length, ℤ, pos, ◌+ℤ◌, nat_abs, MatchBool, sym, refl, ap, ◌∙◌, subst, le_trans, mul-le-mul, mul-le-mul_left, mul-add, add-one, arith, w64, SFits}
use borrow.Author.Differences.{ints}
use Rattle.auction.specs.Sums.{Σ, Σℕ}
use Rattle.auction.specs.Orders.{Order, Possible, Sound}
use Rattle.auction.specs.Hours.{Entry, Takes}
use Rattle.orders.specs.Reads.{entry, standing_largest, standing_kwh}
use Rattle.flows.proofs.Summing.{Σℕ_within}
use Rattle.judgement.specs.Parts.{first_sum, first_kwh, Term}

-- what an order takes is possible for it, and not more than counts for it
takes_possible : (s : Bool) (o : Order) (q : ℕ) → MatchBool s (Possible o q) (q ≡ 0) → Possible o q
takes_possible true o q h = h
takes_possible false o q h = omega arith

takes_at_most : (s : Bool) (o : Order) (q : ℕ) → MatchBool s (Possible o q) (q ≡ 0) → q ≤ cond s o.largest 0
takes_at_most true o q h = h
takes_at_most false o q h = omega arith

pub possible_of_takes : (e : Entry) (q : ℕ) → Takes e q → Possible e.order q
possible_of_takes e q h = takes_possible e.standing e.order q h

pub counted_of_takes : (e : Entry) (q : ℕ) → Takes e q → q ≤ standing_largest e
counted_of_takes e q h = takes_at_most e.standing e.order q h

-- the sum of the first i terms, of at most k for each kWh that may be taken
pub record Running (es : List Entry) (qs : ℕ → ℕ) (f : Entry → ℕ → ℤ) (k i : ℕ) (total : ℤ) : Type 0 where
  pub is : total ≡ first_sum es qs f i
  pub small : nat_abs total ≤ k * first_kwh es i

module _ (es : List Entry) (qs : ℕ → ℕ) (f : Entry → ℕ → ℤ) (k : ℕ) where
  pub running_start : Running es qs f k 0 (pos 0)
  unfolding first_sum Σ
  running_start = record { is = refl; small = omega arith }

  step : (i : ℕ) (total term : ℤ) → Running es qs f k i total → Term es qs f k i term → qs i ≤ standing_largest (entry es i) → Running es qs f k (suc i) (total +ℤ term)
  unfolding first_sum first_kwh Σ Σℕ
  step i total term so_far one counted = record {
    is = λ j. so_far.is j +ℤ one.is j;
    small = grows total term (first_kwh es i) (standing_largest (entry es i)) (qs i) so_far.small one.small counted;
  }
    where
      grows : (x a : ℤ) (n m q : ℕ) → nat_abs x ≤ k * n → nat_abs a ≤ k * q → q ≤ m → nat_abs (x +ℤ a) ≤ k * (n + m)
      grows x a n m q h r l = let e = mul-add k n m in let t : k * q ≤ k * m = mul-le-mul_left k l in omega (arith, ints)

  -- within a list whose standing orders are bounded, the running sum is bounded
  pub running_bound : (i m : ℕ) (total : ℤ) → Running es qs f k i total → i ≤ length es → standing_kwh es ≤ m → nat_abs total ≤ k * m
  unfolding first_kwh standing_kwh
  running_bound i m total so_far within modest =
      let fewer : first_kwh es i ≤ standing_kwh es = Σℕ_within (λ n. standing_largest (entry es n)) i (length es) within in
      let all : k * first_kwh es i ≤ k * m = mul-le-mul_left k (le_trans fewer modest) in
      omega arith

  -- one turn of a loop, with the new total as the program has it
  pub running_next : (i : ℕ) (total term new : ℤ) → Running es qs f k i total → Term es qs f k i term → Takes (entry es i) (qs i) → new ≡ total +ℤ term → Running es qs f k (i + 1) new
  running_next i total term new so_far one takes sum =
      subst (λ (n : ℕ). Running es qs f k n new) (sym (add-one i)) (subst (Running es qs f k (suc i)) (sym sum) (step i total term so_far one (counted_of_takes (entry es i) (qs i) takes)))

  pub running_end : (i : ℕ) (total : ℤ) → Running es qs f k i total → i ≡ length es → total ≡ first_sum es qs f (length es)
  running_end i total so_far all = so_far.is ∙ ap (first_sum es qs f) all

-- one of the injections is not larger than all together
pub one_injection : (o : Order) (q z : ℕ) → Sound o → Possible o q → nat_abs (o.injection q z) ≤ 2 * q
unfolding Σℕ
one_injection o q z sound may = let all = sound.injections_in_range q (suc z) may in omega arith

-- what an order has at its quantity, as a term
pub term_at : (es : List Entry) (qs : ℕ → ℕ) (f : Entry → ℕ → ℤ) (k n q : ℕ) (term : ℤ) → q ≡ qs n → Takes (entry es n) (qs n) → Sound (entry es n).order → term ≡ f (entry es n) q → nat_abs term ≤ k * q → Term es qs f k n term
term_at es qs f k n q term same takes sound is small =
    record { is = is ∙ ap (f (entry es n)) same; small = subst (λ (m : ℕ). nat_abs term ≤ k * m) same small; modest = le_trans (possible_of_takes (entry es n) (qs n) takes) sound.largest_in_range }

-- so much for each of so many kWh leaves room in 64 bits
pub rates_fit : (k m : ℕ) → k ≤ 2 ^ 32 → m ≤ 30000000 → k * m ≤ 2 ^ 60
rates_fit k m h l = let all : k * m ≤ 2 ^ 32 * 30000000 = mul-le-mul h l in omega arith

pub two_fit : (a b : ℤ) → nat_abs a ≤ 2 ^ 60 → nat_abs b ≤ 2 ^ 60 → SFits w64 (a +ℤ b)
two_fit a b h k = omega (arith, ints)
