-- What an order is paid in the zones so far, and how large it can get.
use Rattle.std.proofs.Common.{◌≡◌, ℕ, suc, ◌+◌, ◌*◌, ◌^◌, ◌≤◌, List, get_or, ℤ, pos, ◌+ℤ◌, ◌*ℤ◌, nat_abs, sym, refl, ap, ◌∙◌, subst, add-one, arith}
use borrow.Author.Differences.{ints}
use Rattle.auction.specs.Sums.{Σ, Σℕ}
use Rattle.auction.specs.Orders.{Order, Possible, Sound}
use Rattle.flows.proofs.Products.{product_small}

pub record Paid (prices : List ℤ) (o : Order) (q z : ℕ) (total : ℤ) : Type 0 where
  pub is : total ≡ Σ z (λ y. get_or prices y (pos 0) *ℤ o.injection q y)
  pub small : nat_abs total ≤ 2 ^ 31 * Σℕ z (λ y. nat_abs (o.injection q y))

module _ (prices : List ℤ) (o : Order) (q : ℕ) where
  pub paid_start : Paid prices o q 0 (pos 0)
  unfolding Σ
  paid_start = record { is = refl; small = omega arith }

  step : (z : ℕ) (total price fed new : ℤ) → Paid prices o q z total → price ≡ get_or prices z (pos 0) → nat_abs price ≤ 2 ^ 31 → fed ≡ o.injection q z → new ≡ total +ℤ price *ℤ fed → Paid prices o q (suc z) new
  unfolding Σ Σℕ
  step z total price fed new so_far is small there sum = record {
    is = sum ∙ (λ i. so_far.is i +ℤ is i *ℤ there i);
    small = subst (λ (x : ℤ). nat_abs x ≤ 2 ^ 31 * (Σℕ z (λ y. nat_abs (o.injection q y)) + nat_abs (o.injection q z))) (sym sum)
        (subst (λ (x : ℤ). nat_abs (total +ℤ price *ℤ fed) ≤ 2 ^ 31 * (Σℕ z (λ y. nat_abs (o.injection q y)) + nat_abs x)) there
        (grows total (price *ℤ fed) (Σℕ z (λ y. nat_abs (o.injection q y))) (nat_abs fed) so_far.small (product_small price fed (2 ^ 31) (nat_abs fed) small (itself (nat_abs fed)))));
  }
    where
      itself : (n : ℕ) → n ≤ n
      itself n = omega arith

      grows : (x a : ℤ) (n m : ℕ) → nat_abs x ≤ 2 ^ 31 * n → nat_abs a ≤ 2 ^ 31 * m → nat_abs (x +ℤ a) ≤ 2 ^ 31 * (n + m)
      grows x a n m h r = omega (arith, ints)

  pub paid_next : (z : ℕ) (total price fed pay new : ℤ) → Paid prices o q z total → pay ≡ price *ℤ fed → price ≡ get_or prices z (pos 0) → nat_abs price ≤ 2 ^ 31 → fed ≡ o.injection q z → new ≡ total +ℤ pay → Paid prices o q (z + 1) new
  paid_next z total price fed pay new so_far pays is small there sum = subst (λ (n : ℕ). Paid prices o q n new) (sym (add-one z)) (step z total price fed new so_far is small there (sum ∙ ap (λ x. total +ℤ x) pays))

  pub paid_bound : (z : ℕ) (total : ℤ) → Paid prices o q z total → Sound o → Possible o q → nat_abs total ≤ 2 ^ 32 * q
  paid_bound z total so_far sound may = let all = sound.injections_in_range q z may in let h = so_far.small in omega arith

-- what is paid in one zone fits with room to spare
pub one_zone_small : (pay price fed : ℤ) (q : ℕ) → pay ≡ price *ℤ fed → nat_abs price ≤ 2 ^ 31 → nat_abs fed ≤ 2 * q → q ≤ 10000000 → nat_abs pay ≤ 2 ^ 60
one_zone_small pay price fed q is small feeds modest =
    subst (λ (x : ℤ). nat_abs x ≤ 2 ^ 60) (sym is) (let h = product_small price fed (2 ^ 31) (2 * q) small feeds in omega arith)

pub modest_proceeds : (total : ℤ) (q : ℕ) → nat_abs total ≤ 2 ^ 32 * q → q ≤ 10000000 → nat_abs total ≤ 2 ^ 60
modest_proceeds total q h k = omega arith
