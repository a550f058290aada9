-- The three facts about a line's limit on which the laws rest. A change of what a limit means is proved again here alone.
use Rattle.std.proofs.Common.{◌≡◌, ℕ, zero, suc, ◌*◌, ℤ, pos, ◌*ℤ◌, ◌≤ℤ◌, sym, ap, ◌∙◌, subst, mul_assoc, mul_comm, zero-mul, arith}
use borrow.Author.Differences.{ints}
use lib.IntN.{zero-*ℤ}
use Rattle.auction.specs.Limits.{Limit, WithinLimit, Binds, line_rent}
use Rattle.laws.proofs.Ring.{mul_le, mul_cancel}

-- no flow within the limit earns more at the shadow price than the binding one
pub binding_earns_most : (limit : Limit) (shadow : ℕ) (flow rival : ℤ) → Binds limit shadow flow → WithinLimit limit rival → (pos shadow *ℤ rival) ≤ℤ (pos shadow *ℤ flow)
binding_earns_most limit zero flow rival binds within = both_zero (pos 0 *ℤ rival) (pos 0 *ℤ flow) (zero-*ℤ rival) (zero-*ℤ flow)
  where
    both_zero : (x y : ℤ) → x ≡ pos 0 → y ≡ pos 0 → x ≤ℤ y
    both_zero x y p q = omega (arith, ints)
binding_earns_most limit (suc s) flow rival binds within =
    mul_le (suc s) rival flow (subst (λ (x : ℤ). rival ≤ℤ x) (sym (binds (omega arith))) within)

-- what the binding flow earns at the shadow price is the line's rent
pub binding_earns_rent : (limit : Limit) (shadow : ℕ) (flow : ℤ) → Binds limit shadow flow → pos shadow *ℤ flow ≡ line_rent limit shadow
binding_earns_rent limit zero flow binds = zero-*ℤ flow ∙ ap pos (nothing limit)
  where
    nothing : (limit : ℕ) → 0 ≡ 1000 * (0 * limit)
    nothing limit = sym (ap (λ n. 1000 * n) (zero-mul limit))
binding_earns_rent limit (suc s) flow binds =
    ap (λ x. pos (suc s) *ℤ x) (binds (omega arith)) ∙ ap pos (order s limit)
  where
    order : (s limit : ℕ) → suc s * (1000 * limit) ≡ 1000 * (suc s * limit)
    order s limit = sym (mul_assoc (suc s) 1000 limit) ∙ ap (λ n. n * limit) (mul_comm (suc s) 1000) ∙ mul_assoc 1000 (suc s) limit

-- a flow that earns as much as the binding one binds too
pub binding_shared : (limit : Limit) (shadow : ℕ) (flow rival : ℤ) → Binds limit shadow flow → pos shadow *ℤ rival ≡ pos shadow *ℤ flow → Binds limit shadow rival
binding_shared limit shadow flow rival binds same positive = mul_cancel shadow rival flow positive same ∙ binds positive
