-- Deciding an implication, an order, and what is asked of every number.
use Rattle.std.proofs.Common.{ℕ, zero, suc, ◌<◌, ◌≤◌, ◌⊎◌, ℤ, ◌≤ℤ◌, sym, subst, inl, inr, ⊎_elim, arith}
use lib.Signed.{clash_ℤ}
use Rattle.std.proofs.lemmas.Int.{by_lt_z}
use Rattle.std.proofs.lemmas.Bool.{cases_lt, cases_eq}

pub implies : {X Y : Type 0} → Dec X → Dec Y → Dec (X → Y)
implies (yes x) (yes y) = yes (λ _. y)
implies (yes x) (no never) = no (λ f. never (f x))
implies (no never) y = yes (λ x. absurd (never x))

pub at_most : (x y : ℤ) → Dec (x ≤ℤ y)
at_most x y = by_lt_z y x (λ above. no (λ below. clash_ℤ above below)) yes

-- a first number that is bad, all before it being good
abbrev pub First : (ℕ → Type 0) → (ℕ → Type 0) → Type 0
First Good Bad = (n : ℕ) × Bad n × ((k : ℕ) → k < n → Good k)

-- where each number is good or bad, and all from an end on are good, all are, or there is a first bad one
module _ {Good Bad : ℕ → Type 0} (each : (n : ℕ) → Good n ⊎ Bad n) where
  search_below : (end : ℕ) → ((k : ℕ) → k < end → Good k) ⊎ First Good Bad
  search_below zero = inl (λ k h. absurd (omega arith))
  search_below (suc n) = ⊎_elim (λ before. ⊎_elim (λ good. inl (one_more before good)) (λ bad. inr (n, bad, before)) (each n)) inr (search_below n)
    where
      one_more : ((k : ℕ) → k < n → Good k) → Good n → (k : ℕ) → k < suc n → Good k
      one_more before good k h = ⊎_elim (λ e. subst Good (sym e) good) (λ other. before k (omega arith)) (cases_eq k n)

  pub search_all : (end : ℕ) → ((k : ℕ) → end ≤ k → Good k) → ((k : ℕ) → Good k) ⊎ First Good Bad
  search_all end beyond = ⊎_elim (λ before. inl (λ k. ⊎_elim (before k) (beyond k) (cases_lt k end))) inr (search_below end)

either : {X : Type 0} → Dec X → X ⊎ (X → ⊥)
either (yes x) = inl x
either (no never) = inr never

pub every : {Good : ℕ → Type 0} → ((n : ℕ) → Dec (Good n)) → (end : ℕ) → ((k : ℕ) → end ≤ k → Good k) → Dec ((n : ℕ) → Good n)
every each end beyond = ⊎_elim yes (λ found. no (λ all. found.1 (all found.0))) (search_all (λ n. either (each n)) end beyond)
