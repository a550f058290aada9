-- Laws of sums over all orders of an hour.
use Rattle.std.proofs.Common.{◌≡◌, ℕ, zero, suc, ◌<◌, [], ◌∷◌, length, ℤ, ◌+ℤ◌, ◌*ℤ◌, neg_ℤ, ◌≤ℤ◌, sym, ◌∙◌, arith}
use borrow.Author.Differences.{ints}
use Rattle.auction.specs.Sums.{Σ}
use Rattle.auction.specs.Hours.{Book, Dispatch, Entry, list_at, entry_at, over_orders}
use Rattle.laws.proofs.Sums.{Σ_same, Σ_plus, Σ_neg, Σ_times, Σ_swap, Σ_le, Σ_tight}

-- P of each entered order
abbrev pub Each : Book → (ℕ → ℕ → Type 0) → Type 0
Each b P = (l n : ℕ) → n < length (list_at b l) → P l n

-- an entered order stands in a list that there is
in_book : (b : Book) (l n : ℕ) → n < length (list_at b l) → l < length b
in_book [] l n h = absurd (none n h)
  where
    none : (n : ℕ) → n < 0 → ⊥
    none n h = omega arith
in_book (x ∷ b) zero n h = omega arith
in_book (x ∷ b) (suc l) n h = let less = in_book b l n h in omega arith

equal_le : {x y : ℤ} → x ≡ y → x ≤ℤ y
equal_le {x} {y} e = omega (arith, ints)

module _ (b : Book) where
  pub orders_same : (d e : Dispatch) (f g : Entry → ℕ → ℤ) → Each b (λ l n. f (entry_at b l n) (d l n) ≡ g (entry_at b l n) (e l n)) → over_orders b d f ≡ over_orders b e g
  unfolding over_orders
  orders_same d e f g h = Σ_same (length b) _ _ (λ l _. Σ_same (length (list_at b l)) _ _ (h l))

  pub orders_plus : (d : Dispatch) (f g : Entry → ℕ → ℤ) → over_orders b d (λ e q. f e q +ℤ g e q) ≡ over_orders b d f +ℤ over_orders b d g
  unfolding over_orders
  orders_plus d f g =
      Σ_same (length b) _ _ (λ l _. Σ_plus (length (list_at b l)) (λ n. f (entry_at b l n) (d l n)) (λ n. g (entry_at b l n) (d l n)))
      ∙ Σ_plus (length b) (λ l. Σ (length (list_at b l)) (λ n. f (entry_at b l n) (d l n))) (λ l. Σ (length (list_at b l)) (λ n. g (entry_at b l n) (d l n)))

  pub orders_times : (d : Dispatch) (a : ℤ) (f : Entry → ℕ → ℤ) → over_orders b d (λ e q. a *ℤ f e q) ≡ a *ℤ over_orders b d f
  unfolding over_orders
  orders_times d a f =
      Σ_same (length b) _ _ (λ l _. Σ_times (length (list_at b l)) a (λ n. f (entry_at b l n) (d l n)))
      ∙ Σ_times (length b) a (λ l. Σ (length (list_at b l)) (λ n. f (entry_at b l n) (d l n)))

  pub orders_neg : (d : Dispatch) (f : Entry → ℕ → ℤ) → over_orders b d (λ e q. neg_ℤ (f e q)) ≡ neg_ℤ (over_orders b d f)
  unfolding over_orders
  orders_neg d f =
      Σ_same (length b) _ _ (λ l _. Σ_neg (length (list_at b l)) (λ n. f (entry_at b l n) (d l n)))
      ∙ Σ_neg (length b) (λ l. Σ (length (list_at b l)) (λ n. f (entry_at b l n) (d l n)))

  -- a sum over zones inside is one outside
  pub orders_swap : (d : Dispatch) (k : ℕ) (f : ℕ → Entry → ℕ → ℤ) → over_orders b d (λ e q. Σ k (λ z. f z e q)) ≡ Σ k (λ z. over_orders b d (f z))
  unfolding over_orders
  orders_swap d k f =
      Σ_same (length b) _ _ (λ l _. Σ_swap (length (list_at b l)) k (λ n z. f z (entry_at b l n) (d l n)))
      ∙ Σ_swap (length b) k (λ l z. Σ (length (list_at b l)) (λ n. f z (entry_at b l n) (d l n)))

  module _ (d e : Dispatch) (f : Entry → ℕ → ℤ) (none-larger : Each b (λ l n. f (entry_at b l n) (d l n) ≤ℤ f (entry_at b l n) (e l n))) where
    lists_le : (l : ℕ) → l < length b → Σ (length (list_at b l)) (λ n. f (entry_at b l n) (d l n)) ≤ℤ Σ (length (list_at b l)) (λ n. f (entry_at b l n) (e l n))
    lists_le l _ = Σ_le (length (list_at b l)) _ _ (none-larger l)

    pub orders_le : over_orders b d f ≤ℤ over_orders b e f
    unfolding over_orders
    orders_le = Σ_le (length b) _ _ lists_le

    -- where no term is larger and the sum is not smaller, all are equal
    pub orders_tight : over_orders b e f ≤ℤ over_orders b d f → Each b (λ l n. f (entry_at b l n) (d l n) ≡ f (entry_at b l n) (e l n))
    unfolding over_orders
    orders_tight whole l n entered =
        let lists-equal = Σ_tight (length b) _ _ lists_le whole l (in_book b l n entered) in
        Σ_tight (length (list_at b l)) _ _ (none-larger l) (equal_le (sym lists-equal)) n entered
