-- Laws of sums over an index range.
use Rattle.std.proofs.Common.{◌≡◌, ℕ, zero, suc, ◌<◌, ◌⊎◌, ℤ, pos, ◌+ℤ◌, ◌*ℤ◌, neg_ℤ, ◌≤ℤ◌, sym, refl, ◌∙◌, subst, ⊎_elim, arith}
use Rattle.std.proofs.lemmas.Bool.{cases_eq}
use borrow.Author.Differences.{ints}
use lib.IntN.{*ℤ-zero, *ℤ_comm}
use Rattle.auction.specs.Sums.{Σ}
use Rattle.laws.proofs.Ring.{distrib}

pub Σ_same : (n : ℕ) (f g : ℕ → ℤ) → ((i : ℕ) → i < n → f i ≡ g i) → Σ n f ≡ Σ n g
unfolding Σ
Σ_same zero f g h = refl
Σ_same (suc n) f g h = let e : Σ n f ≡ Σ n g = Σ_same n f g (λ i l. h i (omega arith)) in let k : f n ≡ g n = h n (omega arith) in omega (arith, ints)

pub Σ_zero : (n : ℕ) (f : ℕ → ℤ) → ((i : ℕ) → i < n → f i ≡ pos 0) → Σ n f ≡ pos 0
unfolding Σ
Σ_zero zero f h = refl
Σ_zero (suc n) f h = let e : Σ n f ≡ pos 0 = Σ_zero n f (λ i l. h i (omega arith)) in let k : f n ≡ pos 0 = h n (omega arith) in omega (arith, ints)

pub Σ_plus : (n : ℕ) (f g : ℕ → ℤ) → Σ n (λ i. f i +ℤ g i) ≡ Σ n f +ℤ Σ n g
unfolding Σ
Σ_plus zero f g = refl
Σ_plus (suc n) f g = let e = Σ_plus n f g in omega (arith, ints)

pub Σ_neg : (n : ℕ) (f : ℕ → ℤ) → Σ n (λ i. neg_ℤ (f i)) ≡ neg_ℤ (Σ n f)
unfolding Σ
Σ_neg zero f = refl
Σ_neg (suc n) f = let e = Σ_neg n f in omega (arith, ints)

pub Σ_times : (n : ℕ) (a : ℤ) (f : ℕ → ℤ) → Σ n (λ i. a *ℤ f i) ≡ a *ℤ Σ n f
unfolding Σ
Σ_times zero a f = sym (*ℤ-zero a)
Σ_times (suc n) a f = step (Σ n (λ i. a *ℤ f i)) (a *ℤ Σ n f) (a *ℤ f n) (Σ_times n a f) ∙ sym (distrib a (Σ n f) (f n))
  where
    step : (x y z : ℤ) → x ≡ y → x +ℤ z ≡ y +ℤ z
    step x y z h = omega (arith, ints)

pub Σ_times_right : (n : ℕ) (f : ℕ → ℤ) (a : ℤ) → Σ n (λ i. f i *ℤ a) ≡ Σ n f *ℤ a
Σ_times_right n f a = Σ_same n (λ i. f i *ℤ a) (λ i. a *ℤ f i) (λ i _. *ℤ_comm (f i) a) ∙ Σ_times n a f ∙ *ℤ_comm a (Σ n f)

pub Σ_swap : (n m : ℕ) (f : ℕ → ℕ → ℤ) → Σ n (λ i. Σ m (f i)) ≡ Σ m (λ j. Σ n (λ i. f i j))
unfolding Σ
Σ_swap zero m f = sym (Σ_zero m (λ j. pos 0) (λ j _. refl))
Σ_swap (suc n) m f = step (Σ n (λ i. Σ m (f i))) (Σ m (λ j. Σ n (λ i. f i j))) (Σ m (f n)) (Σ_swap n m f) ∙ sym (Σ_plus m (λ j. Σ n (λ i. f i j)) (f n))
  where
    step : (x y z : ℤ) → x ≡ y → x +ℤ z ≡ y +ℤ z
    step x y z h = omega (arith, ints)

pub Σ_le : (n : ℕ) (f g : ℕ → ℤ) → ((i : ℕ) → i < n → f i ≤ℤ g i) → Σ n f ≤ℤ Σ n g
unfolding Σ
Σ_le zero f g h = omega (arith, ints)
Σ_le (suc n) f g h = let e : Σ n f ≤ℤ Σ n g = Σ_le n f g (λ i l. h i (omega arith)) in let k : f n ≤ℤ g n = h n (omega arith) in omega (arith, ints)

-- the sums of terms that are not larger, and the sums of all but the last
tight_here : (x y a b : ℤ) → x ≤ℤ y → a ≤ℤ b → (y +ℤ b) ≤ℤ (x +ℤ a) → (a ≡ b) × (y ≤ℤ x)
tight_here x y a b p q r = (omega (arith, ints), omega (arith, ints))

split_below : {P : ℕ → Type 0} (n : ℕ) → P n → ((i : ℕ) → i < n → P i) → (i : ℕ) → i < suc n → P i
split_below {P} n top below i l = ⊎_elim (λ e. subst P (sym e) top) (below i) (top_or_below i n l)
  where
    top_or_below : (i n : ℕ) → i < suc n → (i ≡ n) ⊎ (i < n)
    top_or_below i n l = grind (arith, cases_eq i n)

-- where no term is larger and the sum is not smaller, all terms are equal
pub Σ_tight : (n : ℕ) (f g : ℕ → ℤ) → ((i : ℕ) → i < n → f i ≤ℤ g i) → Σ n g ≤ℤ Σ n f → (i : ℕ) → i < n → f i ≡ g i
unfolding Σ
Σ_tight zero f g h s i l = absurd (none i l)
  where
    none : (i : ℕ) → i < 0 → ⊥
    none i l = omega arith
Σ_tight (suc n) f g h s i l =
    let below : (j : ℕ) → j < n → f j ≤ℤ g j = λ j m. h j (omega arith) in
    let both = tight_here (Σ n f) (Σ n g) (f n) (g n) (Σ_le n f g below) (h n (omega arith)) s in
    split_below {P = λ j. f j ≡ g j} n both.0 (Σ_tight n f g below both.1) i l
