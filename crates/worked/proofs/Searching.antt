-- The first place at which a test fails, found by trying one after the other.
use Rattle.std.proofs.Common.{ℕ, zero, suc, ◌<◌, Bool, true, false, cond, [], length, Some, None, Decides, Option, refl, ap, ⊎_elim, arith, below_more}
use Rattle.std.proofs.lemmas.List.{get_or_past}
use Rattle.std.proofs.lemmas.Bool.{cases_lt, false≢true}
use Rattle.auction.specs.Hours.{Entry, Book, Dispatch, list_at, entry_at}
use Rattle.judgement.specs.Parts.{FirstFailing}
use Rattle.judgement.specs.Verdicts.{FirstOrder, OfOrder}

-- the first if there is one, else the second
abbrev pub or_else : {X : Type 0} → Option X → Option X → Option X
or_else (Some x) second = Some x
or_else None second = second

abbrev pub mapped : {X Y : Type 0} → (X → Y) → Option X → Option Y
mapped f (Some x) = Some (f x)
mapped f None = None

-- of the numbers below an end
unfoldable pub first_failing : (ℕ → Bool) → ℕ → Option ℕ
first_failing test zero = None
first_failing test (suc n) = or_else (first_failing test n) (cond (test n) None (Some n))

module _ (P : ℕ → Type 0) (test : ℕ → Bool) (decides : (i : ℕ) → Decides (test i) (P i)) where
  one_more : (n : ℕ) (o : Option ℕ) → FirstFailing P n o → (t : Bool) → Decides t (P n) → FirstFailing P (suc n) (or_else o (cond t None (Some n)))
  one_more n (Some i) (there, before, fails) t d = (omega arith, before, fails)
  one_more n None all true d = λ i h. below_more P n all (d.0 refl) i (omega arith)
  one_more n None all false d = (omega arith, all, λ p. false≢true (d.1 p))

  pub first_failing_is : (n : ℕ) → FirstFailing P n (first_failing test n)
  unfolding first_failing
  first_failing_is zero = λ i h. absurd (omega arith)
  first_failing_is (suc n) = one_more n (first_failing test n) (first_failing_is n) (test n) (decides n)

-- of the orders of the first k lists of an hour, each with its quantity
unfoldable pub first_order_in : Book → Dispatch → (Entry → ℕ → Bool) → ℕ → Option (ℕ × ℕ)
first_order_in b d test zero = None
first_order_in b d test (suc k) = or_else (first_order_in b d test k) (mapped (λ n. (k, n)) (first_failing (λ n. test (entry_at b k n) (d k n)) (length (list_at b k))))

-- of all its orders
abbrev pub first_order : Book → Dispatch → (Entry → ℕ → Bool) → Option (ℕ × ℕ)
first_order b d test = first_order_in b d test (length b)

module _ (b : Book) (d : Dispatch) (Q : Entry → ℕ → Type 0) (test : Entry → ℕ → Bool) (decides : (e : Entry) (q : ℕ) → Decides (test e q) (Q e q)) where
  FirstIn : ℕ → Option (ℕ × ℕ) → Type 0
  FirstIn k None = (l : ℕ) → l < k → (n : ℕ) → OfOrder b d Q l n
  FirstIn k (Some place) = FirstOrder (OfOrder b d Q) (Some place)

  one_list_more : (k : ℕ) (o : Option (ℕ × ℕ)) → FirstIn k o → (i : Option ℕ) → FirstFailing (λ n. Q (entry_at b k n) (d k n)) (length (list_at b k)) i → FirstIn (suc k) (or_else o (mapped (λ n. (k, n)) i))
  unfolding FirstIn
  one_list_more k (Some place) found i here = found
  one_list_more k None all None here = λ l h. below_more (λ j. (n : ℕ) → OfOrder b d Q j n) k all here l (omega arith)
  one_list_more k None all (Some n) (there, before, fails) = ((λ l m h. all l h m), (λ m h _. before m h), λ met. fails (met there))

  first_in_is : (k : ℕ) → FirstIn k (first_order_in b d test k)
  unfolding FirstIn first_order_in
  first_in_is zero = λ l h. absurd (omega arith)
  first_in_is (suc k) = one_list_more k (first_order_in b d test k) (first_in_is k) _ (first_failing_is _ _ (λ n. decides (entry_at b k n) (d k n)) (length (list_at b k)))

  -- there are no orders beyond the last list
  in_all : (o : Option (ℕ × ℕ)) → FirstIn (length b) o → FirstOrder (OfOrder b d Q) o
  unfolding FirstIn
  in_all (Some place) found = found
  in_all None all = λ l n entered. ⊎_elim (λ h. all l h n entered) (λ h. let none = ap length (get_or_past b l [] h) in absurd (omega arith)) (cases_lt l (length b))

  pub first_order_is : FirstOrder (OfOrder b d Q) (first_order b d test)
  first_order_is = in_all (first_order b d test) (first_in_is (length b))
