-- The first order of three lists, from the first of each list.
use Rattle.std.proofs.Common.{◌≡◌, ℕ, zero, suc, ◌<◌, ◌≤◌, List, length, Some, None, Option, MatchOption, Ok, Err, Result, arith}
use Rattle.auction.specs.declared.Broken.{Broken}
use Rattle.auction.specs.Hours.{Entry, Dispatch}
use Rattle.orders.specs.Books.{book_of}
use Rattle.orders.specs.Reads.{entry}
use Rattle.flows.specs.Firsts.{Each, FirstFailing}
use Rattle.places.specs.Places.{EachOrder, FirstOrder, OfOrder}

module _ (x y z : List Entry) (d : Dispatch) (Q : Entry → ℕ → Type 0) where
  none_left : (n : ℕ) → n < 0 → ⊥
  none_left n h = omega arith

  pub in_first : (n : ℕ) → FirstFailing (λ k. Q (entry x k) (d 0 k)) (length x) (Some n) → FirstOrder (OfOrder (book_of x y z) d Q) (Some (0, n))
  in_first n (there, before, fails) = ((λ l m h. absurd (none_left l h)), (λ m h entered. before m h), λ met. fails (met there))

  pub in_second : (n : ℕ) → FirstFailing (λ k. Q (entry x k) (d 0 k)) (length x) None → FirstFailing (λ k. Q (entry y k) (d 1 k)) (length y) (Some n) → FirstOrder (OfOrder (book_of x y z) d Q) (Some (1, n))
  in_second n firsts (there, before, fails) = (earlier, (λ m h entered. before m h), λ met. fails (met there))
    where
      earlier : (l m : ℕ) → l < 1 → OfOrder (book_of x y z) d Q l m
      earlier zero m h = firsts m
      earlier (suc l) m h = absurd (omega arith)

  pub in_third : (n : ℕ) → FirstFailing (λ k. Q (entry x k) (d 0 k)) (length x) None → FirstFailing (λ k. Q (entry y k) (d 1 k)) (length y) None → FirstFailing (λ k. Q (entry z k) (d 2 k)) (length z) (Some n) → FirstOrder (OfOrder (book_of x y z) d Q) (Some (2, n))
  in_third n firsts seconds (there, before, fails) = (earlier, (λ m h entered. before m h), λ met. fails (met there))
    where
      earlier : (l m : ℕ) → l < 2 → OfOrder (book_of x y z) d Q l m
      earlier zero m h = firsts m
      earlier (suc zero) m h = seconds m
      earlier (suc (suc l)) m h = absurd (omega arith)

  pub in_none : FirstFailing (λ k. Q (entry x k) (d 0 k)) (length x) None → FirstFailing (λ k. Q (entry y k) (d 1 k)) (length y) None → FirstFailing (λ k. Q (entry z k) (d 2 k)) (length z) None → FirstOrder (OfOrder (book_of x y z) d Q) None
  in_none firsts seconds thirds zero m = firsts m
  in_none firsts seconds thirds (suc zero) m = seconds m
  in_none firsts seconds thirds (suc (suc zero)) m = thirds m
  in_none firsts seconds thirds (suc (suc (suc l))) m = λ h. absurd (none_left m h)

  -- the same of the rule that names the order
  module _ (named : ℕ → ℕ → Broken) where
    pub of_first : (broken : Broken) → Each (named 0) (λ k. Q (entry x k) (d 0 k)) (length x) (Err broken) → EachOrder named (OfOrder (book_of x y z) d Q) (Err broken)
    of_first broken (n, is, found) = ((0, n), is, in_first n found)

    pub of_second : FirstFailing (λ k. Q (entry x k) (d 0 k)) (length x) None → (broken : Broken) → Each (named 1) (λ k. Q (entry y k) (d 1 k)) (length y) (Err broken) → EachOrder named (OfOrder (book_of x y z) d Q) (Err broken)
    of_second firsts broken (n, is, found) = ((1, n), is, in_second n firsts found)

    pub of_third : FirstFailing (λ k. Q (entry x k) (d 0 k)) (length x) None → FirstFailing (λ k. Q (entry y k) (d 1 k)) (length y) None → (r : Result (Unit {0}) Broken) → Each (named 2) (λ k. Q (entry z k) (d 2 k)) (length z) r → EachOrder named (OfOrder (book_of x y z) d Q) r
    of_third firsts seconds (Ok _) thirds = in_none firsts seconds thirds
    of_third firsts seconds (Err broken) (n, is, found) = ((2, n), is, in_third n firsts seconds found)

-- what `find` over the numbers below the end says
pub first_failing : (P : ℕ → Type 0) (n end : ℕ) (r : Option ℕ)
    → MatchOption r ((k : ℕ) → 0 ≤ k → k < n → k < end → P k) (λ i. (0 ≤ i) × (i < n) × (i < end → P i → ⊥) × ((k : ℕ) → 0 ≤ k → k < i → k < end → P k))
    → n ≡ end → FirstFailing P end r
first_failing P n end None all same = λ k h. all k (omega arith) (omega arith) h
first_failing P n end (Some i) (from, to, fails, before) same = (omega arith, (λ k h. before k (omega arith) h (omega arith)), fails (omega arith))
