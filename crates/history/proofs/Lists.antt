-- Lists of orders of which some no longer stand.
use Rattle.std.proofs.Common.{◌≡◌, ℕ, zero, suc, Bool, true, false, cond, ◌||◌, eqb, List, [], ◌∷◌, ◌++◌, length, refl, ap, ◌∙◌}
use mathlib.Core.Path.{fun_ext}
use lib.Dec.{eqb-zero-suc, eqb-suc-zero, eqb-suc-suc}
use Rattle.auction.specs.Hours.{Entry}
use Rattle.orders.specs.Reads.{ended, without}
use Rattle.history.specs.Words.{still_standing}

-- one more order, which was not withdrawn
pub still_more : (gone : ℕ → Bool) (es : List Entry) (e : Entry) → gone (length es) ≡ false → still_standing gone (es ++ e ∷ []) ≡ still_standing gone es ++ e ∷ []
still_more gone [] e h = simp h
still_more gone (x ∷ es) e h = ap {B = List Entry} (λ r. cond (gone 0) (ended x) x ∷ r) (still_more (λ n. gone (suc n)) es e h)

ended_either : (b : Bool) (e : Entry) → ended e ≡ ended (cond b (ended e) e)
ended_either true e = refl
ended_either false e = refl

pub still_same : (gone other : ℕ → Bool) (es : List Entry) → ((n : ℕ) → gone n ≡ other n) → still_standing gone es ≡ still_standing other es
still_same gone other es h = ap {B = List Entry} (λ f. still_standing f es) (fun_ext h)

-- one more withdrawal
pub still_without : (gone : ℕ → Bool) (es : List Entry) (n : ℕ) → still_standing (λ m. eqb m n || gone m) es ≡ without (still_standing gone es) n
still_without gone [] n = refl
still_without gone (e ∷ es) zero =
    ap {B = List Entry} (λ r. ended e ∷ r) (still_same (λ m. eqb (suc m) 0 || gone (suc m)) (λ m. gone (suc m)) es (λ m. ap (λ b. b || gone (suc m)) (eqb-suc-zero m)))
    ∙ ap {B = List Entry} (λ x. x ∷ still_standing (λ m. gone (suc m)) es) (ended_either (gone 0) e)
still_without gone (e ∷ es) (suc n) =
    ap {B = List Entry} (λ r. cond (eqb 0 (suc n) || gone 0) (ended e) e ∷ r) (still_same (λ m. eqb (suc m) (suc n) || gone (suc m)) (λ m. eqb m n || gone (suc m)) es (λ m. ap (λ b. b || gone (suc m)) (eqb-suc-suc m n)) ∙ still_without (λ m. gone (suc m)) es n)
    ∙ ap {B = List Entry} (λ b. cond (b || gone 0) (ended e) e ∷ without (still_standing (λ m. gone (suc m)) es) n) (eqb-zero-suc n)

pub still_length : (gone : ℕ → Bool) (es : List Entry) → length (still_standing gone es) ≡ length es
still_length gone [] = refl
still_length gone (e ∷ es) = ap suc (still_length (λ n. gone (suc n)) es)

pub without_length : (es : List Entry) (n : ℕ) → length (without es n) ≡ length es
without_length [] n = refl
without_length (e ∷ es) zero = refl
without_length (e ∷ es) (suc n) = ap suc (without_length es n)
