-- What one more event tells, of a run.
use Rattle.std.proofs.Common.{◌≡◌, ℕ, zero, suc, ◌<◌, Bool, true, false, cond, ◌&&◌, ◌||◌, eqb, List, [], ◌∷◌, ◌++◌, length, Ok, Err, sym, refl, ap, ◌∙◌, subst, append-nil, arith, length-append}
use Rattle.std.proofs.lemmas.Bool.{and_parts, eqb-true}
use Rattle.auction.specs.declared.Refusal.{Refusal}
use Rattle.auction.specs.Grids.{Grid}
use Rattle.auction.specs.Hours.{Entry, Book}
use Rattle.orders.specs.Reads.{without}
use Rattle.history.specs.declared.calls.Call.{Call}
use Rattle.history.specs.declared.calls.Call.TheVariants.{Enter, Withdraw, Close, Fill, Try, Settle, Void}
use Rattle.history.specs.declared.calls.Reply.{Reply}
use Rattle.history.specs.Events.{Answer, Event, History, Kinds, list_of}
use Rattle.history.specs.Words.{entered, withdrawn, orders, book, still_standing}
use Rattle.history.specs.Situations.{Situation, told}
use Rattle.history.specs.Right.{Right, Run, Entered}
use Rattle.history.specs.Steps.{after, list_after, book_after}
use Rattle.history.proofs.Asking.{ask_yes}
use Rattle.history.proofs.Lists.{still_more, still_without, still_length}

-- an order that the book has was entered
pub in_book : {P Q R : Type 0} (k : Kinds P Q R) (h : History P Q R) (l n : ℕ) → Entered (book k h) l n → n < length (entered k h l)
in_book k h zero n e = omega (arith, e, still_length (withdrawn h 0) (entered k h 0))
in_book k h (suc zero) n e = omega (arith, e, still_length (withdrawn h 1) (entered k h 1))
in_book k h (suc (suc zero)) n e = omega (arith, e, still_length (withdrawn h 2) (entered k h 2))
in_book k h (suc (suc (suc l))) n e = absurd (omega (arith, e))

-- only entered orders are withdrawn
gone_after : {P Q R : Type 0} (k : Kinds P Q R) (g : Grid) (h : History P Q R) (c : Call P Q R) (a : Answer)
    → ((l n : ℕ) → withdrawn h l n ≡ true → n < length (entered k h l)) → Right k g (told k g h) c a
    → (l n : ℕ) → withdrawn (record { call = c; answer = a } ∷ h) l n ≡ true → n < length (entered k (record { call = c; answer = a } ∷ h) l)
gone_after k g h c (Err refusal) before r l n w = simp append-nil (before l n w)
gone_after k g h (Enter i wish) (Ok reply) before r l n w = simp length-append (omega (arith, before l n w))
gone_after k g h (Withdraw i list number) (Ok reply) before r l n w = simp append-nil (go (eqb l list && eqb n number) refl)
  where
    there : number < length (entered k h list)
    there = in_book k h list number (ask_yes (ask_yes (ask_yes r).1).1).0

    go : (b : Bool) → eqb l list && eqb n number ≡ b → n < length (entered k h l)
    go true e =
        let same-list = eqb-true l list (and_parts (eqb l list) (eqb n number) e).0 in
        let same_number = eqb-true n number (and_parts (eqb l list) (eqb n number) e).1 in
        let P : ℕ → ℕ → Type 0 = λ x y. y < length (entered k h x) in
        subst (λ x. P x n) (sym same-list) (subst (λ y. P list y) (sym same_number) there)
    go false e = before l n (sym (ap (λ b. b || withdrawn h l n) e) ∙ w)
gone_after k g h (Close i) (Ok reply) before r l n w = simp append-nil (before l n w)
gone_after k g h (Fill i f) (Ok reply) before r l n w = simp append-nil (before l n w)
gone_after k g h (Try i) (Ok reply) before r l n w = simp append-nil (before l n w)
gone_after k g h (Settle i) (Ok reply) before r l n w = let z : ◌≡◌ {A = ℕ} 0 1 = cc in absurd (omega arith)
gone_after k g h (Void i) (Ok reply) before r l n w = let z : ◌≡◌ {A = ℕ} 0 1 = cc in absurd (omega arith)

pub gone_entered : {P Q R : Type 0} (k : Kinds P Q R) (g : Grid) (h : History P Q R) → Run k g h → (l n : ℕ) → withdrawn h l n ≡ true → n < length (entered k h l)
gone_entered k g [] run l n w = let z : ◌≡◌ {A = ℕ} 0 1 = cc in absurd (omega arith)
gone_entered k g (e ∷ h) run l n w = gone_after k g h e.call e.answer (gone_entered k g h run.0) run.1 l n w

-- a list with one order more, or as it was
entering : (gone : ℕ → Bool) (es : List Entry) (b : Bool) (e : Entry) → gone (length es) ≡ false → still_standing gone (es ++ cond b (e ∷ []) []) ≡ still_standing gone es ++ cond b (e ∷ []) []
entering gone es true e fresh = still_more gone es e fresh
entering gone es false e fresh = ap {B = List Entry} (still_standing gone) (append-nil es) ∙ sym (append-nil (still_standing gone es))

-- a list with one order withdrawn, or as it was
withdrawing : (gone : ℕ → Bool) (es : List Entry) (b : Bool) (number : ℕ) → still_standing (λ n. (b && eqb n number) || gone n) es ≡ cond b (without (still_standing gone es) number) (still_standing gone es)
withdrawing gone es true number = still_without gone es number
withdrawing gone es false number = refl

-- the number of the next order was not withdrawn
fresh : {P Q R : Type 0} (k : Kinds P Q R) (g : Grid) (h : History P Q R) → Run k g h → (l : ℕ) (b : Bool) → withdrawn h l (length (entered k h l)) ≡ b → b ≡ false
fresh k g h run l true e = absurd (omega (arith, gone_entered k g h run l (length (entered k h l)) e))
fresh k g h run l false e = refl

-- one list after one more event
pub orders_after : {P Q R : Type 0} (k : Kinds P Q R) (g : Grid) (h : History P Q R) → Run k g h → (c : Call P Q R) (reply : Reply) (l : ℕ)
    → orders k (record { call = c; answer = Ok reply } ∷ h) l ≡ list_after k c l (orders k h l)
orders_after k g h run (Enter i wish) reply l = entering (withdrawn h l) (entered k h l) (eqb (list_of wish) l) (record { house = i; standing = true; order = k.order wish }) (fresh k g h run l (withdrawn h l (length (entered k h l))) refl)
orders_after k g h run (Withdraw i list number) reply l =
    ap {B = List Entry} (still_standing (λ n. (eqb l list && eqb n number) || withdrawn h l n)) (append-nil (entered k h l)) ∙ withdrawing (withdrawn h l) (entered k h l) (eqb l list) number
orders_after k g h run (Close i) reply l = ap {B = List Entry} (still_standing (withdrawn h l)) (append-nil (entered k h l))
orders_after k g h run (Fill i f) reply l = ap {B = List Entry} (still_standing (withdrawn h l)) (append-nil (entered k h l))
orders_after k g h run (Try i) reply l = ap {B = List Entry} (still_standing (withdrawn h l)) (append-nil (entered k h l))
orders_after k g h run (Settle i) reply l = refl
orders_after k g h run (Void i) reply l = refl

-- a refused call leaves each list as it was
pub orders_refused : {P Q R : Type 0} (k : Kinds P Q R) (h : History P Q R) (c : Call P Q R) (refusal : Refusal) (l : ℕ) → orders k (record { call = c; answer = Err refusal } ∷ h) l ≡ orders k h l
orders_refused k h c refusal l = ap {B = List Entry} (still_standing (withdrawn h l)) (append-nil (entered k h l))

three : {a b c x y z : List Entry} → a ≡ x → b ≡ y → c ≡ z → ◌≡◌ {A = Book} (a ∷ b ∷ c ∷ []) (x ∷ y ∷ z ∷ [])
three p q r = cc

pub book_told : {P Q R : Type 0} (k : Kinds P Q R) (g : Grid) (h : History P Q R) → Run k g h → (c : Call P Q R) (a : Answer)
    → book k (record { call = c; answer = a } ∷ h) ≡ book_after k (record { call = c; answer = a }) (book k h)
book_told k g h run c (Ok reply) = three (orders_after k g h run c reply 0) (orders_after k g h run c reply 1) (orders_after k g h run c reply 2)
book_told k g h run c (Err refusal) = three (orders_refused k h c refusal 0) (orders_refused k h c refusal 1) (orders_refused k h c refusal 2)

-- the words of the longer history tell what follows from the situation before
pub told_after : {P Q R : Type 0} (k : Kinds P Q R) (g : Grid) (h : History P Q R) → Run k g h → (e : Event P Q R) → told k g (e ∷ h) ≡ after k g (told k g h) e
told_after k g h run e = ap {B = Situation} (λ b. record { closed = (told k g (e ∷ h)).closed; book = b; dispatch = (told k g (e ∷ h)).dispatch; prices = (told k g (e ∷ h)).prices; tries = (told k g (e ∷ h)).tries; settled_hours = (told k g (e ∷ h)).settled_hours; account = (told k g (e ∷ h)).account; rent_account = (told k g (e ∷ h)).rent_account }) (book_told k g h run e.call e.answer)
