-- Every run keeps the promise.
use Rattle.std.proofs.Common.{◌≡◌, ℕ, zero, suc, ◌<◌, Bool, true, false, cond, not, ◌&&◌, eqb, List, [], ◌∷◌, ◌++◌, length, get_or, ℤ, ◌+ℤ◌, Ok, Err, sym, refl, ap, ◌∙◌, subst, append_assoc, append-nil, arith}
use borrow.Author.Differences.{ints}
use Rattle.std.proofs.lemmas.Bool.{and_parts, and_from, cond_both, not-true}
use Rattle.auction.specs.declared.House.TheVariants.{Zero, One}
use Rattle.auction.specs.Grids.{Grid}
use Rattle.auction.specs.Hours.{Entry, TwoHouses, no_entry, amount_of, rent_of, welfare_of}
use Rattle.auction.specs.Rules.{Accepted}
use Rattle.orders.specs.Reads.{without}
use Rattle.laws.proofs.Laws.{optimality, rent_law, interchange}
use Rattle.history.specs.declared.calls.Call.{Call}
use Rattle.history.specs.declared.calls.Call.TheVariants.{Enter, Withdraw, Close, Fill, Try, Settle, Void}
use Rattle.history.specs.Events.{Answer, Event, History, Kinds, list_of, caller_number, accepts, caller, ends, settles, taken, has_judged, leaves_hour}
use Rattle.history.specs.Words.{book, orders, closed, quantity, prices, account, rent_account}
use Rattle.history.specs.Situations.{told}
use Rattle.history.specs.Right.{Right, Run}
use Rattle.history.specs.Steps.{list_after}
use Rattle.history.specs.Promise.{none_ends, Optimal, Balancing, Interchangeable, Promise}
use Rattle.history.proofs.Asking.{ask_yes, accepted_sheet}
use Rattle.history.proofs.Telling.{book_told, orders_after, orders_refused}

-- what came before an event of a run is a run
pub earlier : {P Q R : Type 0} (k : Kinds P Q R) (g : Grid) (later before : History P Q R) → Run k g (later ++ before) → Run k g before
earlier k g [] before run = run
earlier k g (e ∷ later) before run = earlier k g later before run.0

-- an accepted sheet breaks no rule
accepted_at : {P Q R : Type 0} (k : Kinds P Q R) (g : Grid) (h : History P Q R) (e : Event P Q R) → Run k g (e ∷ h) → accepts e ≡ true → Accepted g (book k h) (quantity h (caller e)) (prices h (caller e))
accepted_at k g h e run yes' = accepted_sheet k g (told k g h) e.call e.answer run.1 yes'

optimal : {P Q R : Type 0} (k : Kinds P Q R) (g : Grid) (h : History P Q R) → Run k g h → Optimal k g h
optimal k g h run later before e split accepted rival feasible =
    optimality g (book k before) (quantity before (caller e)) (prices before (caller e)) (accepted_at k g before e (earlier k g later (e ∷ before) (subst (Run k g) split run)) accepted) rival feasible

-- Whose orders they are

abbrev Housed : List Entry → Type 0
Housed es = (n : ℕ) → n < length es → (get_or es n no_entry).house < 2

housed_more : (es : List Entry) (e : Entry) → Housed es → e.house < 2 → Housed (es ++ e ∷ [])
housed_more [] e hs h zero lt = h
housed_more [] e hs h (suc n) lt = absurd (omega arith)
housed_more (x ∷ es) e hs h zero lt = hs 0 (omega arith)
housed_more (x ∷ es) e hs h (suc n) lt = housed_more es e (λ m l. hs (suc m) (omega arith)) h n (omega arith)

housed_maybe_more : (es : List Entry) (b : Bool) (e : Entry) → Housed es → e.house < 2 → Housed (es ++ cond b (e ∷ []) [])
housed_maybe_more es true e hs h = housed_more es e hs h
housed_maybe_more es false e hs h = subst Housed (sym (append-nil es)) hs

housed_without : (es : List Entry) (m : ℕ) → Housed es → Housed (without es m)
housed_without [] m hs n lt = hs n lt
housed_without (e ∷ es) zero hs zero lt = hs 0 lt
housed_without (e ∷ es) zero hs (suc n) lt = hs (suc n) lt
housed_without (e ∷ es) (suc m) hs zero lt = hs 0 (omega arith)
housed_without (e ∷ es) (suc m) hs (suc n) lt = housed_without es m (λ i l. hs (suc i) (omega arith)) n (omega arith)

none_housed : Housed []
none_housed n lt = absurd (omega arith)

housed_after : {P Q R : Type 0} (k : Kinds P Q R) (c : Call P Q R) (l : ℕ) (es : List Entry) → caller_number c < 2 → Housed es → Housed (list_after k c l es)
housed_after k (Enter i w) l es h hs = housed_maybe_more es (eqb (list_of w) l) (record { house = i; standing = true; order = k.order w }) hs h
housed_after k (Withdraw i list number) l es h hs = cond_both (eqb l list) (without es number) es Housed (λ _. housed_without es number hs) (λ _. hs)
housed_after k (Close i) l es h hs = hs
housed_after k (Fill i f) l es h hs = hs
housed_after k (Try i) l es h hs = hs
housed_after k (Settle i) l es h hs = none_housed
housed_after k (Void i) l es h hs = none_housed

housed_step : {P Q R : Type 0} (k : Kinds P Q R) (g : Grid) (h : History P Q R) → Run k g h → (l : ℕ) (c : Call P Q R) (a : Answer) → Right k g (told k g h) c a → Housed (orders k h l) → Housed (orders k (record { call = c; answer = a } ∷ h) l)
housed_step k g h run l c (Ok reply) r hs = subst Housed (sym (orders_after k g h run c reply l)) (housed_after k c l (orders k h l) (ask_yes r).0 hs)
housed_step k g h run l c (Err refusal) r hs = subst Housed (sym (orders_refused k h c refusal l)) hs

housed : {P Q R : Type 0} (k : Kinds P Q R) (g : Grid) (h : History P Q R) → Run k g h → (l : ℕ) → Housed (orders k h l)
housed k g [] run l = none_housed
housed k g (e ∷ h) run l = housed_step k g h run.0 l e.call e.answer run.1 (housed k g h run.0 l)

two_houses : {P Q R : Type 0} (k : Kinds P Q R) (g : Grid) (h : History P Q R) → Run k g h → TwoHouses (book k h)
two_houses k g h run zero = housed k g h run 0
two_houses k g h run (suc zero) = housed k g h run 1
two_houses k g h run (suc (suc zero)) = housed k g h run 2
two_houses k g h run (suc (suc (suc l))) = none_housed

-- The accounts

four : (a b x y r s : ℤ) → a +ℤ b ≡ r → x +ℤ y ≡ s → (a +ℤ x) +ℤ (b +ℤ y) ≡ r +ℤ s
four a b x y r s p q = omega (arith, ints)

balance_after : {P Q R : Type 0} (k : Kinds P Q R) (g : Grid) (h : History P Q R) (e : Event P Q R) → Run k g (e ∷ h) → Balancing k g h → (t : Bool) → settles e ≡ t → Balancing k g (e ∷ h)
balance_after k g h e run before true is =
    let parts = and_parts (ends e) (has_judged e.call) is in
    let accepted = and_from (taken e.answer) (has_judged e.call) (and_parts (taken e.answer) (leaves_hour e.call) parts.0).0 parts.1 in
    let law = rent_law g (book k h) (quantity h (caller e)) (prices h (caller e)) (accepted_at k g h e run accepted) (two_houses k g h run.0) in
    simp is (four (account k g h Zero) (account k g h One) (amount_of g (book k h) (quantity h (caller e)) (prices h (caller e)) 0) (amount_of g (book k h) (quantity h (caller e)) (prices h (caller e)) 1) (rent_account k g h) (rent_of g (book k h) (quantity h (caller e)) (prices h (caller e))) before law)
balance_after k g h e run before false is = simp is before

balancing : {P Q R : Type 0} (k : Kinds P Q R) (g : Grid) (h : History P Q R) → Run k g h → Balancing k g h
balancing k g [] run = refl
balancing k g (e ∷ h) run = balance_after k g h e run (balancing k g h run.0) (settles e) refl

-- A closed hour

-- a closed hour stays closed, with the same orders, until it ends
stays_closed : {P Q R : Type 0} (k : Kinds P Q R) (g : Grid) (h : History P Q R) → Run k g h → (c : Call P Q R) (a : Answer) → Right k g (told k g h) c a → closed h ≡ true → taken a && leaves_hour c ≡ false
    → (closed (record { call = c; answer = a } ∷ h) ≡ true) × (book k (record { call = c; answer = a } ∷ h) ≡ book k h)
stays_closed k g h run c (Err refusal) r is goes_on = (is, book_told k g h run c (Err refusal))
stays_closed k g h run (Enter i w) (Ok reply) r is goes_on = let now-open = (ask_yes (ask_yes r).1).0 in let z : ◌≡◌ {A = ℕ} 0 1 = cc in absurd (omega arith)
stays_closed k g h run (Withdraw i l n) (Ok reply) r is goes_on = let now-open = (ask_yes (ask_yes r).1).0 in let z : ◌≡◌ {A = ℕ} 0 1 = cc in absurd (omega arith)
stays_closed k g h run (Close i) (Ok reply) r is goes_on = let now-open = (ask_yes (ask_yes r).1).0 in let z : ◌≡◌ {A = ℕ} 0 1 = cc in absurd (omega arith)
stays_closed k g h run (Fill i f) (Ok reply) r is goes_on = (is, book_told k g h run (Fill i f) (Ok reply))
stays_closed k g h run (Try i) (Ok reply) r is goes_on = (is, book_told k g h run (Try i) (Ok reply))
stays_closed k g h run (Settle i) (Ok reply) r is goes_on = let z : ◌≡◌ {A = ℕ} 0 1 = cc in absurd (omega arith)
stays_closed k g h run (Void i) (Ok reply) r is goes_on = let z : ◌≡◌ {A = ℕ} 0 1 = cc in absurd (omega arith)

goes_on_closed : {P Q R : Type 0} (k : Kinds P Q R) (g : Grid) (more h : History P Q R) → Run k g (more ++ h) → closed h ≡ true → none_ends more ≡ true → (closed (more ++ h) ≡ true) × (book k (more ++ h) ≡ book k h)
goes_on_closed k g [] h run is none = (is, refl)
goes_on_closed k g (e ∷ more) h run is none =
    let parts = and_parts (not (ends e)) (none_ends more) none in
    let before = goes_on_closed k g more h run.0 is parts.1 in
    let step = stays_closed k g (more ++ h) run.0 e.call e.answer run.1 before.0 (not-true (ends e) parts.0) in
    (step.0, step.1 ∙ before.1)

-- an accepted sheet was judged in a closed hour
accepted_closed : {P Q R : Type 0} (k : Kinds P Q R) (g : Grid) (h : History P Q R) (c : Call P Q R) (a : Answer) → Right k g (told k g h) c a → taken a && has_judged c ≡ true → closed h ≡ true
accepted_closed k g h c (Err refusal) r is = let z : ◌≡◌ {A = ℕ} 0 1 = cc in absurd (omega arith)
accepted_closed k g h (Enter i w) (Ok reply) r is = let z : ◌≡◌ {A = ℕ} 0 1 = cc in absurd (omega arith)
accepted_closed k g h (Withdraw i l n) (Ok reply) r is = let z : ◌≡◌ {A = ℕ} 0 1 = cc in absurd (omega arith)
accepted_closed k g h (Close i) (Ok reply) r is = let z : ◌≡◌ {A = ℕ} 0 1 = cc in absurd (omega arith)
accepted_closed k g h (Fill i f) (Ok reply) r is = let z : ◌≡◌ {A = ℕ} 0 1 = cc in absurd (omega arith)
accepted_closed k g h (Try i) (Ok reply) r is = sym (ask_yes (ask_yes r).1).0
accepted_closed k g h (Settle i) (Ok reply) r is = sym (ask_yes (ask_yes r).1).0
accepted_closed k g h (Void i) (Ok reply) r is = let z : ◌≡◌ {A = ℕ} 0 1 = cc in absurd (omega arith)

interchangeable : {P Q R : Type 0} (k : Kinds P Q R) (g : Grid) (h : History P Q R) → Run k g h → Interchangeable k g h
interchangeable {P} {Q} {R} k g h run later between before e f split accepts-e accepts-f none =
    let run-f : Run k g (f ∷ (between ++ e ∷ before)) = earlier k g later (f ∷ (between ++ e ∷ before)) (subst (Run k g) split run) in
    let run-e : Run k g (e ∷ before) = earlier k g between (e ∷ before) run-f.0 in
    let regroup : (between ++ e ∷ []) ++ before ≡ between ++ e ∷ before = append_assoc between (e ∷ []) before in
    let was-closed = accepted_closed k g before e.call e.answer run-e.1 accepts-e in
    let same : book k (between ++ e ∷ before) ≡ book k before = ap (book k) (sym regroup) ∙ (goes_on_closed k g (between ++ e ∷ []) before (subst (Run k g) (sym regroup) run-f.0) was-closed none).1 in
    let sheet-e = accepted_at k g before e run-e accepts-e in
    let sheet-f = accepted_at k g (between ++ e ∷ before) f run-f accepts-f in
    let law = interchange g (book k before) (quantity before (caller e)) (quantity (between ++ e ∷ before) (caller f)) (prices before (caller e)) (prices (between ++ e ∷ before) (caller f)) sheet-e (subst (λ b. Accepted g b (quantity (between ++ e ∷ before) (caller f)) (prices (between ++ e ∷ before) (caller f))) same sheet-f) in (
      law.0 ∙ ap (λ b. welfare_of b (quantity (between ++ e ∷ before) (caller f))) (sym same),
      law.1,
      subst (λ b. Accepted g b (quantity (between ++ e ∷ before) (caller f)) (prices before (caller e))) (sym same) law.2,
    )

pub promised : {P Q R : Type 0} (k : Kinds P Q R) (g : Grid) (h : History P Q R) → Run k g h → Promise k g h
promised k g h run = record { optimality = optimal k g h run; balance = balancing k g h run; interchange = interchangeable k g h run }
