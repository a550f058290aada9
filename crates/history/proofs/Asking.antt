-- Each call has at most one right answer; what an answer that is no refusal tells.
use Rattle.std.proofs.Common.{◌≡◌, ℕ, true, ◌&&◌, ◌⊎◌, Ok, Err, sym, ap, ◌∙◌, inl, inr, arith}
use Rattle.auction.specs.declared.House.{House}
use Rattle.auction.specs.declared.Refusal.{Refusal}
use Rattle.auction.specs.declared.Refusal.TheVariants.{Sheet}
use Rattle.auction.specs.Grids.{Grid}
use Rattle.auction.specs.Hours.{Book, Dispatch, Prices}
use Rattle.auction.specs.Rules.{Accepted}
use Rattle.laws.proofs.Laws.{one_verdict}
use Rattle.history.specs.declared.calls.Call.{Call}
use Rattle.history.specs.declared.calls.Call.TheVariants.{Enter, Withdraw, Close, Fill, Try, Settle, Void}
use Rattle.history.specs.declared.calls.Reply.{Reply}
use Rattle.history.specs.Events.{Answer, Kinds, caller_number, numbered, has_judged, taken}
use Rattle.history.specs.Situations.{Situation}
use Rattle.history.specs.Right.{Verdict, Questions, Right}

-- an answer that is no refusal got a yes, and goes by what is asked next
pub ask_yes : {P X : Type 0} {refusal : Refusal} {reply : Reply} → (P × X) ⊎ ((P → ⊥) × (◌≡◌ {A = Answer} (Ok reply) (Err refusal))) → P × X
ask_yes (inl yeses) = yeses
ask_yes (inr (_, e)) = let z : ◌≡◌ {A = ℕ} 0 1 = cc in absurd (omega arith)

-- a question leaves one answer where what is asked next does
ask_one : {P X Y : Type 0} {refusal : Refusal} {a b : Answer} → (X → Y → a ≡ b)
    → (P × X) ⊎ ((P → ⊥) × (a ≡ Err refusal)) → (P × Y) ⊎ ((P → ⊥) × (b ≡ Err refusal)) → a ≡ b
ask_one next (inl x) (inl y) = next x.1 y.1
ask_one next (inl x) (inr y) = absurd (y.0 x.0)
ask_one next (inr x) (inl y) = absurd (x.0 y.0)
ask_one next (inr x) (inr y) = x.1 ∙ sym y.1

done_one : {a b c : Answer} → a ≡ c → b ≡ c → a ≡ b
done_one x y = x ∙ sym y

verdict_one : (g : Grid) (b : Book) (d : Dispatch) (p : Prices) (x y : Answer) → Verdict g b d p x → Verdict g b d p y → x ≡ y
verdict_one g b d p x y (inl u) (inl v) = u.1 ∙ sym v.1
verdict_one g b d p x y (inl u) (inr v) = absurd ((one_verdict g b d p v.0 v.1).0 u.0)
verdict_one g b d p x y (inr u) (inl v) = absurd ((one_verdict g b d p u.0 u.1).0 v.0)
verdict_one g b d p x y (inr u) (inr v) = u.2 ∙ ap {B = Answer} (λ r. Err (Sheet r)) ((one_verdict g b d p v.0 v.1).1 u.0 u.1) ∙ sym v.2

questions_one : {P Q R : Type 0} (k : Kinds P Q R) (g : Grid) (s : Situation) (house : House) (c : Call P Q R) (x y : Answer) → Questions k g s house c x → Questions k g s house c y → x ≡ y
questions_one k g s house (Enter i w) x y = ask_one (ask_one (ask_one done_one))
questions_one k g s house (Withdraw i l n) x y = ask_one (ask_one done_one)
questions_one k g s house (Close i) x y = ask_one done_one
questions_one k g s house (Fill i f) x y = ask_one (ask_one done_one)
questions_one k g s house (Try i) x y = ask_one (verdict_one g s.book (s.dispatch house) (s.prices house) x y)
questions_one k g s house (Settle i) x y = ask_one (verdict_one g s.book (s.dispatch house) (s.prices house) x y)
questions_one k g s house (Void i) x y = done_one

pub right_one : {P Q R : Type 0} (k : Kinds P Q R) (g : Grid) (s : Situation) (c : Call P Q R) (x y : Answer) → Right k g s c x → Right k g s c y → x ≡ y
right_one k g s c x y = ask_one (ask_one (questions_one k g s (numbered (caller_number c)) c x y))

verdict_accepted : {g : Grid} {b : Book} {d : Dispatch} {p : Prices} {reply : Reply} → Verdict g b d p (Ok reply) → Accepted g b d p
verdict_accepted (inl u) = u.0
verdict_accepted (inr (x, _, e)) = let z : ◌≡◌ {A = ℕ} 0 1 = cc in absurd (omega arith)

-- a try or settle that is not refused judged a sheet that breaks no rule
pub accepted_sheet : {P Q R : Type 0} (k : Kinds P Q R) (g : Grid) (s : Situation) (c : Call P Q R) (a : Answer) → Right k g s c a → taken a && has_judged c ≡ true
    → Accepted g s.book (s.dispatch (numbered (caller_number c))) (s.prices (numbered (caller_number c)))
accepted_sheet k g s c (Err refusal) r e = let z : ◌≡◌ {A = ℕ} 0 1 = cc in absurd (omega arith)
accepted_sheet k g s (Enter i w) (Ok reply) r e = let z : ◌≡◌ {A = ℕ} 0 1 = cc in absurd (omega arith)
accepted_sheet k g s (Withdraw i l n) (Ok reply) r e = let z : ◌≡◌ {A = ℕ} 0 1 = cc in absurd (omega arith)
accepted_sheet k g s (Close i) (Ok reply) r e = let z : ◌≡◌ {A = ℕ} 0 1 = cc in absurd (omega arith)
accepted_sheet k g s (Fill i f) (Ok reply) r e = let z : ◌≡◌ {A = ℕ} 0 1 = cc in absurd (omega arith)
accepted_sheet k g s (Try i) (Ok reply) r e = verdict_accepted (ask_yes (ask_yes (ask_yes r).1).1).1
accepted_sheet k g s (Settle i) (Ok reply) r e = verdict_accepted (ask_yes (ask_yes (ask_yes r).1).1).1
accepted_sheet k g s (Void i) (Ok reply) r e = let z : ◌≡◌ {A = ℕ} 0 1 = cc in absurd (omega arith)
