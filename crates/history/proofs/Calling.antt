-- From a call that is handled, or refused at once, to its outcome and to the longer history.
use Rattle.std.proofs.Common.{◌≡◌, ◌<◌, ◌≤◌, ◌∷◌, IsErrAnd, Ok, Err, sym, refl, ap, ◌∙◌, subst, inl, inr, arith}
use Rattle.auction.specs.declared.House.{House}
use Rattle.auction.specs.declared.House.TheVariants.{Zero, One}
use Rattle.auction.specs.declared.Refusal.{Refusal}
use Rattle.auction.specs.declared.Refusal.TheVariants.{Stranger, NotNow}
use Rattle.auction.specs.Houses.{house_number}
use Rattle.auction.specs.Grids.{Grid}
use Rattle.history.specs.declared.calls.Call.{Call}
use Rattle.history.specs.declared.calls.Call.TheVariants.{Enter, Withdraw, Close, Fill, Try, Settle, Void}
use Rattle.history.specs.Events.{Answer, Event, History, Kinds, caller_number, numbered, of_closed_hour}
use Rattle.history.specs.Situations.{Situation}
use Rattle.history.specs.Right.{Questions, Right, Run}
use Rattle.history.specs.Promise.{Promise}
use Rattle.history.specs.Steps.{after}
use Rattle.history.specs.Handling.{Handled, Outcome}
use Rattle.history.specs.Keeping.{Keeps}
use Rattle.history.proofs.Telling.{told_after}
use Rattle.history.proofs.Promised.{promised}

pub numbered_is : (house : House) → numbered (house_number house) ≡ house
numbered_is Zero = refl
numbered_is One = refl

one_of_two : (house : House) → house_number house < 2
one_of_two Zero = omega arith
one_of_two One = omega arith

-- a call that the hour allows
pub allowed_outcome : {P Q R : Type 0} (k : Kinds P Q R) (g : Grid) (house : House) (d c : Call P Q R) (s s' : Situation) (a : Answer) → d ≡ c → caller_number d ≡ house_number house → of_closed_hour d ≡ s.closed → Handled k g house d s a s' → Outcome k g c s a s'
allowed_outcome k g house d c s s' a is by now handled = subst (λ x. Outcome k g x s a s') is (record {
  answered = inl (subst (λ n. n < 2) (sym by) (one_of_two house), inl (now, subst (λ x. Questions k g s x d a) (sym (ap numbered by ∙ numbered_is house)) handled.answered));
  next = handled.next;
})

unchanged_not_now : {P Q R : Type 0} (k : Kinds P Q R) (g : Grid) (c : Call P Q R) (s : Situation) → s ≡ after k g s (record { call = c; answer = Err NotNow })
unchanged_not_now k g (Enter i w) s = refl
unchanged_not_now k g (Withdraw i l n) s = refl
unchanged_not_now k g (Close i) s = refl
unchanged_not_now k g (Fill i f) s = refl
unchanged_not_now k g (Try i) s = refl
unchanged_not_now k g (Settle i) s = refl
unchanged_not_now k g (Void i) s = refl

unchanged_stranger : {P Q R : Type 0} (k : Kinds P Q R) (g : Grid) (c : Call P Q R) (s : Situation) → s ≡ after k g s (record { call = c; answer = Err Stranger })
unchanged_stranger k g (Enter i w) s = refl
unchanged_stranger k g (Withdraw i l n) s = refl
unchanged_stranger k g (Close i) s = refl
unchanged_stranger k g (Fill i f) s = refl
unchanged_stranger k g (Try i) s = refl
unchanged_stranger k g (Settle i) s = refl
unchanged_stranger k g (Void i) s = refl

-- a call that the hour does not allow
pub not_now_outcome : {P Q R : Type 0} (k : Kinds P Q R) (g : Grid) (house : House) (c : Call P Q R) (s : Situation) → caller_number c ≡ house_number house → (of_closed_hour c ≡ s.closed → ⊥) → Outcome k g c s (Err NotNow) s
not_now_outcome k g house c s by not_now = record { answered = inl (subst (λ n. n < 2) (sym by) (one_of_two house), inr (not_now, refl)); next = unchanged_not_now k g c s }

-- a stranger's call
pub stranger_outcome : {P Q R : Type 0} (k : Kinds P Q R) (g : Grid) (c : Call P Q R) (s : Situation) (refusal : Refusal) (a : Answer) → 2 ≤ caller_number c → refusal ≡ Stranger → IsErrAnd a (λ r. r ≡ refusal) → Outcome k g c s a s
stranger_outcome k g c s refusal (Ok reply) strange is lifted = absurd lifted
stranger_outcome k g c s refusal (Err r) strange is lifted = subst (λ x. Outcome k g c s (Err x) s) (sym (lifted ∙ is)) (record { answered = inr ((λ lt. omega arith), refl); next = unchanged_stranger k g c s })

-- the longer history is kept, and the promise holds of it
pub kept_on : {P Q R : Type 0} (k : Kinds P Q R) (g : Grid) (c : Call P Q R) (s s' : Situation) (a : Answer) → Outcome k g c s a s' → (h : History P Q R) → Keeps k g h s → Keeps k g (record { call = c; answer = a } ∷ h) s' × Promise k g (record { call = c; answer = a } ∷ h)
kept_on {P} {Q} {R} k g c s s' a out h keeps = (record { run = longer; as_told = out.next ∙ ap (λ t. after k g t e) keeps.as_told ∙ sym (told_after k g h keeps.run e) }, promised k g (e ∷ h) longer)
  where
    e : Event P Q R
    e = record { call = c; answer = a }

    longer : Run k g (e ∷ h)
    longer = (keeps.run, subst (λ t. Right k g t c a) keeps.as_told out.answered)
