-- Each call has a right answer, since each question can be answered.
use Rattle.std.proofs.Common.{ℕ, ◌+◌, true, ◌⊎◌, length, nat_abs, Ok, Err, refl, inl, inr}
use mathlib.Core.Logic.Dec
use mathlib.Core.Bool.{Bool-discrete}
use native.Mathlib.Decide.{dec_le, dec_lt, ℕ_discrete}
use Rattle.auction.specs.declared.House.{House}
use Rattle.auction.specs.declared.Broken.{Broken}
use Rattle.auction.specs.declared.Refusal.{Refusal}
use Rattle.auction.specs.declared.Refusal.TheVariants.{Sheet}
use Rattle.auction.specs.Bounds.{most_orders, most_kwh, most_lambda, most_shadow_price, most_hours, most_tries}
use Rattle.auction.specs.Houses.{house_number}
use Rattle.auction.specs.Grids.{Grid, line_count}
use Rattle.auction.specs.Hours.{Book, Dispatch, Prices, list_at, entry_at, welfare_of, rent_of}
use Rattle.auction.specs.Rules.{Accepted, FirstBroken}
use Rattle.history.specs.declared.calls.Filling.{Filling}
use Rattle.history.specs.declared.calls.Filling.TheVariants.{Quantity, Lambda, ShadowPrice}
use Rattle.history.specs.declared.calls.Call.{Call}
use Rattle.history.specs.declared.calls.Call.TheVariants.{Enter, Withdraw, Close, Fill, Try, Settle, Void}
use Rattle.history.specs.declared.calls.Reply.TheVariants as Says
use Rattle.history.specs.Events.{Answer, Kinds, caller_number, numbered, list_of, of_closed_hour}
use Rattle.history.specs.Situations.{Situation}
use Rattle.history.specs.Right.{Ask, Done, Entered, OwnStanding, all_standing_kwh, Room, Fillable, Fitting, Verdict, Questions, Right}
use Rattle.history.proofs.Asking.{right_one}
use Rattle.one_answer.specs.Answers.{Answerable, OneRightAnswer}
use Rattle.one_answer.proofs.Sheets.{accepted_or_broken}

-- a question that can be answered leaves an answer where what is asked next does
ask : {question : Type 0} {refusal : Refusal} {next : Answer → Type 0} → Dec question → (a : Answer) × next a → (a : Answer) × Ask question refusal next a
ask (yes holds) (a, answers) = (a, inl (holds, answers))
ask {refusal = refusal} (no fails) (a, answers) = (Err refusal, inr (fails, refl))

done : (a : Answer) × Done a
done = (Ok Says.Done, refl)

entered : (b : Book) (l n : ℕ) → Dec (Entered b l n)
entered b l n = dec_lt n (length (list_at b l))

own_standing : (b : Book) (house : House) (l n : ℕ) → Dec (OwnStanding b house l n)
own_standing b house l n = Dec.and (ℕ_discrete (entry_at b l n).house (house_number house)) (Bool-discrete (entry_at b l n).standing true)

room : (b : Book) (l kWh : ℕ) → Dec (Room b l kWh)
room b l kWh = Dec.and (dec_lt (length (list_at b l)) most_orders) (dec_le (all_standing_kwh b + kWh) most_kwh)

fillable : (g : Grid) (b : Book) (filling : Filling) → Dec (Fillable g b filling)
fillable g b (Quantity l n _) = entered b l n
fillable g b (Lambda _) = yes tt
fillable g b (ShadowPrice line _) = dec_lt line (line_count g)

fitting : (filling : Filling) → Dec (Fitting filling)
fitting (Quantity _ _ kWh) = dec_le kWh most_kwh
fitting (Lambda lambda) = dec_le (nat_abs lambda) most_lambda
fitting (ShadowPrice _ price) = dec_le price most_shadow_price

verdict : (g : Grid) (b : Book) (d : Dispatch) (p : Prices) → (a : Answer) × Verdict g b d p a
verdict g b d p = told (accepted_or_broken g b d p)
  where
    told : Accepted g b d p ⊎ ((x : Broken) × FirstBroken g b d p x) → (a : Answer) × Verdict g b d p a
    told (inl accepted) = (Ok (Says.Accepted (welfare_of b d) (rent_of g b d p)), inl (accepted, refl))
    told (inr (x, first)) = (Err (Sheet x), inr (x, first, refl))

module _ {P Q R : Type 0} (k : Kinds P Q R) (answerable : Answerable k) (g : Grid) (s : Situation) where
  questions : (house : House) (c : Call P Q R) → (a : Answer) × Questions k g s house c a
  questions house (Enter _ wish) = ask (answerable.exists wish g.zones) (ask (answerable.ranged wish) (ask (room s.book (list_of wish) (k.order wish).largest) done))
  questions house (Withdraw _ l n) = ask (entered s.book l n) (ask (own_standing s.book house l n) done)
  questions house (Close _) = ask (dec_lt s.settled_hours most_hours) done
  questions house (Fill _ filling) = ask (fillable g s.book filling) (ask (fitting filling) done)
  questions house (Try _) = ask (dec_lt s.tries most_tries) (verdict g s.book (s.dispatch house) (s.prices house))
  questions house (Settle _) = ask (dec_lt s.tries most_tries) (verdict g s.book (s.dispatch house) (s.prices house))
  questions house (Void _) = done

  right : (c : Call P Q R) → (a : Answer) × Right k g s c a
  right c = ask (dec_lt (caller_number c) 2) (ask (Bool-discrete (of_closed_hour c) s.closed) (questions (numbered (caller_number c)) c))

  pub one_right_answer : (c : Call P Q R) → OneRightAnswer k g s c
  one_right_answer c = let there = right c in (there.0, there.1, λ other also. right_one k g s c other there.0 also there.1)
