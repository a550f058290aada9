-- Calls have exactly one run: each call goes on from the one run of the calls before it.
use Rattle.std.proofs.Common.{◌≡◌, List, [], ◌∷◌, sym, refl, ap, ◌∙◌, subst₂}
use mathlib.Core.List.{nil≢cons, cons≢nil, head-eq_of_cons-eq, tail-eq_of_cons-eq}
use Rattle.auction.specs.Grids.{Grid}
use Rattle.history.specs.declared.calls.Call.{Call}
use Rattle.history.specs.Events.{Event, History, Kinds}
use Rattle.history.specs.Situations.{told}
use Rattle.history.specs.Right.{Right, Run}
use Rattle.history.proofs.Asking.{right_one}
use Rattle.one_answer.specs.Answers.{Answerable, OneRightAnswer, OneRun, calls}
use Rattle.one_answer.proofs.Answering.{one_right_answer}

module _ {P Q R : Type 0} (k : Kinds P Q R) (g : Grid) where
  same_run : (h other : History P Q R) → calls h ≡ calls other → Run k g h → Run k g other → h ≡ other
  same_run [] [] same run run' = refl
  same_run [] (f ∷ other) same run run' = absurd (nil≢cons same)
  same_run (e ∷ h) [] same run run' = absurd (cons≢nil same)
  same_run (e ∷ h) (f ∷ other) same run run' =
      let before = same_run h other (tail-eq_of_cons-eq same) run.0 run'.0 in
      let call = head-eq_of_cons-eq same in
      let also : Right k g (told k g h) e.call f.answer = subst₂ (λ (o : History P Q R) (c : Call P Q R). Right k g (told k g o) c f.answer) (sym before) (sym call) run'.1 in
      let answer = right_one k g (told k g h) e.call e.answer f.answer run.1 also in
      λ i. record { call = call i; answer = answer i } ∷ before i

  pub one_run : Answerable k → (cs : List (Call P Q R)) → OneRun k g cs
  one_run answerable [] = ([], refl, tt, λ other same run. same_run other [] same run tt)
  one_run answerable (c ∷ cs) = one_more (one_run answerable cs)
    where
      one_more : OneRun k g cs → OneRun k g (c ∷ cs)
      one_more (h, same, run, _) = next (one_right_answer k answerable g (told k g h) c)
        where
          next : OneRightAnswer k g (told k g h) c → OneRun k g (c ∷ cs)
          next (a, right, _) = (e ∷ h, same', (run, right), λ other same-calls run'. same_run other (e ∷ h) (same-calls ∙ sym same') run' (run, right))
            where
              e : Event P Q R
              e = record { call = c; answer = a }

              same' : calls (e ∷ h) ≡ c ∷ cs
              same' = ap (λ (before : List (Call P Q R)). c ∷ before) same
