-- Every sheet has a verdict, each call exactly one right answer, and so each list of calls exactly one list of right answers.
use Rattle.std.specs.Prelude.{◌≡◌, ℕ, ◌⊎◌, List, map}
use Rattle.auction.specs.declared.Broken.{Broken}
use Rattle.auction.specs.Grids.{Grid}
use Rattle.auction.specs.Hours.{Book, Dispatch, Prices}
use Rattle.auction.specs.Rules.{Accepted, FirstBroken}
use Rattle.history.specs.declared.calls.Wish.{Wish}
use Rattle.history.specs.declared.calls.Call.{Call}
use Rattle.history.specs.Events.{Answer, History, Kinds}
use Rattle.history.specs.Situations.{Situation}
use Rattle.history.specs.Right.{Right, Run}

-- a sheet breaks no rule, or one first, at a first place; that it has at most one verdict is a law of its own
abbrev pub SomeVerdictLaw : Type 0
SomeVerdictLaw = (g : Grid) (b : Book) (d : Dispatch) (p : Prices) → Accepted g b d p ⊎ ((x : Broken) × FirstBroken g b d p x)

-- The two questions whose meaning is a kind's own have a yes or a no for each wish: is all that it names there, and are its numbers in range? All other questions are about numbers.
pub record Answerable {P Q R : Type 0} (k : Kinds P Q R) : Type 0 where
  pub exists : (wish : Wish P Q R) (zones : ℕ) → Dec (k.exists wish zones)
  pub ranged : (wish : Wish P Q R) → Dec (k.ranged wish)

-- a call has a right answer, and no other answer is right
abbrev pub OneRightAnswer : {P Q R : Type 0} → Kinds P Q R → Grid → Situation → Call P Q R → Type 0
OneRightAnswer k g s c = (a : Answer) × Right k g s c a × ((other : Answer) → Right k g s c other → other ≡ a)

-- in every situation, and so in the one that a history tells, whatever the history
abbrev pub OneAnswerLaw : {P Q R : Type 0} → Kinds P Q R → Type 0
OneAnswerLaw {P} {Q} {R} k = (g : Grid) (s : Situation) (c : Call P Q R) → OneRightAnswer k g s c

-- the calls of a history, the newest first
abbrev pub calls : {P Q R : Type 0} → History P Q R → List (Call P Q R)
calls h = map (λ e. e.call) h

-- calls can be given answers that are all right, each for what came before, and in one way only
abbrev pub OneRun : {P Q R : Type 0} → Kinds P Q R → Grid → List (Call P Q R) → Type 0
OneRun {P} {Q} {R} k g cs = (h : History P Q R) × (calls h ≡ cs) × Run k g h × ((other : History P Q R) → calls other ≡ cs → Run k g other → other ≡ h)

abbrev pub OneRunLaw : {P Q R : Type 0} → Kinds P Q R → Type 0
OneRunLaw {P} {Q} {R} k = (g : Grid) (cs : List (Call P Q R)) → OneRun k g cs
