-- What a worked case is: the network and the orders of an hour, a sheet for it, and the verdict on that sheet.
use Rattle.std.specs.Prelude.{ℕ, List, [], ◌∷◌, pos, Ok, Err}
use Rattle.auction.specs.declared.Broken.{Broken}
use Rattle.auction.specs.declared.Refusal.TheVariants as No
use Rattle.auction.specs.Grids.{Grid}
use Rattle.auction.specs.Hours.{Book, Dispatch, Prices}
use Rattle.history.specs.declared.calls.Reply.TheVariants as Says
use Rattle.history.specs.Events.{Answer}
use Rattle.history.specs.Right.{Verdict}

pub record Sheet : Type 0 where
  pub dispatch : Dispatch
  pub prices : Prices

pub record Case : Type 0 where
  pub grid : Grid
  pub book : Book
  pub sheet : Sheet
  pub verdict : Answer

-- no rule is broken: the welfare, in thousandths of a cent, and the rent, in millionths
abbrev pub accepted : (welfare rent : ℕ) → Answer
accepted welfare rent = Ok (Says.Accepted (pos welfare) (pos rent))

-- the first rule that is broken, at its first place
abbrev pub refused : Broken → Answer
refused broken = Err (No.Sheet broken)

-- the verdict is the one that the rules give
abbrev pub Stands : Case → Type 0
Stands c = Verdict c.grid c.book c.sheet.dispatch c.sheet.prices c.verdict

abbrev pub AllStand : List Case → Type 0
AllStand [] = Unit {0}
AllStand (c ∷ cs) = Stands c × AllStand cs
