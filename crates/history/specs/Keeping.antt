-- What is held of a box in the words of a history.
use Rattle.std.specs.Prelude.{◌≡◌}
use Rattle.auction.specs.Grids.{Grid}
use Rattle.history.specs.Events.{History, Kinds}
use Rattle.history.specs.Situations.{Situation, told}
use Rattle.history.specs.Right.{Run}

-- The history is a run, and all that is held is what its words tell.
pub record Keeps {P Q R : Type 0} (k : Kinds P Q R) (g : Grid) (h : History P Q R) (held : Situation) : Type 0 where
  pub run : Run k g h
  pub as_told : held ≡ told k g h
