-- The network that each layer is.
use Rattle.auction.specs.Grids.{Grid}
use Rattle.network.specs.Rows.{lines_in}
use Rattle.layers.specs.declared.held.HeldBack.{HeldBack}
use Rattle.layers.specs.declared.monitored.Monitored.{Monitored}
use Rattle.layers.specs.Watched.{watched_grid}
use Rattle.layers.specs.Lowered.{lowered_grid}

module _ {N : Type 0} (base : N → Grid) where
  -- with the lines that the layer watches
  abbrev pub monitored_grid : Monitored N → Grid
  monitored_grid layer = watched_grid (base layer.below) (lines_in layer.watched)

  -- less the capacity that the layer holds back
  abbrev pub held_grid : HeldBack N → Grid
  held_grid layer = lowered_grid (base layer.below) layer.amounts.kwh
