-- What the block's commands do to the layers over the base of a network.
use Rattle.std.specs.Prelude.{◌≡◌, ℕ, ◌<◌, ◌≤◌, Bool, true, false, List, [], ◌∷◌, ◌++◌, ℤ, Ok, Err, Result, replicate, slice_set}
use Rattle.auction.specs.declared.Refusal.{Refusal}
use Rattle.auction.specs.declared.Refusal.TheVariants.{Stranger, NotNow}
use Rattle.auction.specs.Refusals.{Answered, Always}
use Rattle.auction.specs.Grids.{Grid, Line, line_count}
use Rattle.auction.specs.Bounds.{most_kwh, most_lines}
use Rattle.network.specs.Bounds.{OfZones, NumbersInRange}
use Rattle.network.specs.Rows.{line_of, lines_in}
use Rattle.layers.specs.Watched.{watched_grid, PlaceLeft}
use Rattle.layers.specs.Lowered.{lowered_grid, Holds}
use Rattle.stream.specs.declared.commands.Command.{Command}
use Rattle.stream.specs.declared.commands.Command.TheVariants.{Monitor, HoldBack, Open}
use Rattle.stream.specs.Spelling.{house_of}
use Rattle.block.specs.declared.phases.Phase.{Phase}
use Rattle.block.specs.declared.phases.Phase.TheVariants as Reached
use Rattle.block.specs.declared.layered.Layered.{Layered}
use Rattle.block.specs.declared.layered.Stage.{Stage}
use Rattle.block.specs.declared.layered.Stage.TheVariants as Given
use Rattle.block.specs.Phases.{Strange, Tells, allowed, next_phase}

abbrev pub stage_phase : Stage → Phase
stage_phase Given.Bare = Reached.Linked
stage_phase Given.Watched = Reached.Monitored
stage_phase Given.Held = Reached.HeldBack
stage_phase Given.Open = Reached.Open

abbrev pub opened : Stage → Bool
opened Given.Bare = false
opened Given.Watched = false
opened Given.Held = false
opened Given.Open = true

-- what lies over the base of a network: which layer was given last, the monitored lines, and how much is held back of each line
pub record Layers : Type 0 where
  pub stage : Stage
  pub watched : List Line
  pub held : List ℕ

-- both layers, with nothing in them
abbrev pub no_layers : Layers
no_layers = record { stage = Given.Bare; watched = []; held = replicate most_lines 0 }

abbrev pub layers_of : {N : Type 0} → Layered N → Layers
layers_of layered = record { stage = layered.stage; watched = lines_in layered.network.below.watched; held = layered.network.amounts.kwh }

-- both layers over a base, with nothing in them
pub record BareOver {N : Type 0} (base : N) (layered : Layered N) : Type 0 where
  pub over : layered.network.below.below ≡ base
  pub bare : layers_of layered ≡ no_layers

-- The answer to a command, and what then lies over the base: a stranger's is refused first, then one that is not allowed now; a monitored line and a held_back amount go to their layer, and the last command opens the box. A refused command changes nothing.
pub record Laid (base : Grid) (c : Command) (r : Result (Unit {0}) Refusal) (before after : Layers) : Type 0 where
  pub stranger : Strange (house_of c) → (r ≡ Err Stranger) × (after ≡ before)
  pub not_now : (Strange (house_of c) → ⊥) → allowed (stage_phase before.stage) c ≡ false → (r ≡ Err NotNow) × (after ≡ before)
  pub monitored : (limit : ℕ) (row : List ℤ) → c ≡ Monitor limit row → allowed (stage_phase before.stage) c ≡ true → Tells r (λ f. Answered f (OfZones base.zones row) (NumbersInRange limit row) (PlaceLeft base before.watched) (λ _. ((watched_grid base after.watched).lines ≡ (watched_grid base before.watched).lines ++ line_of limit row ∷ []) × (after.held ≡ before.held) × (after.stage ≡ Given.Watched)) (after ≡ before))
  pub held_back : (line kwh : ℕ) → c ≡ HoldBack line kwh → allowed (stage_phase before.stage) c ≡ true → Tells r (λ f. Answered f (line < line_count (watched_grid base before.watched)) (kwh ≤ most_kwh) Always (λ _. Holds (watched_grid base before.watched) (lowered_grid (watched_grid base before.watched) before.held) (lowered_grid (watched_grid base after.watched) after.held) line kwh × (after.held ≡ slice_set before.held line kwh) × (after.watched ≡ before.watched) × (after.stage ≡ Given.Held)) (after ≡ before))
  pub opens : c ≡ Open → allowed (stage_phase before.stage) c ≡ true → (r ≡ Ok tt) × (after.stage ≡ Given.Open) × (after.watched ≡ before.watched) × (after.held ≡ before.held)
  pub follows : r ≡ Ok tt → stage_phase after.stage ≡ next_phase (stage_phase before.stage) c

-- the layers after a command, over the same base
pub record Lays {N : Type 0} (grid : N → Grid) (before : Layered N) (c : Command) (r : Result (Unit {0}) Refusal) (after : Layered N) : Type 0 where
  pub base : after.network.below.below ≡ before.network.below.below
  pub laid : Laid (grid before.network.below.below) c r (layers_of before) (layers_of after)
