-- What one command of the network block makes of the network as far as it was given.
use Rattle.std.specs.Prelude.{◌≡◌, Bool, false, ◌&&◌, Ok, Err, MatchBool, Result}
use Rattle.auction.specs.declared.Refusal.{Refusal}
use Rattle.auction.specs.declared.Refusal.TheVariants.{NotNow}
use Rattle.auction.specs.Grids.{Grid}
use Rattle.network.specs.Rows.{lines_of}
use Rattle.tree.specs.declared.grown.Tree.{Tree}
use Rattle.tree.specs.Trees.{links_of, tree_grid}
use Rattle.table.specs.declared.sheet.Table.{Table}
use Rattle.table.specs.Tables.{table_grid}
use Rattle.layers.specs.declared.held.HeldBack.{HeldBack}
use Rattle.layers.specs.declared.monitored.Monitored.{Monitored}
use Rattle.layers.specs.Watched.{watched_grid}
use Rattle.layers.specs.Lowered.{lowered_grid}
use Rattle.stream.specs.declared.commands.Command.{Command}
use Rattle.block.specs.declared.draft.Draft.{Draft}
use Rattle.block.specs.declared.draft.Draft.TheVariants.{Nothing, Growing, Tabled}
use Rattle.block.specs.declared.layered.Layered.{Layered}
use Rattle.block.specs.Phases.{allowed, for_layers}
use Rattle.block.specs.Drafts.{Grown, phase_of}
use Rattle.block.specs.Layerings.{BareOver, Lays, opened}
use Rattle.ground.specs.declared.Ground.{Ground}
use Rattle.ground.specs.declared.Ground.TheVariants.{Base, OverTree, OverTable}

-- what is answered to a command of the block
abbrev pub BlockAnswer : Type 0
BlockAnswer = Result (Unit {0}) Refusal

-- was the box opened?
abbrev pub opened_ground : Ground → Bool
opened_ground (Base _) = false
opened_ground (OverTree layered) = opened layered.stage
opened_ground (OverTable layered) = opened layered.stage

-- the network of a base with its layers: the monitored lines come after those below, and some capacity is held back
abbrev pub network_grid : {N : Type 0} → (N → Grid) → HeldBack (Monitored N) → Grid
network_grid base network = lowered_grid (watched_grid (base network.below.below) (lines_of network.below.watched.count network.below.watched.rows)) network.amounts.kwh

abbrev pub layered_grid : {N : Type 0} → (N → Grid) → Layered N → Grid
layered_grid base layered = network_grid base layered.network

abbrev pub grid_of_tree : Tree → Grid
grid_of_tree tree = tree_grid (links_of tree)

-- the layers that the first command of them leaves over a base
abbrev pub BegunOver : {N : Type 0} → (N → Grid) → N → Command → BlockAnswer → Layered N → Type 0
BegunOver {N} grid base c r after = (bare : Layered N) × BareOver base bare × Lays grid bare c r after

-- one of two, by the answer
abbrev pub by_answer : BlockAnswer → Ground → Ground → Ground
by_answer (Ok _) taken refused = taken
by_answer (Err _) taken refused = refused

-- the first command of the layers over a base; where it is refused, the base may still grow
abbrev pub Begins : Draft → Command → BlockAnswer → Ground → Type 0
Begins Nothing c r after = (r ≡ Err NotNow) × (after ≡ Base Nothing)
Begins (Growing tree zones) c r after = (l : Layered Tree) × BegunOver grid_of_tree tree c r l × (after ≡ by_answer r (OverTree l) (Base (Growing tree zones)))
Begins (Tabled table) c r after = (l : Layered Table) × BegunOver table_grid table c r l × (after ≡ by_answer r (OverTable l) (Base (Tabled table)))

-- a command of the base; a refused one leaves it as it was
abbrev pub Grows : Draft → Command → BlockAnswer → Ground → Type 0
Grows draft c r after = (grown : Draft) × Grown draft c r grown × (after ≡ Base grown)

-- a command while the base may still grow
abbrev pub TakesOnBase : Draft → Command → BlockAnswer → Ground → Type 0
TakesOnBase draft c r after = MatchBool (for_layers c && allowed (phase_of draft) c) (Begins draft c r after) (Grows draft c r after)

abbrev pub Takes : Ground → Command → BlockAnswer → Ground → Type 0
Takes (Base draft) c r after = TakesOnBase draft c r after
Takes (OverTree l) c r after = (l' : Layered Tree) × Lays grid_of_tree l c r l' × (after ≡ OverTree l')
Takes (OverTable l) c r after = (l' : Layered Table) × Lays table_grid l c r l' × (after ≡ OverTable l')
