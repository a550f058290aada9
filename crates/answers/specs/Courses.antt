-- What was read of a whole stream, and what was answered: first the network block, then, once it opened the box, the hours.
use Rattle.std.specs.Prelude.{◌≡◌, ℕ, false, List, [], ◌∷◌, ◌++◌, length, take, Ok, Err, MatchBool}
use Rattle.auction.specs.Grids.{Grid}
use Rattle.stream.specs.declared.commands.Command.{Command}
use Rattle.stream.specs.Spelling.{spelled, letter_of}
use Rattle.report.specs.Lines.{taken_text, refused_text, stream_fault}
use Rattle.block.specs.declared.draft.Draft.TheVariants.{Nothing}
use Rattle.ground.specs.declared.Ground.{Ground}
use Rattle.ground.specs.declared.Ground.TheVariants.{Base, OverTree, OverTable}
use Rattle.ground.specs.Grounds.{BlockAnswer, Takes, opened_ground, layered_grid, grid_of_tree}
use Rattle.table.specs.Tables.{table_grid}
use Rattle.reading.specs.Dialogues.{Ended}
use Rattle.hours.specs.Transcripts.{StreamKinds, HoursAnswered}

-- a command of the network block with its place and its answer
pub record Given : Type 0 where
  pub offset : ℕ
  pub command : Command
  pub answer : BlockAnswer

-- What the commands, the newest first, made of the network: nothing was given at first, and each was answered while the box was not open.
abbrev pub Course : List Given → Ground → Type 0
Course [] footing = footing ≡ Base Nothing
Course (x ∷ t) footing = (before : Ground) × Course t before × (opened_ground before ≡ false) × Takes before x.command x.answer footing

-- the bytes that spell the commands
abbrev pub block_bytes : List Given → List ℕ
block_bytes [] = []
block_bytes (x ∷ t) = block_bytes t ++ spelled x.command

-- each command's place is where its bytes begin
abbrev pub BlockPlaced : List Given → Type 0
BlockPlaced [] = Unit {0}
BlockPlaced (x ∷ t) = (x.offset ≡ length (block_bytes t)) × BlockPlaced t

abbrev pub block_line : ℕ → ℕ → BlockAnswer → List ℕ
block_line offset letter (Ok _) = taken_text offset letter
block_line offset letter (Err refusal) = refused_text (stream_fault offset letter refusal)

abbrev pub block_lines : List Given → List ℕ
block_lines [] = []
block_lines (x ∷ t) = block_lines t ++ block_line x.offset (letter_of x.command) x.answer

-- the network block of a stream up to a place, and what was written of it
pub record BlockRead (bytes : List ℕ) (at : ℕ) (text : List ℕ) (footing : Ground) : Type 0 where
  pub given : List Given
  pub spells : take at bytes ≡ block_bytes given
  pub placed : BlockPlaced given
  pub course : Course given footing
  pub written : text ≡ block_lines given

-- the network that a block gave
abbrev pub ground_grid : Ground → Grid
ground_grid (Base _) = record { zones = 0; lines = [] }
ground_grid (OverTree layered) = layered_grid grid_of_tree layered
ground_grid (OverTable layered) = layered_grid table_grid layered

-- The block was read: up to the command that opened the box, where the reader stands; or reading ended.
pub record BlockEnded (bytes : List ℕ) (footing : Ground) (bytes' : List ℕ) (at' : ℕ) (text' : List ℕ) : Type 0 where
  pub at : ℕ
  pub block : List ℕ
  pub block_read : BlockRead bytes at block footing
  pub stands : MatchBool (opened_ground footing) ((bytes' ≡ bytes) × (at' ≡ at) × (text' ≡ block)) (Ended bytes at block text')

-- The lines of the network block of a stream: up to the command that opened the box, with nothing after it, or up to where reading ended.
pub record BlockAnswered (bytes text : List ℕ) : Type 0 where
  pub footing : Ground
  pub at : ℕ
  pub block : List ℕ
  pub block_read : BlockRead bytes at block footing
  pub rest : MatchBool (opened_ground footing) (text ≡ block) (Ended bytes at block text)

-- the hours over the network that a block gave; nothing more is read where it did not open the box
abbrev pub HoursIfOpened : StreamKinds → Ground → List ℕ → ℕ → List ℕ → List ℕ → Type 0
HoursIfOpened k footing bytes at before after = MatchBool (opened_ground footing) (HoursAnswered k (ground_grid footing) bytes at before after) (after ≡ before)

-- The lines of a whole stream: those of its network block; and if the block opened the box, those of the hours over the network that it gave, with all that both houses rely on, else where reading ended.
pub record StreamAnswered (k : StreamKinds) (bytes text : List ℕ) : Type 0 where
  pub footing : Ground
  pub at : ℕ
  pub block : List ℕ
  pub block_read : BlockRead bytes at block footing
  pub rest : MatchBool (opened_ground footing) (HoursAnswered k (ground_grid footing) bytes at block text) (Ended bytes at block text)
