-- That each command is read as it is spelled.
use Rattle.std.specs.Prelude.{◌≡◌, ℕ, ◌+◌, ◌⊎◌, List, ◌++◌, length, ℤ}
use Rattle.auction.specs.Bounds.{most_zones}
use Rattle.stream.specs.declared.commands.Command.{Command}
use Rattle.stream.specs.declared.commands.Command.TheVariants.{Row, Monitor}
use Rattle.stream.specs.Spelling.{letter_of, operands_of, spelled}
use Rattle.stream.specs.Reading.{Stands}

-- a row has a sensitivity for each zone that a network may have
abbrev pub FullRow : Command → Type 0
FullRow command = (limit : ℕ) (row : List ℤ) → (command ≡ Row limit row) ⊎ (command ≡ Monitor limit row) → length row ≡ most_zones

-- wherever a command is spelled in a stream, it stands there whole: its letter names a command, with as many bytes of operands as it has
abbrev pub SpelledStands : Type 0
SpelledStands = (before after : List ℕ) (command : Command) → FullRow command → Stands (before ++ (spelled command ++ after)) (length before) (letter_of command) (operands_of command) (length before + length (spelled command))
