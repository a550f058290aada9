use Rattle.std.proofs.Common.{◌≡◌, ◌-◌, List, length, vec_items}
use Rattle.stream.specs.declared.Command.{Command}
use Rattle.notation.specs.Showing.{spellings}
use Rattle.notation.proofs.Pieces.{Going}
use Rattle.notation.proofs.reading.to_bytes.Given as goal

abbrev pub invariant-pieces : goal.invariant-pieces
invariant-pieces l = (done : List Command) × Going l.text l.at done × (vec_items l.bytes ≡ spellings done)

abbrev pub decreases-pieces : goal.decreases-pieces
decreases-pieces l = length l.text - l.at
