-- How far an hour has come.
use Rattle.std.specs.Prelude.{Bool, true, false}
use Rattle.ledger.specs.declared.phase.Phase.{Phase}
use Rattle.ledger.specs.declared.phase.Phase.TheVariants.{Open, Closed}

abbrev pub is_closed : Phase → Bool
is_closed Open = false
is_closed Closed = true
