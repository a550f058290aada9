use Rattle.laws.proofs.Laws.{optimality}
use Rattle.laws.proofs.optimality_stands.Goals as goal

pub returns : goal.returns
returns c = optimality
