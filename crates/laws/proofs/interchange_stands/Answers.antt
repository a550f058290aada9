use Rattle.laws.proofs.Laws.{interchange}
use Rattle.laws.proofs.interchange_stands.Goals as goal

pub returns : goal.returns
returns c = interchange
