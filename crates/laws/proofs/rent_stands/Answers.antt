use Rattle.laws.proofs.Laws.{rent_law}
use Rattle.laws.proofs.rent_stands.Goals as goal

pub returns : goal.returns
returns c = rent_law
