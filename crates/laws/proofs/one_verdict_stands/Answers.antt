use Rattle.laws.proofs.Laws.{one_verdict}
use Rattle.laws.proofs.one_verdict_stands.Goals as goal

pub returns : goal.returns
returns c = one_verdict
