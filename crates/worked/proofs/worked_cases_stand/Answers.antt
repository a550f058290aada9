use Rattle.worked.proofs.Working.{worked_cases}
use Rattle.worked.proofs.worked_cases_stand.Goals as goal

pub returns : goal.returns
returns c = worked_cases
