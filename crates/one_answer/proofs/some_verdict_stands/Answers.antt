use Rattle.one_answer.proofs.Sheets.{accepted_or_broken}
use Rattle.one_answer.proofs.some_verdict_stands.Goals as goal

pub returns : goal.returns
returns c = accepted_or_broken
