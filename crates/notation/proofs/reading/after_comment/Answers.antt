use Rattle.std.proofs.Common.{◌≡◌, get_or, rules}
use Rattle.notation.specs.Scanning.{ends_line}
use Rattle.notation.proofs.reading.after_comment.Goals as goal

pub returns-in-Some-eq35-clause-ends : goal.returns-in-Some-eq35-clause-ends
returns-in-Some-eq35-clause-ends c =
    let hash : get_or c.args.text.now c.args.at 0 ≡ 35 = search rules in
    rw (hash) (c.find_from.ensures.first ends_line (λ byte answer says. search rules))
