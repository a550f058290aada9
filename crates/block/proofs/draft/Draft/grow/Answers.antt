use Rattle.std.proofs.Common.{rules}
use Rattle.block.proofs.Following.{longer_follows}
use Rattle.block.proofs.draft.Draft.grow.Goals as goal

pub returns-in_ok-link-in-Growing-Link : goal.returns-in_ok-link-in-Growing-Link
returns-in_ok-link-in-Growing-Link c = search (rules, longer_follows)
