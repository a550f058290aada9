use Rattle.std.proofs.Common.{refl}
use Rattle.ground.proofs.Ground.take.Goals as goal

pub returns-in-OverTree : goal.returns-in-OverTree
returns-in-OverTree c = rw c.in-OverTree.is (c.lay.new.self, c.lay.ensures, refl)

pub returns-in-OverTable : goal.returns-in-OverTable
returns-in-OverTable c = rw c.in-OverTable.is (c.lay-in-OverTable.new.self, c.lay-in-OverTable.ensures, refl)
