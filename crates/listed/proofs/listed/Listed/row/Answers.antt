use Rattle.rows.specs.Rows.{used}
use Rattle.listed.specs.Entered.{row_entered}
use Rattle.listed.proofs.listed.Listed.row.Goals as goal

pub returns : goal.returns
returns g c = row_entered g.K.Kind.meant (used c.args.self.now.rows) c.args.self.now.rows.ranged c.args.number c.row.result c.row.ensures
