use Rattle.std.proofs.Common.{refl, arith}
use Rattle.std.proofs.lemmas.List.Elements.{All-same, All-push}
use Rattle.filled.specs.Lists.{kept}
use Rattle.rows.specs.Kwh.{Ranged}
use Rattle.rows.proofs.Held.{kwh_longer}
use Rattle.rows.proofs.table.Rows.push.Goals as goal

-- whatever else stands in the row that is written
pub invariant_of-self-2 : goal.invariant_of-self-2
invariant_of-self-2 c =
    let before = c.args.self.now in
    let longer = c.in_ok-push.ensures.added.3 in
    let more = kwh_longer (kept before.rows) (kept c.push.new.self) _ longer refl in
    record {
      ranged = All-same Ranged (kept c.push.new.self) _ longer (All-push Ranged (kept before.rows) _ before.ranged c.in_ok-row.ensures.0);
      summed = omega arith;
      modest = omega arith;
    }
