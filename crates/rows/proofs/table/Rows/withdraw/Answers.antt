use Rattle.std.proofs.Common.{sym, ◌∙◌, refl, arith, rules}
use Rattle.std.proofs.lemmas.List.Elements.{All-same, All-set}
use Rattle.filled.specs.Lists.{kept}
use Rattle.rows.specs.Kwh.{Ranged}
use Rattle.rows.specs.Rows.{withdrawn}
use Rattle.rows.proofs.Held.{row_there, row_ranged, without_none, without_set, without_fallen, kwh_fallen, kwh_after, set_done}
use Rattle.rows.proofs.table.Rows.withdraw.Goals as goal

pub returns-in_default : goal.returns-in_default
returns-in_default c = sym (without_none (kept c.args.self.now.rows) c.args.number (search rules))

pub returns-then-row : goal.returns-then-row
returns-then-row c =
    let rows = kept c.args.self.now.rows in
    let there = row_there rows c.args.number c.in-Some.row c.in-Some.ensures in
    set_done rows (kept c.set.new.self) c.args.number _ _ c.set.result there c.set.ensures.changed ∙ without_set rows c.args.number c.in-Some.row c.in-Some.ensures

pub returns-else-row : goal.returns-else-row
returns-else-row c = sym (without_fallen (kept c.args.self.now.rows) c.args.number c.in-Some.row c.in-Some.ensures c.if-row.false)

-- of whichever row was read
pub overflow_sub-self : goal.overflow_sub-self
overflow_sub-self c =
    let row = c.in-Some.row in
    let left = kwh_fallen (kept c.args.self.now.rows) _ row (withdrawn row) c.in-Some.ensures c.if-row.true refl in
    omega arith

-- of whichever row was read, and whatever else stands in the row that is written
pub invariant_of-self : goal.invariant_of-self
invariant_of-self c =
    let before = c.args.self.now in
    let rows = kept before.rows in
    let there = row_there rows _ c.in-Some.row c.in-Some.ensures in
    let done = set_done rows (kept c.set.new.self) _ _ _ c.set.result there c.set.ensures.changed in
    let left = kwh_after rows (kept c.set.new.self) _ c.in-Some.row _ done c.in-Some.ensures c.if-row.true refl in
    let ranged = row_ranged rows before.ranged _ c.in-Some.row c.in-Some.ensures in
    record {
      ranged = All-same Ranged (kept c.set.new.self) _ done (All-set Ranged rows _ _ ranged before.ranged);
      summed = omega arith;
      modest = omega arith;
    }
