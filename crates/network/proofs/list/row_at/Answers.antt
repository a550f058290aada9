use Rattle.std.proofs.Common.{None, sym, ◌∙◌}
use Rattle.filled.specs.Lists.{kept}
use Rattle.network.specs.Rows.{row_line, SameLine}
use Rattle.network.proofs.Lines.{line_found}
use Rattle.network.proofs.list.row_at.Goals as goal

pub returns-in-None : goal.returns-in-None
returns-in-None g c =
    line_found (SameLine (row_line c.blank.result)) {Found = λ _. ⊥} (kept c.args.rows.now) c.args.index None (sym c.in-None.is ∙ c.get.ensures) c.blank.ensures (λ row none. absurd none)
