use Rattle.std.proofs.Common.{string_bytes, sym, ap, ◌∙◌}
use Rattle.one_answer.specs.Power.{power_kinds}
use Rattle.ground.specs.Grounds.{network_grid, grid_of_tree}
use Rattle.table.specs.Tables.{table_grid}
use Rattle.answers.specs.Courses.{ground_grid}
use Rattle.answers.proofs.Joining.{heard_opened}
use Rattle.answers.proofs.hear.Goals as goal

pub returns-in-OverTree : goal.returns-in-OverTree
returns-in-OverTree c = heard_opened c.hear_hours.result power_kinds c.args.footing (network_grid grid_of_tree c.into_network.result) c.args.dialogue.now.reader.bytes.now c.args.dialogue.now.reader.at (string_bytes c.args.dialogue.now.lines) (string_bytes c.hear_hours.new.dialogue.lines)
    (sym c.is_open.ensures ∙ c.if-not-is_open.false) (ap (network_grid grid_of_tree) c.into_network.ensures ∙ sym (ap ground_grid c.in-OverTree.is)) c.hear_hours.ensures

pub returns-in-OverTable : goal.returns-in-OverTable
returns-in-OverTable c = heard_opened c.hear_hours-in-OverTable.result power_kinds c.args.footing (network_grid table_grid c.into_network-in-OverTable.result) c.args.dialogue.now.reader.bytes.now c.args.dialogue.now.reader.at (string_bytes c.args.dialogue.now.lines) (string_bytes c.hear_hours-in-OverTable.new.dialogue.lines)
    (sym c.is_open.ensures ∙ c.if-not-is_open.false) (ap (network_grid table_grid) c.into_network-in-OverTable.ensures ∙ sym (ap ground_grid c.in-OverTable.is)) c.hear_hours-in-OverTable.ensures
