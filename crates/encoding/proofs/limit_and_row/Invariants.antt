use Rattle.std.proofs.Common.{◌≡◌, ◌++◌, take, vec_items}
use Rattle.stream.specs.Spelling.{sensitivities}
use Rattle.encoding.proofs.limit_and_row.Given as goal

abbrev pub invariant-loop-sensitivity : goal.invariant-loop-sensitivity
invariant-loop-sensitivity l = vec_items l.bytes ≡ vec_items l.initial.bytes ++ sensitivities (take l.sensitivity-index l.row)
