use Rattle.std.proofs.Common.{◌≡◌, ◌+◌, ◌*◌, ◌++◌, length, take}
use Rattle.stream.specs.Spelling.{sensitivities}
use Rattle.decoding.proofs.operands.Operands.row.Given as goal

-- the sensitivities so far are the bytes so far
abbrev pub invariant-loop-sensitivity : goal.invariant-loop-sensitivity
invariant-loop-sensitivity l = record {
  full : length l.sensitivity-items ≡ 24;
  read : l.initial.self.rest.now ≡ sensitivities (take l.sensitivity-index l.sensitivity-items) ++ l.self.rest.now;
  count : length l.initial.self.rest.now ≡ 2 * l.sensitivity-index + length l.self.rest.now;
}
