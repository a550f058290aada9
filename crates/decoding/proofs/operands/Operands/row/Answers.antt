use Rattle.std.proofs.Common.{◌≡◌, ◌+◌, ◌<◌, ◌++◌, ◌∙◌, length, length-set, ℤ, w16, to_z, of_z, arith, rules}
use Rattle.std.proofs.lemmas.Int.{to_z-of_z}
use Rattle.stream.specs.Spelling.{signed16}
use Rattle.stream.proofs.Rows.{row_read}
use Rattle.decoding.proofs.operands.Operands.row.Goals as goal

pub loop-sensitivity-preserved : goal.loop-sensitivity-preserved
loop-sensitivity-preserved c =
    let z : ℤ = c.cast_signed.result in
    let same : to_z w16 (of_z w16 z) ≡ z = to_z-of_z w16 z (search rules) in
    let inside : c.loop-sensitivity.sensitivity-index < length c.loop-sensitivity.sensitivity-items = omega arith in
    let number : c.loop-sensitivity.self.rest.now ≡ signed16 z ++ c.two.new.self.rest.now = search rules in
    let count : length c.loop-sensitivity.self.rest.now ≡ 2 + length c.two.new.self.rest.now = search rules in
    rw same (record {
      full = length-set c.loop-sensitivity.sensitivity-items c.loop-sensitivity.sensitivity-index z ∙ c.loop-sensitivity.invariant.full;
      read = row_read c.loop-sensitivity.sensitivity-items c.loop-sensitivity.sensitivity-index z _ _ _ inside c.loop-sensitivity.invariant.read number;
      count = omega arith;
    })
