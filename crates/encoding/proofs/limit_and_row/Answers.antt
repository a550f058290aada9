use Rattle.std.proofs.Common.{◌≡◌, ◌<◌, ◌++◌, length, get_or, ℤ, pos, vec_items, ap, ◌∙◌, arith, w16, SFits, to_z, of_z, rules}
use Rattle.std.proofs.lemmas.Int.{to_z-of_z}
use Rattle.stream.specs.Spelling.{le16}
use Rattle.stream.proofs.Rows.{written_more}
use Rattle.encoding.proofs.limit_and_row.Goals as goal

pub loop-sensitivity-preserved : goal.loop-sensitivity-preserved
loop-sensitivity-preserved c =
    let i = c.loop-sensitivity.sensitivity-index in
    let z : ℤ = get_or c.args.row.now c.loop-sensitivity.sensitivity-index (pos 0) in
    let fits : SFits w16 z = search rules in
    let same : to_z w16 (of_z w16 z) ≡ z = to_z-of_z w16 z fits in
    let bits : c.cast_unsigned.result ≡ of_z w16 z = c.cast_unsigned.ensures ∙ ap (of_z w16) same in
    let inside : c.loop-sensitivity.sensitivity-index < length c.args.row.now = omega (arith, c.told-row, c.loop-sensitivity-test.true) in
    let more : vec_items c.two.new.bytes ≡ vec_items c.loop-sensitivity.bytes ++ le16 c.cast_unsigned.result = search rules in
    written_more (vec_items c.four.new.bytes) c.args.row.now i (vec_items c.loop-sensitivity.bytes) (vec_items c.two.new.bytes) (le16 c.cast_unsigned.result) inside (ap le16 bits) c.loop-sensitivity.invariant more
