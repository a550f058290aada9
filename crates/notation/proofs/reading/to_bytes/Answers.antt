use Rattle.std.proofs.Common.{◌-◌, ◌++◌, take, drop, vec_items, ap, arith, rules}
use Rattle.notation.specs.Scanning.{ends_command}
use Rattle.notation.specs.Writing.{AddedByPiece}
use Rattle.notation.proofs.Pieces.{one_more_piece, all_done, nothing_added}
use Rattle.notation.proofs.Sofar.{written_more}
use Rattle.notation.proofs.reading.to_bytes.Goals.{then-end-at+in_ok-map_err, else-end-at}
use Rattle.notation.proofs.reading.to_bytes.Goals as goal

pub pieces-preserved : goal.pieces-preserved
pieces-preserved c =
    let done = c.pieces.invariant.0 in
    let text = c.args.text.now in
    let at = c.pieces.at in
    let end = c.find_from-end.result in
    let added : AddedByPiece (take (end - at) (drop at text)) (vec_items c.pieces.bytes) (vec_items c.if-end-at.bytes) =
    elim c.if-end-at.branch [ then-end-at+in_ok-map_err w ↦ rw (w.bytes-is) (search rules) | else-end-at w ↦ nothing_added text at end (vec_items c.pieces.bytes) (vec_items c.if-end-at.bytes) (omega (arith, w.if-end-at.false)) (ap vec_items w.bytes-is) ] in (
      done ++ added.0,
      one_more_piece text at end c.after_comment-stop.result done added.0 c.pieces-test.true (c.find_from-end.ensures.first ends_command (λ byte answer says. search rules)) c.after_comment-stop.ensures.ends added.1 c.pieces.invariant.1,
      written_more (vec_items c.pieces.bytes) (vec_items c.if-end-at.bytes) done added.0 c.pieces.invariant.2 added.2,
    )

pub returns : goal.returns
returns c =
    let done = c.pieces.invariant.0 in
    record {
      commands = (done, c.pieces.invariant.2);
      written = (done, all_done c.args.text.now c.pieces.at done c.pieces-test.false c.pieces.invariant.1, c.pieces.invariant.2);
    }
