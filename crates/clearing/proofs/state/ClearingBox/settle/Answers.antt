use Rattle.std.proofs.Common.{refl, ap, ◌∙◌, w64, SFits, to_z, of_z, rules}
use Rattle.std.proofs.lemmas.Int.{to_z-of_z}
use Rattle.ledger.specs.Pages.{page}
use Rattle.steps.proofs.Judging.{settled_so, not_settled}
use Rattle.clearing.proofs.state.ClearingBox.settle.Goals as goal

pub returns-in_err-verdict : goal.returns-in_err-verdict
returns-in_err-verdict g c =
    let b = c.args.self.now in
    (refl, not_settled g.X.OrderList g.Y.OrderList g.W.OrderList (g.N.Network.grid b.network) c.args.house b.book b.sheets (page b.ledger) (page c.judged.new.ledger) c.in_err-verdict.field-0.0 c.of-sheet.result.now c.from_residual.result c.from_residual.ensures.1 (c.of-sheet.ensures, c.in_err-verdict.ensures))

pub returns : goal.returns
returns g c =
    let b = c.args.self.now in
    let b' = c.clear.new.self in
    let v = c.in_ok-verdict.verdict in
    let rent-fits : SFits w64 v.rent = search rules in (
      c.clear.ensures.kept.0,
      settled_so g.X.OrderList g.Y.OrderList g.W.OrderList (g.N.Network.grid b.network) c.args.house b.book b.sheets (page b.ledger) (page c.judged.new.ledger) v c.of-sheet.result.now c.accepted.result
          (to_z w64 (of_z w64 v.rent)) b'.book b'.sheets (page b'.ledger)
          c.accepted.ensures (to_z-of_z w64 v.rent rent-fits) c.requires (c.of-sheet.ensures, c.in_ok-verdict.ensures)
          (ap page c.clear.ensures.kept.1 ∙ c.settle.ensures) c.clear.ensures.orders c.clear.ensures.sheets,
    )
