use Rattle.std.proofs.Common.{refl}
use Rattle.std.proofs.lemmas.Bool.{both_ways}
use Rattle.ledger.specs.Pages.{page}
use Rattle.steps.proofs.Sheets.{filled_so, not_filled, not_fillable, place_of}
use Rattle.clearing.proofs.state.ClearingBox.fill.Goals as goal

pub returns-then-not-fillable : goal.returns-then-not-fillable
returns-then-not-fillable g c =
    let b = c.args.self.now in
    (refl, not_fillable g.X.OrderList g.Y.OrderList g.W.OrderList (g.N.Network.grid b.network) c.args.house c.args.filling b.book b.sheets (page b.ledger) (λ there. both_ways c.fillable.result c.if-not-fillable.true (c.fillable.ensures.1 there)))

pub returns-in_err-fill : goal.returns-in_err-fill
returns-in_err-fill g c =
    let b = c.args.self.now in
    let there = c.fillable.ensures.0 c.if-not-fillable.false in
    let place = place_of (g.N.Network.grid b.network) (g.X.OrderList.entries b.book.first) (g.Y.OrderList.entries b.book.second) (g.W.OrderList.entries b.book.third) c.args.filling (g.met.X.OrderList.few b.book.first) (g.met.Y.OrderList.few b.book.second) (g.met.W.OrderList.few b.book.third) (g.met.N.Network.fewlines b.network) there in
    let h = c.in_err-fill.ensures in
    (refl, not_filled g.X.OrderList g.Y.OrderList g.W.OrderList (g.N.Network.grid b.network) c.args.house c.args.filling b.book b.sheets (page b.ledger) c.fill.new.sheets c.in_err-fill.field-0.0 c.from_residual.result there place c.from_residual.ensures.1 h.0 h.1)

pub returns : goal.returns
returns g c =
    let b = c.args.self.now in
    let h = c.in_ok-fill.ensures in
    (refl, filled_so g.X.OrderList g.Y.OrderList g.W.OrderList (g.N.Network.grid b.network) c.args.house c.args.filling b.book b.sheets (page b.ledger) c.fill.new.sheets (c.fillable.ensures.0 c.if-not-fillable.false) h.1 h.3)
