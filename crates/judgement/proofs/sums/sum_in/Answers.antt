use Rattle.std.proofs.Common.{◌≡◌, ◌+ℤ◌, sym, ap, ◌∙◌, subst, le_trans, arith, w64, SFits, to_z, of_z}
use Rattle.std.proofs.lemmas.Int.{to_z-of_z}
use Rattle.sheets.specs.Proposals.{dispatch_of}
use Rattle.judgement.specs.Parts.{Term}
use Rattle.judgement.proofs.Running.{running_start, running_next, running_bound, running_end, term_at, rates_fit, two_fit}
use Rattle.judgement.proofs.sums.sum_in.Given as given
use Rattle.judgement.proofs.sums.sum_in.Goals as goal

pub loop-number-init : goal.loop-number-init
loop-number-init g c = running_start (g.L.OrderList.entries c.args.list.now) (dispatch_of c.args.sheet.now c.args.index) (g.M.Measure.term c.args.measure.now) (g.M.Measure.rate c.args.measure.now)

-- the term that is added now
term : (g : given.Over) (c : goal.After-of-total g) → Term (g.L.OrderList.entries c.args.list.now) (dispatch_of c.args.sheet.now c.args.index) (g.M.Measure.term c.args.measure.now) (g.M.Measure.rate c.args.measure.now) c.loop-number.number c.of-total.result
term g c = term_at _ _ _ _ c.loop-number.number c.quantity.result c.of-total.result c.quantity.ensures (c.requires c.loop-number.number (omega arith))
    (g.met.L.OrderList.sound c.args.list.now c.loop-number.number (omega arith)) c.of-total.ensures.value c.of-total.ensures.bound

same : (g : given.Over) (c : goal.After-of-total g) → to_z w64 (of_z w64 c.of-total.result) ≡ c.of-total.result
same g c = to_z-of_z w64 _ (record { sfits = c.of-total.type_inv })

fits : (g : given.Over) (c : goal.After-of-total g) → SFits w64 (to_z w64 c.loop-number.total-bits +ℤ to_z w64 (of_z w64 c.of-total.result))
fits g c =
    let rate = g.M.Measure.rate c.args.measure.now in
    let few = g.met.M.Measure.modest c.args.measure.now in
    let one = term g c in
    let so_far = running_bound _ _ _ _ c.loop-number.number 10000000 _ c.loop-number.invariant (omega arith) (g.met.L.OrderList.modest c.args.list.now) in
    subst (λ x. SFits w64 (to_z w64 c.loop-number.total-bits +ℤ x)) (sym (same g c))
    (two_fit (to_z w64 c.loop-number.total-bits) c.of-total.result (le_trans so_far (rates_fit rate 10000000 few (omega arith))) (le_trans one.small (rates_fit rate _ few (le_trans one.modest (omega arith)))))

pub overflow_add-total : goal.overflow_add-total
overflow_add-total g c = fits g c

pub loop-number-preserved : goal.loop-number-preserved
loop-number-preserved g c =
    running_next _ _ _ _ c.loop-number.number _ c.of-total.result _ c.loop-number.invariant (term g c) (c.requires c.loop-number.number (omega arith))
    (to_z-of_z w64 _ (fits g c) ∙ ap (λ x. to_z w64 c.loop-number.total-bits +ℤ x) (same g c))

pub returns : goal.returns
returns g c =
    record {
      value = running_end _ _ _ _ c.loop-number.number _ c.loop-number.invariant (omega arith);
      bound = running_bound _ _ _ _ c.loop-number.number 10000000 _ c.loop-number.invariant (omega arith) (g.met.L.OrderList.modest c.args.list.now);
    }
