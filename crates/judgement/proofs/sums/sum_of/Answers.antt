use Rattle.std.proofs.Common.{◌≡◌, ◌*◌, ◌≤◌, ◌+ℤ◌, nat_abs, sym, ◌∙◌, subst, le_trans, arith, w64, to_z, of_z}
use Rattle.sheets.specs.Proposals.{dispatch_of}
use Rattle.judgement.proofs.Books.{three_lists, three_fit, three_added}
use Rattle.judgement.proofs.Running.{rates_fit}
use Rattle.judgement.proofs.sums.sum_of.Given as given
use Rattle.judgement.proofs.sums.sum_of.Goals as goal

sum : (g : given.Over) (c : goal.After-sum_in-3 g) → to_z w64 (of_z w64 (to_z w64 (of_z w64 (to_z w64 (of_z w64 c.sum_in.result) +ℤ to_z w64 (of_z w64 c.sum_in-2.result))) +ℤ to_z w64 (of_z w64 c.sum_in-3.result))) ≡ (c.sum_in.result +ℤ c.sum_in-2.result) +ℤ c.sum_in-3.result
sum g c =
    let all = rates_fit (g.M.Measure.rate c.args.measure.now) 10000000 (g.met.M.Measure.modest c.args.measure.now) (omega arith) in
    three_added c.sum_in.result c.sum_in-2.result c.sum_in-3.result (le_trans c.sum_in.ensures.bound all) (le_trans c.sum_in-2.ensures.bound all) (le_trans c.sum_in-3.ensures.bound all)

pub returns-clause-value : goal.returns-clause-value
returns-clause-value g c =
    sum g c ∙ (λ i. (c.sum_in.ensures.value i +ℤ c.sum_in-2.ensures.value i) +ℤ c.sum_in-3.ensures.value i)
    ∙ three_lists (g.X.OrderList.entries c.args.book.now.first.now) (g.Y.OrderList.entries c.args.book.now.second.now) (g.W.OrderList.entries c.args.book.now.third.now) (dispatch_of c.args.sheet.now) (g.M.Measure.term c.args.measure.now)

pub returns-clause-bound : goal.returns-clause-bound
returns-clause-bound g c =
    subst (λ x. nat_abs x ≤ g.M.Measure.rate c.args.measure.now * 30000000) (sym (sum g c))
    (three_fit c.sum_in.result c.sum_in-2.result c.sum_in-3.result (g.M.Measure.rate c.args.measure.now) c.sum_in.ensures.bound c.sum_in-2.ensures.bound c.sum_in-3.ensures.bound)
