use Rattle.std.proofs.Common.{ℕ, ◌<◌, length, Some, arith, rules}
use Rattle.std.proofs.lemmas.Iterator.{first_from_Range}
use Rattle.flows.specs.Firsts.{FirstFailing}
use Rattle.orders.specs.Reads.{entry}
use Rattle.sheets.specs.Proposals.{dispatch_of}
use Rattle.places.proofs.Threes.{first_failing}
use Rattle.places.proofs.places.first_in.Given as given
use Rattle.places.proofs.places.first_in.Goals as goal

-- the order that is found is the first that does not meet the rule
first : (g : given.Over) (c : goal.In-Some g) → FirstFailing (λ n. g.R.Rule.asks c.args.rule.now (entry (g.L.OrderList.entries c.args.list.now) n) (dispatch_of c.args.sheet.now c.args.index n)) (length (g.L.OrderList.entries c.args.list.now)) (Some c.in-Some.number)
first g c =
    let es = g.L.OrderList.entries c.args.list.now in
    let asks = λ (n : ℕ). g.R.Rule.asks c.args.rule.now (entry es n) (dispatch_of c.args.sheet.now c.args.index n) in
    first_failing asks c.count.result (length es) (Some c.in-Some.number)
    (first_from_Range _ _ _ (Some c.in-Some.number) (λ n. n < length es → asks n → ⊥) (λ n. n < length es → asks n) c.in-Some.ensures.ran (λ x q k. search rules) (λ x q k. search rules)) c.count.ensures

pub overflow_cast-number : goal.overflow_cast-number
overflow_cast-number g c = let few = g.met.L.OrderList.few c.args.list.now in let there = (first g c).0 in omega arith

pub returns-in-Some : goal.returns-in-Some
returns-in-Some g c = (c.in-Some.number, c.broken.ensures, first g c.before)
