use Rattle.std.proofs.Common.{◌≡◌, ◌*◌, ◌≤◌, get_or, pos, ◌+ℤ◌, nat_abs, sym, ap, ◌∙◌, subst, le_trans, arith, w32, w64, SFits, to_z, of_z, rules}
use Rattle.std.proofs.lemmas.Int.{to_z-of_z}
use Rattle.orders.specs.Reads.{entry}
use Rattle.judgement.proofs.Running.{one_injection, two_fit}
use Rattle.judgement.proofs.Paying.{paid_start, paid_next, paid_bound, one_zone_small, modest_proceeds}
use Rattle.judgement.proofs.money.proceeds.Given as given
use Rattle.judgement.proofs.money.proceeds.Goals as goal

pub loop-zone-init : goal.loop-zone-init
loop-zone-init g c = paid_start c.args.prices.now (entry (g.L.OrderList.entries c.args.list.now) c.args.number).order c.args.quantity

-- what is fed into the zone
fed : (g : given.Over) (c : goal.After-injection g) → to_z w64 (of_z w64 c.injection.result) ≡ (entry (g.L.OrderList.entries c.args.list.now) c.args.number).order.injection c.args.quantity c.loop-zone.zone
fed g c = to_z-of_z w64 c.injection.result (record { sfits = c.injection.type_inv }) ∙ c.injection.ensures.possible c.requires.1

little : (g : given.Over) (c : goal.After-injection g) → nat_abs (to_z w64 (of_z w64 c.injection.result)) ≤ 2 * c.args.quantity
little g c = subst (λ x. nat_abs x ≤ 2 * c.args.quantity) (sym (fed g c)) (one_injection _ _ _ (g.met.L.OrderList.sound c.args.list.now c.args.number c.requires.0) c.requires.1)

modest : (g : given.Over) (c : goal.After-injection g) → c.args.quantity ≤ 10000000
modest g c = le_trans c.requires.1 (g.met.L.OrderList.sound c.args.list.now c.args.number c.requires.0).largest_in_range

pub paid-total-requires : goal.paid-total-requires
paid-total-requires g c = let few = modest g c in let small = little g c in omega arith

pay : (g : given.Over) (c : goal.After-paid-total g) → to_z w64 (of_z w64 c.paid-total.result) ≡ c.paid-total.result
pay g c = to_z-of_z w64 _ (record { sfits = c.paid-total.type_inv })

fits : (g : given.Over) (c : goal.After-paid-total g) → SFits w64 (to_z w64 c.loop-zone.total-bits +ℤ to_z w64 (of_z w64 c.paid-total.result))
fits g c =
    let sound = g.met.L.OrderList.sound c.args.list.now c.args.number c.requires.0 in
    subst (λ x. SFits w64 (to_z w64 c.loop-zone.total-bits +ℤ x)) (sym (pay g c))
    (two_fit (to_z w64 c.loop-zone.total-bits) c.paid-total.result
    (modest_proceeds (to_z w64 c.loop-zone.total-bits) c.args.quantity (paid_bound _ _ _ c.loop-zone.zone _ c.loop-zone.invariant sound c.requires.1) (modest g c.before))
    (one_zone_small _ _ (to_z w64 (of_z w64 c.injection.result)) c.args.quantity c.paid-total.ensures.0 c.paid-total.ensures.1 (little g c.before) (modest g c.before)))

pub overflow_add-total : goal.overflow_add-total
overflow_add-total g c = fits g c

pub loop-zone-preserved : goal.loop-zone-preserved
loop-zone-preserved g c =
    let there : SFits w32 (get_or c.args.prices.now c.loop-zone.zone (pos 0)) = search rules in
    paid_next _ _ _ c.loop-zone.zone _ _ _ c.paid-total.result _ c.loop-zone.invariant c.paid-total.ensures.0 (to_z-of_z w32 _ there) c.paid-total.ensures.1
    (fed g c.before) (to_z-of_z w64 _ (fits g c) ∙ ap (λ x. to_z w64 c.loop-zone.total-bits +ℤ x) (pay g c))
