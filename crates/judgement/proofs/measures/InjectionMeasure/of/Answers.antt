use Rattle.std.proofs.Common.{◌*◌, ◌≤◌, nat_abs, sym, ◌∙◌, subst, w64}
use Rattle.std.proofs.lemmas.Int.{to_z-of_z}
use Rattle.judgement.proofs.Running.{one_injection}
use Rattle.judgement.proofs.measures.InjectionMeasure.of.Goals as goal

pub returns-clause-bound : goal.returns-clause-bound
returns-clause-bound g c =
    let sound = g.met.L.OrderList.sound c.args.list.now c.args.number c.requires.0 in
    subst (λ x. nat_abs x ≤ 2 * c.args.quantity) (sym (to_z-of_z w64 c.injection.result (record { sfits = c.injection.type_inv }) ∙ c.injection.ensures.possible c.requires.1)) (one_injection _ _ _ sound c.requires.1)
