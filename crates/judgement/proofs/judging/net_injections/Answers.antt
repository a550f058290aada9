use Rattle.std.proofs.Common.{◌≡◌, ◌<◌, length, refl, ◌∙◌, arith, w32, w64, to_z, of_z}
use borrow.Author.Differences.{ints}
use Rattle.std.proofs.lemmas.List.{length-set}
use Rattle.auction.specs.Hours.{net_injection}
use Rattle.judgement.proofs.Filling.{nets_start, nets_next, nets_all}
use Rattle.judgement.proofs.judging.net_injections.Goals as goal

pub loop-zone-init : goal.loop-zone-init
loop-zone-init g c = (nets_start _ _ 24, refl)

pub loop-zone-preserved : goal.loop-zone-preserved
unfolding net_injection
loop-zone-preserved g c =
    let small = c.sum_of.ensures.bound in
    let same : to_z w32 (of_z w32 (to_z w64 (of_z w64 c.sum_of.result))) ≡ c.sum_of.result = omega (arith, ints) in
    let place : c.loop-zone.zone < length c.loop-zone.nets = let full = c.loop-zone.invariant.1 in let few = g.met.N.Network.fewzones c.args.network.now in omega arith in
    (nets_next _ _ _ c.loop-zone.zone _ c.loop-zone.invariant.0 place (same ∙ c.sum_of.ensures.value) (rw same small), length-set c.loop-zone.nets c.loop-zone.zone _ ∙ c.loop-zone.invariant.1)

pub returns : goal.returns
returns g c = nets_all _ _ c.loop-zone.nets c.loop-zone.zone _ c.loop-zone.invariant.0 (omega arith)
