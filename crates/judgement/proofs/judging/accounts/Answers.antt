use Rattle.std.proofs.Common.{◌∙◌, w64}
use Rattle.std.proofs.lemmas.Int.{to_z-of_z}
use Rattle.auction.specs.Hours.{welfare_of}
use Rattle.judgement.proofs.judging.accounts.Goals as goal

pub returns : goal.returns
unfolding welfare_of
returns g c = record {
  welfare = to_z-of_z w64 c.sum_of.result (record { sfits = c.sum_of.type_inv }) ∙ c.sum_of.ensures.value;
  rent = to_z-of_z w64 c.rent_of.result (record { sfits = c.rent_of.type_inv }) ∙ c.rent_of.ensures;
  zero = to_z-of_z w64 c.sum_of-2.result (record { sfits = c.sum_of-2.type_inv }) ∙ c.sum_of-2.ensures.value;
  one = to_z-of_z w64 c.sum_of-3.result (record { sfits = c.sum_of-3.type_inv }) ∙ c.sum_of-3.ensures.value;
}
