use Rattle.std.proofs.Common.{◌≡◌, ◌+ℤ◌, refl, sym, ap, ◌∙◌, subst, arith, w64, SFits, to_z, of_z}
use Rattle.std.proofs.lemmas.Int.{to_z-of_z}
use Rattle.auction.specs.Sums.{Σ}
use Rattle.flows.proofs.Summing.{Σ_next, Σℕ_next, Σℕ_term, sum_fits, sum_grows}
use Rattle.flows.proofs.numbers.sum_of.Given as given
use Rattle.flows.proofs.numbers.sum_of.Goals as goal

pub loop-i-init : goal.loop-i-init
unfolding Σ
loop-i-init g c = ((λ f are. refl), λ size within. omega arith)

-- the term as the call gave it
same : (g : given.Over) (c : goal.After-term-total g) → to_z w64 (of_z w64 c.term-total.result) ≡ c.term-total.result
same g c = to_z-of_z w64 _ (record { sfits = c.term-total.type_inv })

fits : (g : given.Over) (c : goal.After-term-total g) → SFits w64 (to_z w64 c.loop-i.total-bits +ℤ to_z w64 (of_z w64 c.term-total.result))
fits g c =
    let size = c.requires.modest.0 in
    let one = c.requires.modest.2 c.loop-i.i c.term-total.result c.loop-i-test.true c.term-total.ensures in
    subst (λ x. SFits w64 (to_z w64 c.loop-i.total-bits +ℤ x)) (sym (same g c))
    (sum_fits (to_z w64 c.loop-i.total-bits) c.term-total.result _ _ _ (c.loop-i.invariant.1 size c.requires.modest.2) one (Σℕ_term size c.loop-i.i c.args.count c.loop-i-test.true) c.requires.modest.1)

pub overflow_add-total : goal.overflow_add-total
overflow_add-total g c = fits g c

pub loop-i-preserved : goal.loop-i-preserved
loop-i-preserved g c =
    let sum = to_z-of_z w64 _ (fits g c) ∙ ap (λ x. to_z w64 c.loop-i.total-bits +ℤ x) (same g c) in (
      (λ f are. sum ∙ (λ j. c.loop-i.invariant.0 f are j +ℤ are c.loop-i.i c.term-total.result c.loop-i-test.true c.term-total.ensures j) ∙ sym (Σ_next f c.loop-i.i)),
      λ size within. sum_grows (to_z w64 c.loop-i.total-bits) c.term-total.result _ _ _ _ sum (c.loop-i.invariant.1 size within) (within c.loop-i.i c.term-total.result c.loop-i-test.true c.term-total.ensures) (Σℕ_next size c.loop-i.i),
    )
