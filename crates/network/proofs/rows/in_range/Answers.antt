use Rattle.std.proofs.Common.{◌≡◌, suc, Bool, true, List, [], ◌∷◌, nat_le, nat_abs, ℤ, refl, ◌∙◌, arith, rules, tests}
use Rattle.std.specs.List.{list_all}
use Rattle.std.proofs.lemmas.Grind.{common_steps}
use Rattle.std.proofs.lemmas.Bool.Decides.{nat_tests}
use Rattle.std.proofs.lemmas.Iterator.{YieldsList-from_slice}
use Rattle.std.proofs.lemmas.Iterator.Search.{all_from_yields_List}
use Rattle.network.specs.Bounds.{most_sensitivity, SensitivitiesInRange}
use Rattle.network.proofs.rows.in_range.Goals as goal

abbrev within : ℤ → Bool
within sensitivity = nat_le (nat_abs sensitivity) most_sensitivity

all_within : (sensitivities : List ℤ) → SensitivitiesInRange sensitivities → list_all within sensitivities ≡ true
all_within [] each = refl
all_within (s ∷ ss) each = let first : within s ≡ true = grind (arith, nat_tests, each 0) in rw (first, all_within ss (λ z. each (suc z))) refl

pub returns : goal.returns
returns c =
    let sensitivities = c.args.sensitivities.now in
    let tested : c.all.result ≡ list_all within sensitivities = all_from_yields_List within _ _ _ c.all.ensures.ran (YieldsList-from_slice sensitivities cc) (λ x b q k. search (rules, tests)) in
    (grind (arith, common_steps, tested), λ each. tested ∙ all_within sensitivities each)
