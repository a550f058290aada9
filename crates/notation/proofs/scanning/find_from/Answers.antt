use Rattle.std.proofs.Common.{rules, ◌≡◌, ◌≤◌, ◌∙◌, length, drop, true, false, sym, refl}
use Rattle.std.proofs.lemmas.List.{take_rest}
use Rattle.std.proofs.lemmas.Iterator.{YieldsList-from_slice, IsFirst-from_position}
use Rattle.notation.proofs.Stops.{found, none}
use Rattle.notation.proofs.scanning.find_from.Goals as goal

pub returns-in-Some-position-clause-first : goal.returns-in-Some-position-clause-first
returns-in-Some-position-clause-first g c = λ stops_at says.
    let text = c.args.text.now in
    let cut : c.iter.result.rest.now ≡ drop c.args.at text = c.iter.ensures.rest ∙ search (rules, take_rest) in
    let first = IsFirst-from_position _ _ _ (λ b. stops_at b ≡ true) (λ b. stops_at b ≡ false) c.in-Some-position.ensures.ran (YieldsList-from_slice (drop c.args.at text) cut) (λ x q k. sym (says x.now true (search rules))) (λ x q k. (search rules, sym (says x.now false (search rules)))) in
    found text (drop c.args.at text) c.args.at c.in-Some-position.onward stops_at refl first.0 first.1 first.2

pub returns-clause-first : goal.returns-clause-first
returns-clause-first g c = λ stops_at says.
    let text = c.args.text.now in
    let cut : c.iter.result.rest.now ≡ drop c.args.at text = c.iter.ensures.rest ∙ search (rules, take_rest) in
    let within : c.args.at ≤ length text = search rules in
    let before = IsFirst-from_position _ _ _ (λ b. stops_at b ≡ true) (λ b. stops_at b ≡ false) c.in-None.ensures.ran (YieldsList-from_slice (drop c.args.at text) cut) (λ x q k. sym (says x.now true (search rules))) (λ x q k. (search rules, sym (says x.now false (search rules)))) in
    none text (drop c.args.at text) c.args.at stops_at refl within before
