use Rattle.std.proofs.Common.{rules, ◌≡◌, List, [], ◌∷◌, ◌++◌, ℤ, vec_items, length, eqb-true, sym, ◌∙◌}
use Rattle.std.proofs.lemmas.List.{append-nil, nil_from_length, take_rest}
use Rattle.std.proofs.lemmas.List.Sorted.{answers_always}
use Rattle.notation.specs.Scanning.{is_blank}
use Rattle.notation.specs.Writing.{IsNumber, number}
use Rattle.notation.proofs.Pieces.{none_found, one_word}
use Rattle.notation.proofs.reading.numbers.Goals as goal

pub loop-word-init : goal.loop-word-init
loop-word-init c = rw (c.into_iter-word-iterator.ensures.into_iter_gives, c.split-word-items.ensures.rest, c.split-word-items.ensures.done, c.new-found.ensures.items, take_rest) (none_found _)

pub loop-word-preserved-in_ok-push : goal.loop-word-preserved-in_ok-push
loop-word-preserved-in_ok-push c =
    let found : List ℤ = vec_items c.loop-word.found in
    let steps = c.in-Some.ensures.steps in
    let n : ℤ = c.in_ok-number.field-0 in
    let is : IsNumber c.in-Some.word.now n = search rules in
    let pushed : vec_items c.push.new.self ≡ found ++ (n ∷ []) = search rules in
    let first = steps.2 is_blank (answers_always _ _ _ (λ f a r g h. search rules)) in
    rw (pushed) (one_word _ _ _ c.in-Some.word.now _ _ found (n ∷ []) steps.0 steps.1 (λ short. first.1.1 short 0) (λ tail numbers ends ns. number c.in-Some.word.now tail n numbers is ends ns) c.loop-word.invariant)

pub loop-word-preserved : goal.loop-word-preserved
loop-word-preserved c =
    let found : List ℤ = vec_items c.loop-word.found in
    let steps = c.in-Some.ensures.steps in
    let first = steps.2 is_blank (answers_always _ _ _ (λ f a r g h. search rules)) in
    let empty : c.in-Some.word.now ≡ [] = nil_from_length c.in-Some.word.now (eqb-true (length c.in-Some.word.now) 0 (sym c.is_empty.ensures ∙ c.if-not-is_empty.false)) in
    rw (← append-nil found) (one_word _ _ _ c.in-Some.word.now _ _ found [] steps.0 steps.1 (λ short. first.1.1 short 0) (λ tail numbers ends ns. rw (empty) ns) c.loop-word.invariant)

pub returns : goal.returns
returns c = c.loop-word.invariant.all (search rules)
