use Rattle.std.proofs.Common.{rules, ◌≡◌, ◌-◌, ◌∷◌, ◌++◌, length, replicate, drop, pos, ℕ, List, ℤ, sym, ap, ◌∙◌, arith}
use Rattle.std.proofs.lemmas.List.{drop-replicate}
use Rattle.std.proofs.lemmas.List.Elements.{same_from_all_zip}
use Rattle.parsing.proofs.rows.limit_and_row.Goals as goal

pub returns : goal.returns
returns c =
    let given : List ℤ = c.in_ok-limit.given.now in
    let row : List ℤ = c.in_ok-try_map.field-0 in
    let cut : c.args.numbers.now ≡ pos c.in_ok-limit-2.limit ∷ given = search rules in
    let left : 25 - length (pos c.in_ok-limit-2.limit ∷ given) ≡ 24 - length given = omega arith in
    let copied : row ≡ given ++ drop (length given) (replicate 24 (pos 0)) = same_from_all_zip _ _ row c.in_ok-try_map.ensures.ok.whole (λ x y call. search rules) ∙ ap (λ front. front ++ drop (length given) (replicate 24 (pos 0))) c.copy_from_slice.ensures.after in
    let padded : row ≡ given ++ replicate (24 - length given) (pos 0) = copied ∙ ap (λ rest. given ++ rest) (drop-replicate (length given) 24 (pos 0)) in
    ap (λ l. l ++ replicate (25 - length l) (pos 0)) cut ∙ ap (λ (n : ℕ). pos c.in_ok-limit-2.limit ∷ (given ++ replicate n (pos 0))) left ∙ ap (λ l. pos c.in_ok-limit-2.limit ∷ l) (sym padded)
