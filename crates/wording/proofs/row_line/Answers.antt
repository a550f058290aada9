use Rattle.std.proofs.Common.{rules, ◌≡◌, List, ℤ, arith}
use Rattle.std.proofs.lemmas.List.{same_lists}
use Rattle.wording.proofs.Blanks.{ended, headed}
use Rattle.wording.proofs.row_line.Goals as goal

pub returns : goal.returns
returns c =
    let row : List ℤ = c.args.row.now in
    let same : c.map-row.result ≡ row = same_lists c.map-row.result row (omega arith) (λ k d h. let call = c.map-row.ensures.items.at k d d (omega arith) in search rules) in
    let letter : c.from-letter.result ≡ c.args.letter = search rules in
    rw (← same, ← ended c.map-row.result, ← headed c.args.letter c.requires, ← letter) c.format.ensures.ok
