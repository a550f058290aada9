-- The worked cases, by computing their verdicts.
use Rattle.std.proofs.Common.{◌≡◌, List, [], ◌∷◌, map, refl}
use Rattle.history.specs.Events.{Answer}
use Rattle.worked.specs.Cases.{Case, AllStand}
use Rattle.worked.specs.Table.{table, WorkedCases}
use Rattle.worked.proofs.Judging.{judged, judged_right, computing}

abbrev judgement_of : Case → Answer
judgement_of c = judged c.grid c.book c.sheet.dispatch c.sheet.prices

all_stand : (cs : List Case) → map judgement_of cs ≡ map (λ c. c.verdict) cs → AllStand cs
all_stand [] e = tt
all_stand (c ∷ cs) e =
    let first : judgement_of c ≡ c.verdict = cc in
    let others : map judgement_of cs ≡ map (λ x. x.verdict) cs = cc in
    (judged_right c.grid c.book c.sheet.dispatch c.sheet.prices c.verdict first, all_stand cs others)

pub worked_cases : WorkedCases
unfolding computing
worked_cases = record { verdicts = all_stand table refl; seller_is_paid = refl; buyer_pays = refl }
