-- What the box holds, put together from its parts.
use Rattle.std.specs.Prelude.{◌≡◌, ◌<◌, ◌⊎◌, Ok, Err, Result}
use Rattle.auction.specs.declared.Broken.{Broken}
use Rattle.auction.specs.declared.Refusal.{Refusal}
use Rattle.auction.specs.declared.Refusal.TheVariants.{NoTry, Sheet}
use Rattle.auction.specs.Bounds.{most_tries}
use Rattle.auction.specs.Grids.{Grid}
use Rattle.auction.specs.Hours.{Book, Dispatch, Prices}
use Rattle.orders.specs.declared.OrderList.{Ghosts as ListMeaning}
use Rattle.judgement.specs.declared.verdict.Verdict.{Verdict}
use Rattle.judgement.specs.Verdicts.{Judged}
use Rattle.ledger.specs.Pages.{Page, paid_by, tried_page}
use Rattle.filling.specs.Sheets.{Sheets, dispatches, prices_by}
use Rattle.history.specs.Events.{Kinds, by_list}
use Rattle.history.specs.Situations.{Situation}

-- what the three lists take, each by its own kind
abbrev pub kinds_of : {X Y W P Q R : Type 0} → ListMeaning X P → ListMeaning Y Q → ListMeaning W R → Kinds P Q R
kinds_of x y w = record { order = by_list x.order y.order w.order; exists = by_list x.exists y.exists w.exists; ranged = by_list x.ranged y.ranged w.ranged }

-- the orders of the hour, the sheets of the two houses, and the ledger's page
abbrev pub situation_of : Book → Sheets → Page → Situation
situation_of b s p = record { closed = p.closed; book = b; dispatch = dispatches s; prices = prices_by s; tries = p.tries; settled_hours = p.settled; account = paid_by p; rent_account = p.rent }

-- What comes of judging a sheet where a try is left: it is used up, whatever the verdict.
abbrev pub Spent : Grid → Book → Dispatch → Prices → Page → Result Verdict Refusal → Page → Type 0
Spent g b d p page (Ok verdict) page' = (page.tries < most_tries) × Judged g b d p (Ok verdict) × (page' ≡ tried_page page)
Spent g b d p page (Err refusal) page' = ((page.tries < most_tries → ⊥) × (refusal ≡ NoTry) × (page' ≡ page)) ⊎ ((x : Broken) × (page.tries < most_tries) × Judged g b d p (Err x) × (refusal ≡ Sheet x) × (page' ≡ tried_page page))
