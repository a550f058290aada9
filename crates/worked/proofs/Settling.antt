-- The run that settles an hour: each question gets a yes, and the verdicts are computed.
use Rattle.std.proofs.Common.{◌≡◌, ℕ, ◌<◌, Bool, T, ltb, leb, ◌⊎◌, refl, inl, lit<, lit≤}
use Rattle.auction.specs.Bounds.{most_price, most_kwh}
use Rattle.rows.specs.Bounds.{InRange}
use Rattle.history.specs.Right.{Run}
use Rattle.worked.specs.Table.{two_zones}
use Rattle.worked.specs.Settled.{kinds, settled_hour, SettledRun}
use Rattle.worked.proofs.Judging.{judged_right, computing}

-- a question that gets a yes
granted : {Question Next No : Type 0} → Question → Next → (Question × Next) ⊎ No
granted question next = inl (question, next)

-- the house is one of the two, the hour allows the call, and then the call's own questions
allowed : {caller : ℕ} {needs closed : Bool} {Next No Other : Type 0} → T (ltb caller 2) → needs ≡ closed → Next → ((caller < 2) × (((needs ≡ closed) × Next) ⊎ No)) ⊎ Other
allowed one_of_two now next = granted (lit< one_of_two) (granted now next)

-- an order's price and quantity are in range
ranged : {price quantity : ℕ} → T (leb price most_price) → T (ltb 0 quantity) → T (leb quantity most_kwh) → InRange price quantity
ranged price some quantity = record { price_in_range = lit≤ price; some = lit< some; quantity_in_range = lit≤ quantity }

-- a run, and the right answer to one more call
infixl 5 ◌then◌
◌then◌ : {Before Now : Type 0} → Before → Now → Before × Now
before then now = (before, now)

pub settled_run : SettledRun
unfolding computing
settled_run = record { right = right; settled = refl; seller_is_paid = refl; buyer_pays = refl; rent = refl }
  where
    right : Run kinds two_zones settled_hour
    right =
        tt
        -- the orders
        then allowed tt refl (granted (lit< tt) (granted (ranged tt tt tt) (granted (lit< tt, lit≤ tt) refl)))
        then allowed tt refl (granted (lit< tt) (granted (ranged tt tt tt) (granted (lit< tt, lit≤ tt) refl)))
        then allowed tt refl (granted (lit< tt) (granted (ranged tt tt tt) (granted (lit< tt, lit≤ tt) refl)))
        -- the close
        then allowed tt refl (granted (lit< tt) refl)
        -- the quantities and lambda
        then allowed tt refl (granted (lit< tt) (granted (lit≤ tt) refl))
        then allowed tt refl (granted (lit< tt) (granted (lit≤ tt) refl))
        then allowed tt refl (granted (lit< tt) (granted (lit≤ tt) refl))
        then allowed tt refl (granted tt (granted (lit≤ tt) refl))
        -- the try without the line's price, the price, and the try with it
        then allowed tt refl (granted (lit< tt) (judged_right _ _ _ _ _ refl))
        then allowed tt refl (granted (lit< tt) (granted (lit≤ tt) refl))
        then allowed tt refl (granted (lit< tt) (judged_right _ _ _ _ _ refl))
        -- the settling
        then allowed tt refl (granted (lit< tt) (judged_right _ _ _ _ _ refl))
