-- Three small hours and twelve sheets for them, each with its verdict.
use Rattle.std.specs.Prelude.{◌≡◌, ℕ, true, List, [], ◌∷◌, pos, neg_ℤ, slice_index, slice_index_or}
use Rattle.auction.specs.declared.Broken.TheVariants.{Quantity, Balance, Flow, Binding, Contentment}
use Rattle.auction.specs.Grids.{Grid}
use Rattle.auction.specs.Orders.{Order}
use Rattle.auction.specs.Hours.{Entry, Book, amount_of}
use Rattle.history.specs.Events.{Answer}
use Rattle.tree.specs.Links.{link_with}
use Rattle.tree.specs.Trees.{tree_grid}
use Rattle.kinds.specs.Kinds.{offer, bid}
use Rattle.worked.specs.Cases.{Sheet, Case, accepted, refused, AllStand}

-- Networks

-- zone 1 is joined to zone 0: 40 kWh may flow to zone 0 (line 0), and 30 kWh to zone 1 (line 1)
abbrev pub two_zones : Grid
two_zones = tree_grid (link_with 0 40 30 ∷ [])

-- one zone, and so no line
abbrev pub one_zone : Grid
one_zone = tree_grid []

-- Orders: the offers, the bids, and no transfers. An order has a zone, a price in cents per MWh, and a largest quantity in kWh.

abbrev pub entered : (house : ℕ) → Order → Entry
entered house order = record { house = house; standing = true; order = order }

-- house 0 offers energy in both zones, house 1 wants some in zone 1
abbrev pub three_orders : Book
three_orders = (entered 0 (offer 0 3000 100) ∷ entered 0 (offer 1 5000 50) ∷ []) ∷ (entered 1 (bid 1 9000 60) ∷ []) ∷ [] ∷ []

abbrev pub no_orders : Book
no_orders = [] ∷ [] ∷ [] ∷ []

-- both in zone 0, and of one size
abbrev pub two_orders : Book
two_orders = (entered 0 (offer 0 3000 60) ∷ []) ∷ (entered 1 (bid 0 9000 60) ∷ []) ∷ [] ∷ []

-- Sheets

-- the quantities of the first offer, of the second, and of the bid; lambda; the shadow prices of line 0 and of line 1
abbrev pub sheet : (first second wanted lambda to_parent to_child : ℕ) → Sheet
sheet first second wanted lambda to_parent to_child = record {
  dispatch = λ list number. slice_index (slice_index_or ((first ∷ second ∷ []) ∷ (wanted ∷ []) ∷ []) list []) number;
  prices = record { lambda = pos lambda; shadow = λ line. slice_index (to_parent ∷ to_child ∷ []) line };
}

-- the quantities of the one offer and of the bid; lambda
abbrev pub plain_sheet : (offered wanted lambda : ℕ) → Sheet
plain_sheet offered wanted lambda = sheet offered 0 wanted lambda 0 0

-- Cases

abbrev pub linked : Sheet → Answer → Case
linked s verdict = record { grid = two_zones; book = three_orders; sheet = s; verdict = verdict }

abbrev pub empty : Sheet → Answer → Case
empty s verdict = record { grid = two_zones; book = no_orders; sheet = s; verdict = verdict }

abbrev pub single : Sheet → Answer → Case
single s verdict = record { grid = one_zone; book = two_orders; sheet = s; verdict = verdict }

-- The 30 kWh that the line carries come from the cheap offer, the other 30 from the dear one, whose price is zone 1's.
abbrev pub right_sheet : Sheet
right_sheet = sheet 30 30 60 3000000 0 2000

-- The numbers are those of the rules.
abbrev pub table : List Case
table =
    linked right_sheet (accepted 300000 60000000)
    -- 15: without a price on the full line both zones have one price, which is too low for the dear offer ..
    ∷ linked (sheet 30 30 60 3000000 0 0) (refused (Contentment 0 1))
    -- .. or so high that the cheap one wants to sell more
    ∷ linked (sheet 30 30 60 5000000 0 0) (refused (Contentment 0 0))
    -- 12: more than the line carries
    ∷ linked (sheet 31 29 60 3000000 0 2000) (refused (Flow 1))
    -- 11: more fed in than taken
    ∷ linked (sheet 31 30 60 3000000 0 2000) (refused Balance)
    -- 14: a price on the direction in which nothing flows
    ∷ linked (sheet 30 30 60 3000000 1 2000) (refused (Binding 0))
    -- 10: more than was bid for
    ∷ linked (sheet 30 30 61 3000000 0 2000) (refused (Quantity 1 0))
    -- 15: at a price of 0 nobody wants to sell, but the bid wants all it can get
    ∷ linked (sheet 0 0 0 0 0 0) (refused (Contentment 1 0))
    ∷ empty (sheet 0 0 0 0 0 0) (accepted 0 0)
    -- any price from the offer's up to the bid's is right ..
    ∷ single (plain_sheet 60 60 3000000) (accepted 360000 0)
    ∷ single (plain_sheet 60 60 9000000) (accepted 360000 0)
    -- .. and, 15, none below
    ∷ single (plain_sheet 60 60 2999999) (refused (Contentment 0 0))
    ∷ []

pub record WorkedCases : Type 0 where
  pub verdicts : AllStand table
  pub seller_is_paid : amount_of two_zones three_orders right_sheet.dispatch right_sheet.prices 0 ≡ neg_ℤ (pos 240000000)
  pub buyer_pays : amount_of two_zones three_orders right_sheet.dispatch right_sheet.prices 1 ≡ pos 300000000
