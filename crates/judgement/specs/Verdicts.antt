-- What the judgement works out on the way, and what it answers.
use Rattle.std.specs.Prelude.{◌≡◌, ℕ, ◌<◌, ◌≤◌, List, ℤ, pos, Ok, Err, Result, slice_index_or, unsigned_abs}
use Rattle.auction.specs.declared.Broken.{Broken}
use Rattle.auction.specs.Rules.{Accepted, FirstBroken}
use Rattle.auction.specs.Grids.{Grid}
use Rattle.auction.specs.Hours.{Book, Dispatch, Prices, net_injection, zone_price, over_orders, welfare_of, exact_rent, rent_of, amount_of}
use Rattle.auction.specs.Orders.{ZonePrices}
use Rattle.judgement.specs.Parts.{own_charge}
use Rattle.judgement.specs.declared.verdict.Verdict.{Verdict}
pub use Rattle.flows.specs.Flows.{Priced, array_flow, discount}
pub use Rattle.places.specs.Places.{FirstOrder, OfOrder}

-- an array of net injections that are not too large
abbrev pub SmallNets : List ℤ → Type 0
SmallNets nets = (z : ℕ) → unsigned_abs (slice_index_or nets z (pos 0)) ≤ 60000000

-- the net injections of a network's zones in an array with a place for each zone that a network may have
pub record Nets (zones : ℕ) (b : Book) (d : Dispatch) (nets : List ℤ) : Type 0 where
  pub inside : (z : ℕ) → z < zones → slice_index_or nets z (pos 0) ≡ net_injection b d z
  pub outside : (z : ℕ) → zones ≤ z → slice_index_or nets z (pos 0) ≡ pos 0
  pub small : SmallNets nets

-- the rules alone: a sheet that breaks none, with the prices of the zones, or the first that it breaks
abbrev pub Ruled : Grid → Book → Dispatch → Prices → Result (List ℤ) Broken → Type 0
Ruled g b d p (Ok prices) = Accepted g b d p × ((z : ℕ) → slice_index_or prices z (pos 0) ≡ zone_price g p z)
Ruled g b d p (Err broken) = FirstBroken g b d p broken

-- what a sheet amounts to where the prices of the zones are given in an array
pub record Accounts (g : Grid) (b : Book) (d : Dispatch) (p : Prices) (prices : ZonePrices) (v : Verdict) : Type 0 where
  pub welfare : v.welfare ≡ welfare_of b d
  pub rent : v.rent ≡ exact_rent g p
  pub zero : v.amounts.zero ≡ over_orders b d (own_charge prices 0)
  pub one : v.amounts.one ≡ over_orders b d (own_charge prices 1)

-- The verdict on a sheet: accepted with its welfare, its rent and what the two houses pay, or the first rule that it breaks, at its first place.
abbrev pub Judged : Grid → Book → Dispatch → Prices → Result Verdict Broken → Type 0
Judged g b d p (Ok v) = Accepted g b d p × (v.welfare ≡ welfare_of b d) × (v.rent ≡ rent_of g b d p) × (v.amounts.zero ≡ amount_of g b d p 0) × (v.amounts.one ≡ amount_of g b d p 1)
Judged g b d p (Err broken) = FirstBroken g b d p broken
