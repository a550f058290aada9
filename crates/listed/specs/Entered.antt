-- The entries that rows mean, read and changed as the rows are.
use Rattle.std.specs.Prelude.{◌≡◌, ℕ, zero, suc, ◌+◌, ◌<◌, ◌≤◌, true, cond, List, [], ◌∷◌, ◌++◌, map, length, Some, None, Ok, Err, Option, Result, MatchOption, slice_index_or, refl}
use Rattle.std.proofs.Common.{sym, ap, subst, ◌∙◌, arith}
use Rattle.std.specs.List.{All}
use Rattle.std.proofs.lemmas.List.Elements.{All-head, All-tail}
use Rattle.auction.specs.Bounds.{most_orders, most_kwh}
use Rattle.auction.specs.Sums.{Σℕ}
use Rattle.std.proofs.lemmas.List.{length-map, length-take, map_push, get_or_past}
use Rattle.auction.specs.declared.House.{House}
use Rattle.auction.specs.declared.House.TheVariants.{Zero, One}
use Rattle.auction.specs.declared.Fault.{Fault}
use Rattle.auction.specs.declared.Fault.TheVariants.{Missing, OutOfRange, NoPlace}
use Rattle.auction.specs.Houses.{house_number}
use Rattle.auction.specs.Refusals.{Answered, Always}
use Rattle.auction.specs.Orders.{Order, Sound}
use Rattle.auction.specs.Hours.{Entry, no_entry}
use Rattle.orders.specs.Reads.{entry, standing_largest, standing_kwh, without, PlaceLeft}
use Rattle.rows.specs.declared.row.Row.{Row}
use Rattle.rows.specs.declared.table.Rows.{Rows}
use Rattle.rows.specs.Bounds.{InRange}
use Rattle.rows.specs.Kwh.{no_row, row_kwh, rows_kwh}
use Rattle.rows.specs.Rows.{Ranged, used, row_at, rows_without, entered, Room}
use Rattle.rows.proofs.Held.{row_ranged}
use Rattle.listed.specs.Entries.{ByNumbers, order_by, entry_by, NoneEntered, RowEntered}

-- the largest quantity is the quantity of the row
abbrev Sized : ByNumbers → Type 0
Sized m = (first second price quantity : ℕ) → (m first second price quantity).largest ≡ quantity

pub entry_some : (m : ByNumbers) (rs : List Row) (n : ℕ) (r : Row) → Some r ≡ row_at rs n → entry (map (entry_by m) rs) n ≡ entry_by m r
entry_some m [] n r h = absurd (let z : ◌≡◌ {A = ℕ} 0 1 = cc in omega arith)
entry_some m (x ∷ rs) zero r h = let e : x ≡ r = cc in ap (entry_by m) e
entry_some m (x ∷ rs) (suc n) r h = entry_some m rs n r h

pub inside : (m : ByNumbers) (rs : List Row) (n : ℕ) (r : Row) → Some r ≡ row_at rs n → n < length (map (entry_by m) rs)
inside m [] n r h = absurd (let z : ◌≡◌ {A = ℕ} 0 1 = cc in omega arith)
inside m (x ∷ rs) zero r h = omega arith
inside m (x ∷ rs) (suc n) r h = let e : n < length (map (entry_by m) rs) = inside m rs n r h in omega arith

pub outside : (m : ByNumbers) (rs : List Row) (n : ℕ) → None ≡ row_at rs n → length (map (entry_by m) rs) ≤ n
outside m [] n h = omega arith
outside m (x ∷ rs) zero h = absurd (let z : ◌≡◌ {A = ℕ} 0 1 = cc in omega arith)
outside m (x ∷ rs) (suc n) h = let e : length (map (entry_by m) rs) ≤ n = outside m rs n h in omega arith

pub entry_past : (es : List Entry) (n : ℕ) → length es ≤ n → entry es n ≡ no_entry
entry_past es n h = get_or_past es n no_entry h

pub entry_none : (m : ByNumbers) (rs : List Row) (n : ℕ) → None ≡ row_at rs n → entry (map (entry_by m) rs) n ≡ no_entry
entry_none m rs n h = entry_past (map (entry_by m) rs) n (outside m rs n h)

-- a row that is there is in range
pub in_range_there : (rs : List Row) → ((k : ℕ) → k < length rs → Ranged (slice_index_or rs k no_row)) → (n : ℕ) (r : Row) → Some r ≡ row_at rs n → Ranged r
in_range_there [] ranged n r h = absurd (let z : ◌≡◌ {A = ℕ} 0 1 = cc in omega arith)
in_range_there (x ∷ rs) ranged zero r h = let e : x ≡ r = cc in subst Ranged e (ranged 0 (omega arith))
in_range_there (x ∷ rs) ranged (suc n) r h = in_range_there rs (λ k l. ranged (suc k) (omega arith)) n r h

-- a sum begins with its first term
Σℕ_first : (n : ℕ) (f : ℕ → ℕ) → Σℕ (suc n) f ≡ f 0 + Σℕ n (λ i. f (suc i))
unfolding Σℕ
Σℕ_first zero f = omega arith
Σℕ_first (suc n) f = let e = Σℕ_first n f in omega arith

pub kwh_entries : (m : ByNumbers) → Sized m → (rs : List Row) → standing_kwh (map (entry_by m) rs) ≡ rows_kwh rs
unfolding standing_kwh Σℕ
kwh_entries m s [] = refl
kwh_entries m s (r ∷ rs) =
    Σℕ_first (length (map (entry_by m) rs)) (λ n. standing_largest (entry (map (entry_by m) (r ∷ rs)) n))
    ∙ ap (λ x. cond r.standing x 0 + standing_kwh (map (entry_by m) rs)) (s r.first r.second r.price r.quantity)
    ∙ ap (λ x. row_kwh r + x) (kwh_entries m s rs)

-- rows are few, and so are the kWh that stand in them
pub few_entries : (m : ByNumbers) (t : Rows) → length (map (entry_by m) (used t)) ≤ most_orders
few_entries m t = simp (length-map, length-take) (omega (arith, t.rows.few))

pub modest_entries : (m : ByNumbers) → Sized m → (t : Rows) → standing_kwh (map (entry_by m) (used t)) ≤ most_kwh
modest_entries m s t = let e = kwh_entries m s (used t) in omega (arith, t.summed, t.modest)

pub without_entries : (m : ByNumbers) (rs : List Row) (n : ℕ) → without (map (entry_by m) rs) n ≡ map (entry_by m) (rows_without rs n)
without_entries m [] n = refl
without_entries m (r ∷ rs) zero = refl
without_entries m (r ∷ rs) (suc n) = ap (λ x. entry_by m r ∷ x) (without_entries m rs n)

house_below : (h : House) → house_number h < 2
house_below Zero = omega arith
house_below One = omega arith

pub housed_entries : (m : ByNumbers) (rs : List Row) (n : ℕ) → (entry (map (entry_by m) rs) n).house < 2
housed_entries m [] n = omega arith
housed_entries m (r ∷ rs) zero = house_below r.house
housed_entries m (r ∷ rs) (suc n) = housed_entries m rs n

pub sound_entries : (m : ByNumbers) → ((first second price quantity : ℕ) → InRange price quantity → Sound (m first second price quantity)) → (rs : List Row) → All Ranged rs → (n : ℕ) → n < length (map (entry_by m) rs) → Sound (entry (map (entry_by m) rs) n).order
sound_entries m s [] ranged n h = absurd (omega arith)
sound_entries m s (r ∷ rs) ranged zero h = s r.first r.second r.price r.quantity (All-head Ranged r rs ranged)
sound_entries m s (r ∷ rs) ranged (suc n) h = sound_entries m s rs (All-tail Ranged r rs ranged) n (omega arith)

-- room among the rows is a place left among the entries, and the other way round
place_from_room : (m : ByNumbers) → Sized m → (rs : List Row) (elsewhere kWh : ℕ) → Room rs elsewhere kWh → PlaceLeft (map (entry_by m) rs) elsewhere kWh
place_from_room m s rs elsewhere kWh room =
    let e = kwh_entries m s rs in
    record { few_enough = simp length-map room.few_enough; modest_enough = omega (arith, room.modest_enough) }

room_from_place : (m : ByNumbers) → Sized m → (rs : List Row) (elsewhere kWh : ℕ) → PlaceLeft (map (entry_by m) rs) elsewhere kWh → Room rs elsewhere kWh
room_from_place m s rs elsewhere kWh place =
    let e = kwh_entries m s rs in
    record { few_enough = simp length-map at place.few_enough; modest_enough = omega (arith, place.modest_enough) }

-- what entering a row in range answers of the rows, it answers of the entries
module _ (m : ByNumbers) (sized : Sized m) (before after : List Row) (house : House) (row : Row) (elsewhere : ℕ) (wished : Order) (own : row.house ≡ house) (ranged : Ranged row) (same : order_by m row ≡ wished) where
  quantity_same : row.quantity ≡ wished.largest
  quantity_same = sym (sized row.first row.second row.price row.quantity) ∙ ap (λ o. o.largest) same

  longer : after ≡ before ++ entered row ∷ [] → map (entry_by m) after ≡ map (entry_by m) before ++ record { house = house_number house; standing = true; order = wished } ∷ []
  longer e =
      ap (map (entry_by m)) e ∙ map_push (entry_by m) before (entered row) ∙ ap (λ o. map (entry_by m) before ++ record { house = house_number row.house; standing = true; order = o } ∷ []) same
      ∙ ap (λ h. map (entry_by m) before ++ record { house = house_number h; standing = true; order = wished } ∷ []) own

  pub answered_entries : (found fitting : Type 0) → found → fitting → (r : Result (Unit {0}) Fault)
      → Answered r Always (Ranged row) (Room before elsewhere row.quantity) (λ _. after ≡ before ++ entered row ∷ []) (after ≡ before)
      → Answered r found fitting (PlaceLeft (map (entry_by m) before) elsewhere wished.largest) (λ _. map (entry_by m) after ≡ map (entry_by m) before ++ record { house = house_number house; standing = true; order = wished } ∷ []) (map (entry_by m) after ≡ map (entry_by m) before)
  answered_entries found fitting f k (Ok u) a = (f, k, subst (λ x. PlaceLeft (map (entry_by m) before) elsewhere x) quantity_same (place_from_room m sized before elsewhere row.quantity a.2), longer a.3)
  answered_entries found fitting f k (Err Missing) a = absurd (a.0 tt)
  answered_entries found fitting f k (Err OutOfRange) a = absurd (a.0.1 ranged)
  answered_entries found fitting f k (Err NoPlace) a = ((f, k, λ place. a.0.2 (room_from_place m sized before elsewhere row.quantity (subst (λ x. PlaceLeft (map (entry_by m) before) elsewhere x) (sym quantity_same) place))), ap (map (entry_by m)) a.1)

-- a row that is read is that of an entry
pub row_entered : (m : ByNumbers) (rs : List Row) → All Ranged rs → (n : ℕ) (r : Option Row) → r ≡ row_at rs n → MatchOption r (NoneEntered (map (entry_by m) rs) n) (RowEntered m (map (entry_by m) rs) n)
row_entered m rs ranged n (Some r) h = record { there = inside m rs n r h; ranged = row_ranged rs ranged n r h; means = entry_some m rs n r h }
row_entered m rs ranged n None h = record { past = outside m rs n h; nothing = entry_none m rs n h }

-- a row in range makes an order
pub order_read : {K : Type 0} (meaning : K → Order) (m : ByNumbers) (es : List Entry) (n : ℕ) (r : Row) → RowEntered m es n r → (o : Option K)
    → MatchOption o (Ranged r → ⊥) (λ k. Ranged r × (meaning k ≡ order_by m r))
    → MatchOption o (NoneEntered es n) (λ k. (n < length es) × (meaning k ≡ (entry es n).order))
order_read meaning m es n r read (Some k) made = (read.there, made.1 ∙ sym (ap (λ (e : Entry). e.order) read.means))
order_read meaning m es n r read None never = absurd (never read.ranged)
