-- Rows that are entered, withdrawn and read.
use Rattle.std.proofs.Common.{◌≡◌, ℕ, zero, suc, ◌+◌, ◌<◌, true, false, cond, List, [], ◌∷◌, ◌++◌, length, get_or, take, All, slice_get, slice_set, Ok, Err, Result, Some, None, sym, refl, ap, subst, arith}
use Rattle.auction.specs.declared.Fault.{Fault}
use Rattle.auction.specs.declared.Fault.TheVariants.{Missing, OutOfRange, NoPlace}
use Rattle.auction.specs.Refusals.{Answered, Always}
use Rattle.rows.specs.declared.row.Row.{Row}
use Rattle.rows.specs.Kwh.{Ranged, no_row, row_kwh, rows_kwh}
use Rattle.rows.specs.Rows.{standing_so, withdrawn, rows_without}

pub kwh_push : (rs : List Row) (r : Row) → rows_kwh (rs ++ r ∷ []) ≡ rows_kwh rs + row_kwh r
kwh_push [] r = omega arith
kwh_push (x ∷ rs) r = let e = kwh_push rs r in omega arith

counted : (r : Row) → r.standing ≡ true → row_kwh r ≡ r.quantity
counted r h = ap (λ b. cond b r.quantity 0) h

-- the kWh that stand, where any row that stands is put behind the others
pub kwh_longer : (rs after : List Row) (x : Row) → after ≡ rs ++ x ∷ [] → x.standing ≡ true → rows_kwh after ≡ rows_kwh rs + x.quantity
kwh_longer rs after x e stands = let same = ap rows_kwh e in let more = kwh_push rs x in let here = counted x stands in omega arith

-- a row that is read is there, and in range
pub row_there : (rs : List Row) (n : ℕ) (r : Row) → Some r ≡ slice_get rs n → n < length rs
row_there [] n r h = absurd (let z : ◌≡◌ {A = ℕ} 0 1 = cc in omega arith)
row_there (x ∷ rs) zero r h = omega arith
row_there (x ∷ rs) (suc n) r h = let e = row_there rs n r h in omega arith

pub row_ranged : (rs : List Row) → All Ranged rs → (n : ℕ) (r : Row) → Some r ≡ slice_get rs n → Ranged r
row_ranged [] ranged n r h = absurd (let z : ◌≡◌ {A = ℕ} 0 1 = cc in omega arith)
row_ranged (x ∷ rs) ranged zero r h = let e : x ≡ r = cc in subst Ranged e (ranged 0 no_row (omega arith))
row_ranged (x ∷ rs) ranged (suc n) r h = row_ranged rs (λ k d l. ranged (suc k) d (omega arith)) n r h

-- ---- a withdrawal
pub without_none : (rs : List Row) (n : ℕ) → None ≡ slice_get rs n → rows_without rs n ≡ rs
without_none [] n h = refl
without_none (x ∷ rs) zero h = absurd (let z : ◌≡◌ {A = ℕ} 0 1 = cc in omega arith)
without_none (x ∷ rs) (suc n) h = ap (λ s. x ∷ s) (without_none rs n h)

pub without_set : (rs : List Row) (n : ℕ) (r : Row) → Some r ≡ slice_get rs n → slice_set rs n (withdrawn r) ≡ rows_without rs n
without_set [] n r h = refl
without_set (x ∷ rs) zero r h = let e : r ≡ x = cc in ap (λ s. withdrawn s ∷ rs) e
without_set (x ∷ rs) (suc n) r h = ap (λ s. x ∷ s) (without_set rs n r h)

-- what is withdrawn no longer counts
pub kwh_without : (c : ℕ) (rs : List Row) (n : ℕ) (d : Row) → n < c → n < length rs → rows_kwh (rows_without (take c rs) n) + row_kwh (get_or rs n d) ≡ rows_kwh (take c rs)
kwh_without zero rs n d h k = absurd (omega arith)
kwh_without (suc c) [] n d h k = absurd (omega arith)
kwh_without (suc c) (r ∷ rs) zero d h k = omega arith
kwh_without (suc c) (r ∷ rs) (suc n) d h k = let e : rows_kwh (rows_without (take c rs) n) + row_kwh (get_or rs n d) ≡ rows_kwh (take c rs) = kwh_without c rs n d (omega arith) (omega arith) in omega arith

-- a row that does not stand stays as it is
still : (r : Row) → r.standing ≡ false → withdrawn r ≡ r
still r h = sym (ap (λ b. standing_so b r) h)

pub without_fallen : (rs : List Row) (n : ℕ) (r : Row) → Some r ≡ slice_get rs n → r.standing ≡ false → rows_without rs n ≡ rs
without_fallen [] n r h f = refl
without_fallen (x ∷ rs) zero r h f = let e : r ≡ x = cc in ap (λ s. s ∷ rs) (still x (subst (λ (s : Row). s.standing ≡ false) e f))
without_fallen (x ∷ rs) (suc n) r h f = ap (λ s. x ∷ s) (without_fallen rs n r h f)

-- the kWh that stand, where any row that does not stand takes the place of one that stood
pub kwh_fallen : (rs : List Row) (n : ℕ) (r x : Row) → Some r ≡ slice_get rs n → r.standing ≡ true → x.standing ≡ false → rows_kwh (slice_set rs n x) + r.quantity ≡ rows_kwh rs
kwh_fallen [] n r x h stood fallen = absurd (let z : ◌≡◌ {A = ℕ} 0 1 = cc in omega arith)
kwh_fallen (y ∷ rs) zero r x h stood fallen =
    let e : r ≡ y = cc in
    let same = ap row_kwh e in
    let here = counted r stood in
    let none : row_kwh x ≡ 0 = ap (λ b. cond b x.quantity 0) fallen in
    omega arith
kwh_fallen (y ∷ rs) (suc n) r x h stood fallen = let e = kwh_fallen rs n r x h stood fallen in omega arith

pub kwh_after : (rs after : List Row) (n : ℕ) (r x : Row) → after ≡ slice_set rs n x → Some r ≡ slice_get rs n → r.standing ≡ true → x.standing ≡ false → rows_kwh after + r.quantity ≡ rows_kwh rs
kwh_after rs after n r x e h stood fallen = let same = ap rows_kwh e in let left = kwh_fallen rs n r x h stood fallen in omega arith

-- what is put in a place that is there is put there
pub set_done : (before after : List Row) (n : ℕ) (x : Row) (Kept : Type 0) (r : Result (Unit {0}) Fault) → n < length before → Answered r (n < length before) Always Always (λ _. after ≡ slice_set before n x) Kept → after ≡ slice_set before n x
set_done before after n x Kept (Ok u) there a = a.3
set_done before after n x Kept (Err Missing) there a = absurd (a.0 there)
set_done before after n x Kept (Err OutOfRange) there a = absurd (a.0.1 tt)
set_done before after n x Kept (Err NoPlace) there a = absurd (a.0.2 tt)
