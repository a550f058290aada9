-- What a sheet proposes: a dispatch and prices.
use Rattle.std.specs.Prelude.{ℕ, zero, suc, cond, ◌&&◌, List, [], ◌==◌, slice_index, slice_index_or}
use Rattle.auction.specs.Hours.{Dispatch, Prices}
use Rattle.sheets.specs.declared.sheet.Sheet.{Sheet}

-- of the quantities of three lists those of one
abbrev pub picked : List ℕ → List ℕ → List ℕ → ℕ → List ℕ
picked first second third zero = first
picked first second third (suc zero) = second
picked first second third (suc (suc zero)) = third
picked first second third (suc (suc (suc _))) = []

-- the quantity of each order by list and number, 0 where nothing was filled in
abbrev pub dispatch_of : Sheet → Dispatch
dispatch_of s l n = slice_index (slice_index_or s.quantities l []) n

abbrev pub prices_of : Sheet → Prices
prices_of s = record { lambda = s.lambda; shadow = λ l. slice_index s.shadow l }

-- a dispatch with one quantity set anew
abbrev pub with_quantity : Dispatch → ℕ → ℕ → ℕ → Dispatch
with_quantity d list number kWh l n = cond (l == list && n == number) kWh (d l n)

-- shadow prices with one set anew
abbrev pub with_shadow : (ℕ → ℕ) → ℕ → ℕ → ℕ → ℕ
with_shadow shadow line price l = cond (l == line) price (shadow l)
