-- What is read of a sheet at any place.
use Rattle.std.proofs.Common.{◌≡◌, ℕ, zero, suc, ◌<◌, ◌≤◌, List, [], ◌∷◌, length, get_or, set, replicate, sym, refl, ap, ⊎_elim, arith}
use Rattle.std.proofs.lemmas.List.{get_or_past}
use Rattle.std.proofs.lemmas.Bool.{cases_lt}
use Rattle.sheets.specs.declared.sheet.Sheet.{Sheet}
use Rattle.sheets.specs.Proposals.{dispatch_of, picked}

pub zeros : (n i : ℕ) → ◌≡◌ {A = ℕ} (get_or (replicate n 0) i 0) 0
zeros zero i = refl
zeros (suc n) zero = refl
zeros (suc n) (suc i) = zeros n i

pub zeros_small : (n i : ℕ) → get_or (replicate n 0) i 0 ≤ 1000000
zeros_small n i = let e = zeros n i in omega arith

-- no list has a quantity for an order beyond the last place
pub past_last : (s : Sheet) (l n : ℕ) → 512 ≤ n → 0 ≡ dispatch_of s l n
past_last s l n h =
    sym (⊎_elim
    (λ there. get_or_past (get_or s.quantities l []) n 0 (let e = s.wide l there in omega arith))
    (λ past. ap (λ (row : List ℕ). get_or row n 0) (get_or_past s.quantities l [] (let e = s.three in omega arith)))
    (cases_lt l 3))

-- three lists of nothing but zeros
abbrev pub three_rows : List (List ℕ)
three_rows = replicate 512 0 ∷ replicate 512 0 ∷ replicate 512 0 ∷ []

pub as_wide : (l : ℕ) → l < 3 → length (get_or three_rows l []) ≡ 512
as_wide zero h = refl
as_wide (suc zero) h = refl
as_wide (suc (suc zero)) h = refl
as_wide (suc (suc (suc l))) h = absurd (omega arith)

pub nothing_filled : (l n : ℕ) → get_or (get_or three_rows l []) n 0 ≡ 0
nothing_filled zero n = zeros 512 n
nothing_filled (suc zero) n = zeros 512 n
nothing_filled (suc (suc zero)) n = zeros 512 n
nothing_filled (suc (suc (suc l))) n = refl

-- the same of three lists beside one another
pub nothing_picked : (l n : ℕ) → get_or (picked (replicate 512 0) (replicate 512 0) (replicate 512 0) l) n 0 ≡ 0
nothing_picked zero n = zeros 512 n
nothing_picked (suc zero) n = zeros 512 n
nothing_picked (suc (suc zero)) n = zeros 512 n
nothing_picked (suc (suc (suc l))) n = refl

-- one small number more in a list of small numbers
pub set_small : (xs : List ℕ) (i v m : ℕ) → ((l : ℕ) → get_or xs l 0 ≤ m) → v ≤ m → (l : ℕ) → get_or (set xs i v) l 0 ≤ m
set_small [] i v m all small l = all l
set_small (x ∷ xs) zero v m all small zero = small
set_small (x ∷ xs) zero v m all small (suc l) = all (suc l)
set_small (x ∷ xs) (suc i) v m all small zero = all zero
set_small (x ∷ xs) (suc i) v m all small (suc l) = set_small xs i v m (λ k. all (suc k)) small l
