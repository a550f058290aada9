-- What is read of a network of which some capacity is held back.
use Rattle.std.specs.Prelude.{◌≡◌, ℕ, zero, suc, ◌-◌, ◌<◌, ◌≤◌, cond, List, [], ◌∷◌, length, replicate, ℤ, pos, nat_lt, slice_index, slice_index_or, slice_set, unsigned_abs, refl}
use Rattle.std.proofs.Common.{sym, ap, subst, ◌∙◌, ⊎_elim, arith}
use Rattle.std.proofs.lemmas.List.{get_or_past, get_or-replicate, get_or-set_same, get_or-set_other, length-replicate}
use Rattle.std.proofs.lemmas.Bool.{cases_lt}
use Rattle.auction.specs.Bounds.{most_lines, most_kwh, most_sensitivity}
use Rattle.auction.specs.Grids.{Line, Grid, no_line, line_count, limit_at, sensitivity_at}
use Rattle.layers.specs.Lowered.{lowered_lines, lowered_grid, Holds, HoldsNothing}

pub lowered_count : (lines : List Line) (amounts : List ℕ) → length (lowered_lines lines amounts) ≡ length lines
unfolding lowered_lines
lowered_count [] amounts = refl
lowered_count (line ∷ lines) [] = refl
lowered_count (line ∷ lines) (amount ∷ amounts) = ap suc (lowered_count lines amounts)

lowered_limit : (lines : List Line) (amounts : List ℕ) (l : ℕ) → (slice_index_or (lowered_lines lines amounts) l no_line).limit ≡ (slice_index_or lines l no_line).limit - slice_index amounts l
unfolding lowered_lines
lowered_limit [] amounts l = omega arith
lowered_limit (line ∷ lines) [] l = omega arith
lowered_limit (line ∷ lines) (amount ∷ amounts) zero = refl
lowered_limit (line ∷ lines) (amount ∷ amounts) (suc l) = lowered_limit lines amounts l

lowered_sensitivity : (lines : List Line) (amounts : List ℕ) (l z : ℕ) → (slice_index_or (lowered_lines lines amounts) l no_line).sensitivity z ≡ (slice_index_or lines l no_line).sensitivity z
unfolding lowered_lines
lowered_sensitivity [] amounts l z = refl
lowered_sensitivity (line ∷ lines) [] l z = refl
lowered_sensitivity (line ∷ lines) (amount ∷ amounts) zero z = refl
lowered_sensitivity (line ∷ lines) (amount ∷ amounts) (suc l) z = lowered_sensitivity lines amounts l z

-- the same at the reads of a grid
pub held_limit : (below : Grid) (amounts : List ℕ) (l : ℕ) → limit_at (lowered_grid below amounts) l ≡ limit_at below l - slice_index amounts l
held_limit below amounts l = lowered_limit below.lines amounts l

pub held_sensitivity : (below : Grid) (amounts : List ℕ) (l z : ℕ) → sensitivity_at (lowered_grid below amounts) l z ≡ sensitivity_at below l z
held_sensitivity below amounts l z = ap (λ (s : ℤ). cond (nat_lt z below.zones) s (pos 0)) (lowered_sensitivity below.lines amounts l z)

-- at an amount that is written
pub holds : (below : Grid) (amounts : List ℕ) (line kwh : ℕ) → line < length amounts → Holds below (lowered_grid below amounts) (lowered_grid below (slice_set amounts line kwh)) line kwh
holds below amounts line kwh within =
    record {
      zones = refl;
      lines = lowered_count below.lines (slice_set amounts line kwh) ∙ sym (lowered_count below.lines amounts);
      lowers = held_limit below (slice_set amounts line kwh) line ∙ ap (λ held. limit_at below line - held) (get_or-set_same amounts line kwh 0 within);
      others =
          λ l other.
          held_limit below (slice_set amounts line kwh) l
          ∙ ap (λ held. limit_at below l - held) (get_or-set_other amounts line l kwh 0 other)
          ∙ sym (held_limit below amounts l);
      sensitivities = λ l z. held_sensitivity below (slice_set amounts line kwh) l z ∙ sym (held_sensitivity below amounts l z);
    }

zero_at : (n l : ℕ) → ◌≡◌ {A = ℕ} (slice_index (replicate n 0) l) 0
zero_at n l =
    ⊎_elim (λ within. get_or-replicate n l 0 0 within) (λ past. get_or_past (replicate n 0) l 0 (omega (arith, length-replicate {A = ℕ} n 0))) (cases_lt l n)

pub holds_nothing : (below : Grid) (n : ℕ) → HoldsNothing below (lowered_grid below (replicate n 0))
holds_nothing below n =
    record {
      zones = refl;
      lines = lowered_count below.lines (replicate n 0);
      limits = λ l. omega (arith, held_limit below (replicate n 0) l, zero_at n l);
      sensitivities = λ l z. held_sensitivity below (replicate n 0) l z;
    }

-- the numbers of a network of which some capacity is held back are within their bounds, as those below are
pub held_few_lines : (below : Grid) (amounts : List ℕ) → line_count below ≤ most_lines → line_count (lowered_grid below amounts) ≤ most_lines
held_few_lines below amounts few = omega (arith, lowered_count below.lines amounts)

pub held_limited : (below : Grid) (amounts : List ℕ) → ((l : ℕ) → limit_at below l ≤ most_kwh) → (l : ℕ) → limit_at (lowered_grid below amounts) l ≤ most_kwh
held_limited below amounts limited l = omega (arith, held_limit below amounts l, limited l)

pub held_sensitive : (below : Grid) (amounts : List ℕ) → ((l z : ℕ) → unsigned_abs (sensitivity_at below l z) ≤ most_sensitivity) → (l z : ℕ) → unsigned_abs (sensitivity_at (lowered_grid below amounts) l z) ≤ most_sensitivity
held_sensitive below amounts sensitive l z = subst (λ (s : ℤ). unsigned_abs s ≤ most_sensitivity) (sym (held_sensitivity below amounts l z)) (sensitive l z)
