-- Where a text stops, from what a search of its rest finds.
use Rattle.std.proofs.Common.{◌≡◌, ℕ, ◌+◌, ◌-◌, ◌<◌, ◌≤◌, Bool, true, false, List, length, get_or, drop, sym, ap, ◌∙◌, arith}
use Rattle.std.proofs.lemmas.List.{get_or-drop, length-drop}
use Rattle.std.specs.List.{AllWithin, HoldsAt}
use Rattle.notation.specs.Scanning.{FirstStop}

read : (text rest : List ℕ) (at k : ℕ) → rest ≡ drop at text → at ≤ k → get_or rest (k - at) 0 ≡ get_or text k 0
read text rest at k cut low =
    let there : at + (k - at) ≡ k = omega arith in
    ap (λ l. get_or l (k - at) 0) cut ∙ get_or-drop at text (k - at) 0 ∙ ap (λ i. get_or text i 0) there

pub found : (text rest : List ℕ) (at onward : ℕ) (stops_at : ℕ → Bool) → rest ≡ drop at text → onward < length rest → HoldsAt (λ b. stops_at b ≡ true) rest onward → AllWithin (λ b. stops_at b ≡ false) rest 0 onward → FirstStop text at stops_at (at + onward)
found text rest at onward stops_at cut inside here before =
    let long : length rest ≡ length text - at = ap length cut ∙ length-drop at text in
    let back : at + onward - at ≡ onward = omega arith in
    record {
      onward = omega arith;
      within = λ _. omega arith;
      before = λ k low high. ap stops_at (sym (read text rest at k cut low)) ∙ before (k - at) 0 (omega arith) (omega arith);
      here = λ _. ap stops_at (sym (read text rest at (at + onward) cut (omega arith)) ∙ ap (λ i. get_or rest i 0) back) ∙ here 0;
    }

pub none : (text rest : List ℕ) (at : ℕ) (stops_at : ℕ → Bool) → rest ≡ drop at text → at ≤ length text → AllWithin (λ b. stops_at b ≡ false) rest 0 (length rest) → FirstStop text at stops_at (length text)
none text rest at stops_at cut within before =
    let long : length rest ≡ length text - at = ap length cut ∙ length-drop at text in
    record {
      onward = within;
      within = λ _. omega arith;
      before = λ k low high. ap stops_at (sym (read text rest at k cut low)) ∙ before (k - at) 0 (omega arith) (omega arith);
      here = λ past. absurd (omega arith);
    }
