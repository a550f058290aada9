-- An array of net injections is filled zone by zone.
use Rattle.std.proofs.Common.{◌≡◌, ℕ, ◌+◌, ◌<◌, ◌≤◌, List, length, set, replicate, ℤ, pos, nat_abs, sym, ap, ◌∙◌, subst, arith}
use Rattle.auction.specs.Hours.{Book, Dispatch, net_injection}
use Rattle.flows.proofs.Arrays.{zeros, at_set}
use Rattle.judgement.specs.Verdicts.{Nets}

pub nets_start : (b : Book) (d : Dispatch) (n : ℕ) → Nets 0 b d (replicate n (pos 0))
nets_start b d n = record {
  inside = λ z h. absurd (none z h);
  outside = λ z h. zeros n z;
  small = λ z. subst (λ (x : ℤ). nat_abs x ≤ 60000000) (sym (zeros n z)) (omega arith);
}
  where
    none : (z : ℕ) → z < 0 → ⊥
    none z h = omega arith

pub nets_next : (b : Book) (d : Dispatch) (nets : List ℤ) (zone : ℕ) (v : ℤ) → Nets zone b d nets → zone < length nets → v ≡ net_injection b d zone → nat_abs v ≤ 60000000 → Nets (zone + 1) b d (set nets zone v)
nets_next b d nets zone v so_far h is modest = record {
  inside = λ z l. at_set (λ x. x ≡ net_injection b d z) nets zone z v h (λ e. is ∙ ap (net_injection b d) (sym e)) (λ ne. so_far.inside z (less z zone l ne));
  outside = λ z l. at_set (λ x. x ≡ pos 0) nets zone z v h (λ e. absurd (beyond z zone l e)) (λ ne. so_far.outside z (omega arith));
  small = λ z. at_set (λ x. nat_abs x ≤ 60000000) nets zone z v h (λ e. modest) (λ ne. so_far.small z);
}
  where
    less : (z i : ℕ) → z < i + 1 → (z ≡ i → ⊥) → z < i
    less z i l ne = omega arith

    beyond : (z i : ℕ) → i + 1 ≤ z → z ≡ i → ⊥
    beyond z i l e = omega arith

pub nets_all : (b : Book) (d : Dispatch) (nets : List ℤ) (zone zones : ℕ) → Nets zone b d nets → zone ≡ zones → Nets zones b d nets
nets_all b d nets zone zones so_far all = subst (λ (z : ℕ). Nets z b d nets) all so_far
