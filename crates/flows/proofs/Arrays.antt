-- Arrays of numbers, one for each zone, that are filled zone by zone.
use Rattle.std.proofs.Common.{◌≡◌, ℕ, zero, suc, ◌<◌, List, length, get_or, set, replicate, ℤ, pos, sym, refl, ap, ◌∙◌, subst, ⊎_elim}
use Rattle.std.proofs.lemmas.List.{get_or-set_same, get_or-set_other}
use Rattle.std.proofs.lemmas.Bool.{cases_eq}

pub zeros : (n i : ℕ) → get_or (replicate n (pos 0)) i (pos 0) ≡ pos 0
zeros zero i = refl
zeros (suc n) zero = refl
zeros (suc n) (suc i) = zeros n i

-- a property of what is read after a write, here and elsewhere
pub at_set : (P : ℤ → Type 0) (xs : List ℤ) (i z : ℕ) (v : ℤ) → i < length xs → (z ≡ i → P v) → ((z ≡ i → ⊥) → P (get_or xs z (pos 0))) → P (get_or (set xs i v) z (pos 0))
at_set P xs i z v h here there =
    ⊎_elim (λ e. subst P (sym (ap (λ k. get_or (set xs i v) k (pos 0)) e ∙ get_or-set_same xs i v (pos 0) h)) (here e))
    (λ ne. subst P (sym (get_or-set_other xs i z v (pos 0) ne)) (there ne)) (cases_eq z i)
