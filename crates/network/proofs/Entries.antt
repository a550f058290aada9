-- What holds of the entries of a list, and of 0 past them, holds at every index.
use Rattle.std.proofs.Common.{◌≡◌, ℕ, ◌<◌, List, length, get_or, ℤ, pos, sym, subst, ⊎_elim, arith}
use Rattle.std.proofs.lemmas.List.{get_or_past}
use Rattle.std.proofs.lemmas.Bool.{cases_lt}

pub every_entry : (P : ℕ → ℤ → Type 0) (s : List ℤ) (n : ℕ) → length s ≡ n → ((z : ℕ) → P z (pos 0)) → ((z : ℕ) → z < n → P z (get_or s z (pos 0))) → (z : ℕ) → P z (get_or s z (pos 0))
every_entry P s n full zeros entries z =
    ⊎_elim (entries z) (λ past. subst (P z) (sym (get_or_past s z (pos 0) (omega arith))) (zeros z)) (cases_lt z n)
