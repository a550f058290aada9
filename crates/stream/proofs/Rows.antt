-- The sensitivities of a row, one after another.
use Rattle.std.proofs.Common.{◌≡◌, ℕ, ◌+◌, ◌<◌, List, [], ◌∷◌, ◌++◌, length, get_or, take, set, ℤ, pos, sym, refl, ap, ◌∙◌, append_assoc}
use Rattle.std.proofs.lemmas.List.{append-nil, take_more, take_more_set}
use Rattle.stream.specs.Spelling.{signed16, sensitivities}

pub sensitivities_++ : (xs ys : List ℤ) → sensitivities (xs ++ ys) ≡ sensitivities xs ++ sensitivities ys
sensitivities_++ [] ys = refl
sensitivities_++ (x ∷ xs) ys = ap (λ l. signed16 x ++ l) (sensitivities_++ xs ys) ∙ sym (append_assoc (signed16 x) (sensitivities xs) (sensitivities ys))

-- one more sensitivity is two more bytes
one_more : (zs : List ℤ) (z : ℤ) → sensitivities (zs ++ z ∷ []) ≡ sensitivities zs ++ signed16 z
one_more zs z = sensitivities_++ zs (z ∷ []) ∙ ap (λ l. sensitivities zs ++ l) (append-nil (signed16 z))

-- the same of what is read
pub row_read : (row : List ℤ) (i : ℕ) (z : ℤ) (start rest next : List ℕ) → i < length row → start ≡ sensitivities (take i row) ++ rest → rest ≡ signed16 z ++ next → start ≡ sensitivities (take (i + 1) (set row i z)) ++ next
row_read row i z start rest next h so_far this =
    let more : sensitivities (take (i + 1) (set row i z)) ≡ sensitivities (take i row) ++ signed16 z = ap sensitivities (take_more_set row i z h) ∙ one_more (take i row) z in
    let join : (sensitivities (take i row) ++ signed16 z) ++ next ≡ sensitivities (take i row) ++ (signed16 z ++ next) = append_assoc (sensitivities (take i row)) (signed16 z) next in
    cc

-- and of what is written
pub written_more : (front : List ℕ) (row : List ℤ) (i : ℕ) (was is two : List ℕ) → i < length row → two ≡ signed16 (get_or row i (pos 0)) → was ≡ front ++ sensitivities (take i row) → is ≡ was ++ two → is ≡ front ++ sensitivities (take (i + 1) row)
written_more front row i was is two h this so_far written =
    let z : ℤ = get_or row i (pos 0) in
    let more : sensitivities (take (i + 1) row) ≡ sensitivities (take i row) ++ signed16 z = ap sensitivities (take_more row i (pos 0) h) ∙ one_more (take i row) z in
    let join : (front ++ sensitivities (take i row)) ++ signed16 z ≡ front ++ (sensitivities (take i row) ++ signed16 z) = append_assoc front (sensitivities (take i row)) (signed16 z) in
    cc
