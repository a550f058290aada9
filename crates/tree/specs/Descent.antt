-- The climb to zone 0 finds what the relation says.
use Rattle.std.specs.Prelude.{◌≡◌, ℕ, zero, suc, ◌-◌, ◌≤◌, Bool, true, false, cond, ◌⊎◌, List, take, pos, ◌==◌, ◌≢◌, slice_index_or, unsigned_abs, refl}
use Rattle.std.proofs.Common.{sym, subst, inl, inr, ⊎_elim, arith, eq-eqb}
use Rattle.std.proofs.lemmas.List.{get_or-take, get_or_past, length-take}
use Rattle.std.proofs.lemmas.Bool.{cases_lt, cases_Bool}
use Rattle.std.proofs.lemmas.Bool.Decides.{nat_tests, Decides-eqb}
use Rattle.tree.specs.declared.grown.Link.{Link}
use Rattle.tree.specs.Links.{link_of, no_link, Descends, here, from}
use Rattle.tree.specs.Trees.{passes, share}

-- each parent has a smaller number than its child
abbrev pub Rooted : List Link → Type 0
Rooted links = (i : ℕ) → (slice_index_or links i no_link).parent ≤ i

pub rooted_take : (n : ℕ) (links : List Link) → Rooted links → Rooted (take n links)
rooted_take n links rooted i =
    ⊎_elim
    (λ below. rw (get_or-take n links i no_link below) (rooted i))
    (λ past. rw (get_or_past (take n links) i no_link (omega (arith, length-take n links))) (omega arith))
    (cases_lt i n)

-- a zone descends from no larger one
pub descends_le : (links : List Link) → Rooted links → (c z : ℕ) → Descends links c z → c ≤ z
descends_le links rooted c z here = omega arith
descends_le links rooted c z (from y positive d) =
    let up = descends_le links rooted c (link_of links y).parent d in omega (arith, rooted (y - 1))

-- the way from another zone than c goes by its parent
pub by_parent : (links : List Link) (c z : ℕ) → (z ≢ c) → Descends links c z → Descends links c (link_of links z).parent
by_parent links c z other here = absurd (other refl)
by_parent links c z other (from y positive d) = d

-- one step of the climb: a, whether it stands at c, b, whether it stands at zone 0, and p, what the rest of the climb says
climb_true : (a b p : Bool) → b ≡ false → p ≡ true → cond a true (cond b false p) ≡ true
climb_true true b p _ _ = refl
climb_true false b p e f = rw (e, f) refl

climb_cases : (a b p : Bool) → cond a true (cond b false p) ≡ true → (a ≡ true) ⊎ ((b ≡ false) × (p ≡ true))
climb_cases true b p e = inl refl
climb_cases false true p e = grind arith
climb_cases false false p e = inr (refl, e)

arrived : (links : List Link) (c z : ℕ) → (z == c) ≡ true → Descends links c z
arrived links c z e = subst (Descends links c) (sym ((Decides-eqb z c).0 e)) here

pub passes_from_descends : (links : List Link) → Rooted links → (steps c z : ℕ) → z ≤ steps → Descends links c z → passes steps links c z ≡ true
unfolding passes
passes_from_descends links rooted zero c z enough d = let up = descends_le links rooted c z d in eq-eqb z c (omega arith)
passes_from_descends links rooted (suc steps) c z enough here = rw (eq-eqb c c refl) refl
passes_from_descends links rooted (suc steps) c z enough (from y positive d) =
    climb_true (z == c) (z == 0) (passes steps links c (link_of links z).parent) (grind (arith, nat_tests))
    (passes_from_descends links rooted steps c (link_of links y).parent (omega (arith, rooted (y - 1))) d)

pub descends_from_passes : (links : List Link) (steps c z : ℕ) → passes steps links c z ≡ true → Descends links c z
unfolding passes
descends_from_passes links zero c z e = arrived links c z e
descends_from_passes links (suc steps) c z e =
    ⊎_elim (arrived links c z)
    (λ up. from z (grind (arith, nat_tests, up.0)) (descends_from_passes links steps c (link_of links z).parent up.1))
    (climb_cases (z == c) (z == 0) (passes steps links c (link_of links z).parent) e)

pub share_below : (links : List Link) → Rooted links → (c z : ℕ) → Descends links c z → share links c z ≡ pos 1000
unfolding share
share_below links rooted c z d = rw (passes_from_descends links rooted z c z (omega arith) d) refl

pub share_elsewhere : (links : List Link) (c z : ℕ) → (Descends links c z → ⊥) → share links c z ≡ pos 0
unfolding share
share_elsewhere links c z none =
    ⊎_elim (λ e. absurd (none (descends_from_passes links z c z e))) (λ e. rw e refl) (cases_Bool (passes z links c z))

-- of any list of links, a tree or not
pub share_in_range : (links : List Link) (c z : ℕ) → unsigned_abs (share links c z) ≤ 1000
unfolding share
share_in_range links c z = ⊎_elim (λ e. rw e (omega arith)) (λ e. rw e (omega arith)) (cases_Bool (passes z links c z))
