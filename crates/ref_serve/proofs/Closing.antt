-- Registries that are closed, and those for which a scope is kept.
use Rattle.std.proofs.Common.{◌≡◌, ◌≤◌, ◌<◌, ℕ, zero, suc, List, [], ◌∷◌, Option, Some, None, option_map, length, slice_get, slice_set, refl, sym, ap, ◌∙◌, arith}
use Rattle.ref_serve.specs.State.{Slot, Registries, without_registry, with_kept, with_scope}

-- a number that no registry has
pub closed_past : (state : Registries) (number : ℕ) → length state ≤ number → state ≡ without_registry state number
closed_past [] number past = refl
closed_past (slot ∷ state) zero past = absurd (omega (arith, past))
closed_past (slot ∷ state) (suc n) past = ap (λ s. slot ∷ s) (closed_past state n (omega (arith, past)))

pub closed_at : (state : Registries) (number : ℕ) → number < length state → slice_set state number None ≡ without_registry state number
closed_at [] number within = absurd (omega (arith, within))
closed_at (slot ∷ state) zero within = refl
closed_at (slot ∷ state) (suc n) within = ap (λ s. slot ∷ s) (closed_at state n (omega (arith, within)))

-- ---- scopes

pub kept_past : (state : Registries) (number : ℕ) (uris : List (List ℕ)) → length state ≤ number → state ≡ with_scope state number uris
kept_past [] number uris past = refl
kept_past (slot ∷ state) zero uris past = absurd (omega (arith, past))
kept_past (slot ∷ state) (suc n) uris past = ap (λ s. slot ∷ s) (kept_past state n uris (omega (arith, past)))

pub kept_at : (state : Registries) (number : ℕ) (uris : List (List ℕ)) (slot : Option Slot) → slice_get state number ≡ Some slot
    → slice_set state number (option_map (with_kept uris) slot) ≡ with_scope state number uris
kept_at [] number uris slot is = absurd (cc)
kept_at (first ∷ state) zero uris slot is =
    let same : first ≡ slot = cc in
    ap (λ s. option_map (with_kept uris) s ∷ state) (sym same)
kept_at (first ∷ state) (suc n) uris slot is = ap (λ s. first ∷ s) (kept_at state n uris slot is)
