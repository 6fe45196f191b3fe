-- Worked rows of small maps: what the definitions return at literals.
use Rattle.std.specs.Prelude.{◌≡◌, ℕ, nat_eq, List, [], ◌∷◌, Option, Some, None}
use Rattle.ref_parts.specs.FiniteMap.{Puts, IsClone}
use Rattle.ref_parts.specs.inner.Slots.{pairs, AllHold, entries_of, EachOnce, IsFormOf, IsPlaceOf}
use Rattle.ref_parts.specs.declared.small_map.Form.{Form}
use Rattle.ref_parts.specs.declared.small_map.Form.TheVariants.{Small}

-- key 1
abbrev pub one : List (ℕ × ℕ)
one = (1, 10) ∷ []

-- keys 1 and 2
abbrev pub two : List (ℕ × ℕ)
two = (1, 10) ∷ (2, 20) ∷ []

-- the slots that hold them
abbrev pub slots : List (Option (ℕ × ℕ))
slots = Some (1, 10) ∷ Some (2, 20) ∷ []

-- those slots, where up to n pairs are inline
abbrev pub inline : (n : ℕ) → Form ℕ ℕ n
inline n = Small (record { items = slots })

-- no pairs, and none is inline
abbrev pub none : Form ℕ ℕ 0
none = Small (record { items = [] })

pub record MapRows : Type 0 where
  pub put_new : Puts nat_eq one two 2 20
  pub put_over : Puts nat_eq two ((1, 11) ∷ (2, 20) ∷ []) 1 11
  pub put_moves : Puts nat_eq two ((2, 20) ∷ (1, 11) ∷ []) 1 11 → ⊥
  pub put_before : Puts nat_eq one ((2, 20) ∷ (1, 10) ∷ []) 2 20 → ⊥
  pub put_drops : Puts nat_eq two ((1, 11) ∷ []) 1 11 → ⊥
  pub put_keeps : Puts nat_eq two two 1 11 → ⊥
  pub clone_of_entries : IsClone (λ k l. l ≡ k) (λ v w. w ≡ v) two two
  pub clone_in_another_order : IsClone (λ k l. l ≡ k) (λ v w. w ≡ v) two ((2, 20) ∷ (1, 10) ∷ [])
      → ⊥
  pub clone_of_less : IsClone (λ k l. l ≡ k) (λ v w. w ≡ v) two one → ⊥
  pub pairs_of_slots : pairs slots ≡ two
  pub pairs_past_empty : pairs (None ∷ slots) ≡ two
  pub all_hold : AllHold slots
  pub one_is_empty : AllHold (None ∷ slots) → ⊥
  pub no_entries : entries_of none ≡ []
  pub entries : entries_of (inline 2) ≡ two
  pub each_once : EachOnce nat_eq two
  pub one_twice : EachOnce nat_eq ((1, 11) ∷ two) → ⊥
  pub form_of_two : IsFormOf nat_eq 2 (inline 2)
  pub form_of_one : IsFormOf nat_eq 1 (inline 1) → ⊥
  pub place : IsPlaceOf nat_eq 2 slots 1
  pub other_place : IsPlaceOf nat_eq 2 slots 0 → ⊥
