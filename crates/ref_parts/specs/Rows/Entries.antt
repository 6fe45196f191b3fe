-- Worked rows of the entries of small maps, inline and hashed, by their places, and of a value that is written at one.
use Rattle.std.specs.Prelude.{◌≡◌, ℕ, nat_eq, [], ◌∷◌, Some, None}
use Rattle.ref_parts.specs.inner.Slots.{IsAt, entries_of, IsFormOf}
use Rattle.ref_parts.specs.inner.Places.{with_value, with_slot_value, with_form_value}
use Rattle.indexmap.specs.IndexMap.{IndexMap}
use Rattle.std.specs.declared.hash.BuildHasherDefault.{BuildHasherDefault}
use Rattle.std.specs.declared.hash.FoldHasher.{FoldHasher}
use Rattle.ref_parts.specs.declared.small_map.Form.TheVariants.{Small, Large}
use Rattle.ref_parts.specs.Rows.Maps.{two, slots, inline}

pub record EntryRows : Type 0 where
  pub first_place : IsAt nat_eq 1 two 0
  pub second_place : IsAt nat_eq 2 two 1
  pub other_place : IsAt nat_eq 2 two 0 → ⊥
  pub first_of_equal_keys : IsAt nat_eq 1 ((1, 11) ∷ two) 0
  pub written_pair : with_value {K = ℕ} {V = ℕ} (Some (1, 10)) 11 ≡ Some (1, 11)
  pub no_pair : with_value {K = ℕ} {V = ℕ} None 11 ≡ None
  pub written_slot : with_slot_value {K = ℕ} {V = ℕ} (record { items = slots }) 1 21
      ≡ record { items = Some (1, 10) ∷ Some (2, 21) ∷ [] }
  pub first_slot : with_slot_value {K = ℕ} {V = ℕ} (record { items = slots }) 0 11
      ≡ record { items = Some (1, 11) ∷ Some (2, 20) ∷ [] }
  pub written_form : with_form_value (inline 2) 0 11
      ≡ Small (record { items = Some (1, 11) ∷ Some (2, 20) ∷ [] })
  pub second_of_a_form : with_form_value (inline 2) 1 21
      ≡ Small (record { items = Some (1, 10) ∷ Some (2, 21) ∷ [] })
  pub hashed_entries : (map : IndexMap ℕ ℕ (BuildHasherDefault FoldHasher))
      → map.entries ≡ (3, 30) ∷ two → entries_of {n = 2} (Large map) ≡ (3, 30) ∷ two
  pub hashed_form : (map : IndexMap ℕ ℕ (BuildHasherDefault FoldHasher))
      → map.entries ≡ (3, 30) ∷ two → IsFormOf nat_eq 2 (Large map)
  pub not_hashed_yet : (map : IndexMap ℕ ℕ (BuildHasherDefault FoldHasher)) → map.entries ≡ two
      → IsFormOf nat_eq 2 (Large map) → ⊥
