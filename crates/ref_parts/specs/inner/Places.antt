-- What slots and either form of a small map are, once a `&mut` to a value in them has ended.
use Rattle.std.specs.Prelude.{ℕ, ◌∷◌, [], Option, option_map, slice_index_or}
use Rattle.std.specs.Borrow.{Fml, RattleType, MutBor, Lends, unit}
use Rattle.std.specs.HashMap.Lent.{HashMembers}
use Rattle.std.specs.declared.option.Option.TheVariants.{None}
use Rattle.std.specs.contracts.option.Option as option
use denote.Struct.Tuple.{Tuple}
use Rattle.arrayvec.specs.ArrayVec.{ArrayVec, with_item}
use Rattle.arrayvec.specs.contracts.array_vec.ArrayVec as array_vec
use Rattle.indexmap.specs.IndexMap.{with_value_at}
use Rattle.ref_parts.specs.declared.small_map.Form.{Form}
use Rattle.ref_parts.specs.declared.small_map.Form.TheVariants.{Small, Large}
use Rattle.ref_parts.specs.contracts.small_map.Form as form

-- the pair of a slot with this value
abbrev pub with_value : {K V : Type 0} → Option (K × V) → V → Option (K × V)
with_value slot w = option_map (λ pair. (pair.0, w)) slot

-- the slots with this value in the pair at a place
abbrev pub with_slot_value : {K V : Type 0} → ArrayVec (Option (K × V)) → ℕ → V
    → ArrayVec (Option (K × V))
with_slot_value slots place w =
    with_item slots place (with_value (slice_index_or slots.items place None) w)

-- either form with this value in the pair at a place
abbrev pub with_form_value : {K V : Type 0} {n : ℕ} → Form K V n → ℕ → V → Form K V n
with_form_value (Small slots) place w = Small (with_slot_value slots place w)
with_form_value (Large map) place w = Large (with_value_at map place w)

module _ (K V : RattleType) where
  -- the slot has the last value written through r
  abbrev pub lends_pair : MutBor (Option (K.Denot × V.Denot)) → MutBor V.Denot → Fml
  lends_pair slot r = Lends (option.the_row (Tuple (K ∷ V ∷ []))) V slot r (with_value slot.now)

  module _ (N : RattleType) where
    -- so has the pair at a place of the slots
    abbrev pub lends_slot : MutBor (ArrayVec (Option (K.Denot × V.Denot))) → ℕ → MutBor V.Denot
        → Fml
    lends_slot slots place r =
        Lends (array_vec.the_row (option.the_row (Tuple (K ∷ V ∷ []))) N unit) V slots r
        (with_slot_value slots.now place)

    module _ (key : HashMembers K.Denot) where
      -- so has the pair at a place of either form
      abbrev pub form_row : RattleType
      form_row =
          form.the_row K V N (record { eq = key.eq }) (record { hash_input = key.hash_input })

      abbrev pub lends_place : MutBor form_row.Denot → ℕ → MutBor V.Denot → Fml
      lends_place it place r = Lends form_row V it r (with_form_value it.now place)
