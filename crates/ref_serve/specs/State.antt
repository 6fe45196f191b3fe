-- The registries that are open.
use Rattle.std.specs.Prelude.{ℕ, zero, suc, List, [], ◌∷◌, ◌++◌, Option, None, Some, option_map, option_and_then, ok_or, slice_get, unwrap_or, Result}
use Rattle.serde_json.specs.Data.{Data}
use Rattle.ref_definitions.specs.World.{World}
use Rattle.ref_definitions.specs.Results.{◌>>=◌}
use Rattle.ref_calls.specs.declared.fault.Wrong.TheVariants.{UnknownRegistry}
use Rattle.ref_calls.specs.Errors.{field_error}
use Rattle.ref_calls.specs.Calls.{required_member, number_in}

-- an open registry: its world, and the numbers of its parents, nearest first
abbrev pub OpenRegistry : Type 0
OpenRegistry = World × List ℕ

-- one with the dynamic scopes that are kept for it, by their numbers
abbrev pub Slot : Type 0
Slot = OpenRegistry × List (List (List ℕ))

-- the registries by their numbers; in the place of a closed one there is none
abbrev pub Registries : Type 0
Registries = List (Option Slot)

-- what has a number
abbrev pub slot_at : Registries → ℕ → Option Slot
slot_at state number = option_and_then (λ slot. slot) (slice_get state number)

-- the open registry with a number
abbrev pub open_at : Registries → ℕ → Option OpenRegistry
open_at state number = option_map (λ slot. slot.0) (slot_at state number)

-- the scopes that are kept for it
abbrev pub scopes_at : Registries → ℕ → List (List (List ℕ))
scopes_at state number = unwrap_or (option_map (λ slot. slot.1) (slot_at state number)) []

-- the registries without the one with a number
abbrev pub without_registry : Registries → ℕ → Registries
without_registry [] number = []
without_registry (slot ∷ state) zero = None ∷ state
without_registry (slot ∷ state) (suc n) = slot ∷ without_registry state n

-- a registry for which one scope more is kept
abbrev pub with_kept : List (List ℕ) → Slot → Slot
with_kept uris (registry, scopes) = (registry, scopes ++ uris ∷ [])

-- the registries where one scope more is kept for the one with a number
abbrev pub with_scope : Registries → ℕ → List (List ℕ) → Registries
with_scope [] number uris = []
with_scope (slot ∷ state) zero uris = option_map (with_kept uris) slot ∷ state
with_scope (slot ∷ state) (suc n) uris = slot ∷ with_scope state n uris

-- the number that a member is, and the open registry that has it
abbrev pub numbered_registry : Registries → List ℕ → ℕ → Result (ℕ × OpenRegistry) Data
numbered_registry state field number =
    ok_or (option_and_then (λ o. Some (number, o)) (open_at state number))
    (field_error UnknownRegistry field)

abbrev pub registry_in : Registries → List ℕ → Data → Result (ℕ × OpenRegistry) Data
registry_in state field value = number_in field value >>= numbered_registry state field

unfoldable pub registry_under : Registries → Data → List ℕ → Result (ℕ × OpenRegistry) Data
registry_under state d field = required_member field d >>= registry_in state field

-- the number of the registry of a layer: 0 is the registry itself, and its parents follow, nearest first
abbrev pub layer_number : ℕ → List ℕ → ℕ → ℕ
layer_number number parents zero = number
layer_number number parents (suc n) = unwrap_or (slice_get parents n) number
