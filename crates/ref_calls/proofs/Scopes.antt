-- Dynamic scopes, at whose end a number may be.
use Rattle.std.proofs.Common.{◌≡◌, List, [], ◌∷◌, ◌++◌, true, false, Some, None, ap}
use Rattle.std.specs.Prelude.{is_some, if◌then◌else◌}
use Rattle.serde_json.specs.Data.{Data, no_items, item}
use Rattle.serde_json.specs.View.{items_of}
use Rattle.serde_json.specs.Find.{as_number}
use Rattle.ref_calls.specs.Scopes.{front_items, last_number}

pub front_at_number : (ds : List Data) (d : Data) → is_some (as_number d) ≡ true → front_items (items_of (ds ++ d ∷ [])) ≡ items_of ds
front_at_number [] d is = ap (λ b. if b then no_items else item d no_items) is
front_at_number (x ∷ []) d is = ap (item x) (front_at_number [] d is)
front_at_number (x ∷ y ∷ ds) d is = ap (item x) (front_at_number (y ∷ ds) d is)

pub front_at_other : (ds : List Data) (d : Data) → is_some (as_number d) ≡ false → front_items (items_of (ds ++ d ∷ [])) ≡ items_of (ds ++ d ∷ [])
front_at_other [] d is = ap (λ b. if b then no_items else item d no_items) is
front_at_other (x ∷ []) d is = ap (item x) (front_at_other [] d is)
front_at_other (x ∷ y ∷ ds) d is = ap (item x) (front_at_other (y ∷ ds) d is)

pub number_at_end : (ds : List Data) (d : Data) → is_some (as_number d) ≡ true → last_number (items_of (ds ++ d ∷ [])) ≡ Some d
number_at_end [] d is = ap (λ b. if b then Some d else None) is
number_at_end (x ∷ []) d is = number_at_end [] d is
number_at_end (x ∷ y ∷ ds) d is = number_at_end (y ∷ ds) d is

pub no_number_at_end : (ds : List Data) (d : Data) → is_some (as_number d) ≡ false → last_number (items_of (ds ++ d ∷ [])) ≡ None
no_number_at_end [] d is = ap (λ b. if b then Some d else None) is
no_number_at_end (x ∷ []) d is = no_number_at_end [] d is
no_number_at_end (x ∷ y ∷ ds) d is = no_number_at_end (y ∷ ds) d is
