-- Lists that are read item by item, of which one may be refused.
use Rattle.std.proofs.Common.{◌≡◌, ℕ, List, [], ◌∷◌, ◌++◌, Result, Ok, Err, refl, sym, ap, ◌∙◌, append_assoc}
use Rattle.serde_json.specs.Data.{Data}
use Rattle.serde_json.specs.declared.value.Value.{Value}
use Rattle.ref_definitions.specs.Results.{◌>>=◌}
use Rattle.ref_json.specs.declared.stop.Stop.{Stop}
use Rattle.ref_json.specs.declared.stop.Stop.TheVariants.{Memory, Because}
use Rattle.ref_calls.specs.Errors.{in_field, with_field, at_index, with_index}
use Rattle.ref_calls.specs.Outcome.{Stops, IsChanged}

-- what is read so far, before what is left to read
abbrev pub in_front : {B : Type 0} → List B → Result (List B) Data → Result (List B) Data
in_front done (Ok ys) = Ok (done ++ ys)
in_front done (Err e) = Err e

abbrev pub first_of : {B : Type 0} → B → Result (List B) Data → Result (List B) Data
first_of y (Ok ys) = Ok (y ∷ ys)
first_of y (Err e) = Err e

pub in_front_push : {B : Type 0} (done : List B) (y : B) (left : Result (List B) Data) → in_front (done ++ y ∷ []) left ≡ in_front done (first_of y left)
in_front_push done y (Ok ys) = ap Ok (append_assoc done (y ∷ []) ys)
in_front_push done y (Err e) = refl

pub first_read : {B : Type 0} (y : B) (left : Result (List B) Data) → (left >>= λ ys. Ok (y ∷ ys)) ≡ first_of y left
first_read y (Ok ys) = refl
first_read y (Err e) = refl

-- ---- where an error is

pub stops_in_field : {Y : Type 0} (field : List ℕ) (stop result : Stop Value) (defined : Result Y Data) → Stops stop defined → IsChanged (with_field field) stop result → Stops result (in_field field defined)
stops_in_field field Memory Memory defined stops changed = tt
stops_in_field field Memory (Because value) defined stops changed = absurd (cc)
stops_in_field field (Because error) Memory defined stops changed = tt
stops_in_field field (Because error) (Because value) defined stops changed = ap (in_field field) stops ∙ ap Err (sym changed)

pub stops_at_index : {Y : Type 0} (n : ℕ) (stop result : Stop Value) (defined : Result Y Data) → Stops stop defined → IsChanged (with_index n) stop result → Stops result (at_index n defined)
stops_at_index n Memory Memory defined stops changed = tt
stops_at_index n Memory (Because value) defined stops changed = absurd (cc)
stops_at_index n (Because error) Memory defined stops changed = tt
stops_at_index n (Because error) (Because value) defined stops changed = ap (at_index n) stops ∙ ap Err (sym changed)
