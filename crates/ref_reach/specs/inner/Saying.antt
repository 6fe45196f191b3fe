-- What the program says of references.
use Rattle.std.specs.Prelude.{◌≡◌, ⊤, Bool, true, false}
use Rattle.serde_json.specs.View.{view}
use Rattle.ref_error.specs.declared.error.Error.{Error}
use Rattle.ref_error.specs.declared.error.Error.TheVariants as error
use Rattle.ref_reach.specs.declared.leading.Outcome as rust
use Rattle.ref_reach.specs.declared.leading.Outcome.TheVariants as outcome
use Rattle.ref_reach.specs.declared.leading.Target as rust_target
use Rattle.ref_reach.specs.Leading.{Outcome, Leads, Nothing, Wrong, WrongKind, Target}
use Rattle.ref_reach.specs.Views.{place_of, IsProblemOf}

-- the program's outcome is the outcome
abbrev pub IsOutcome : Outcome → rust.Outcome → Type 0
IsOutcome (Leads p) (outcome.Leads place) = place_of place ≡ p
IsOutcome Nothing outcome.Nothing = ⊤
IsOutcome (Wrong p) (outcome.Wrong problem) = IsProblemOf problem p
IsOutcome o other = ⊥

-- a target
abbrev pub target_of : rust_target.Target → Target
target_of t =
    record {
      document = t.document;
      path = t.path;
      value = view t.value.now;
      draft = t.draft;
      base = t.base.value;
    }

-- which errors are told apart
abbrev pub is_unretrievable : Error → Bool
is_unretrievable (error.Unretrievable uri source) = true
is_unretrievable other = false

-- whether a reference leads to a place, or to an object of another kind
abbrev pub is_led : Outcome → Bool
is_led (Leads p) = true
is_led Nothing = false
is_led (Wrong (WrongKind uri is wanted)) = true
is_led (Wrong other) = false
