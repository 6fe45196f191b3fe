-- What the calls on places return.
use Rattle.std.specs.Prelude.{◌≡◌, ℕ, List, [], ◌∷◌, ◌++◌, Result, Ok, Err}
use Rattle.ref_paths.specs.Path.{Part}
use Rattle.ref_definitions.specs.World.{Document, Layer}
use Rattle.ref_definitions.specs.Places.{Place}
use Rattle.ref_definitions.specs.Agreement.{IsAtOrBelow, IsReadAlike}
use Rattle.ref_error.specs.declared.error.Error.{Error}
use Rattle.ref_error.specs.Errors.{IsMemory}
use Rattle.ref_resolver.specs.declared.resolver.Resolved.{Resolved}
use Rattle.ref_resolver.specs.Resolving.{found_of}

-- what a call returns is this place's value, its draft and its base, with the URI that it was asked at as the scope; or
-- memory was refused
abbrev pub AnswersPlace : Place → List ℕ → Result Resolved Error → Type 0
AnswersPlace q uri (Ok found) =
    (base : List ℕ) × (q.base ≡ Ok base)
    × (found_of found
    ≡ record {
      value = q.value;
      draft = q.draft;
      resolver = record { base = base; scope = uri ∷ [] };
    })
AnswersPlace q uri (Err error) = IsMemory error

-- from a resource that the pointer and the keywords read alike, a path gives the place that is there, at or below it
abbrev pub Agrees : Layer → List ℕ → List Part → Result Resolved Error → Type 0
Agrees layer uri path result =
    (d : Document) (r q : Place) → IsReadAlike layer d r uri → IsAtOrBelow q r
    → q.path ≡ r.path ++ path
    → AnswersPlace q uri result
