-- Why documents are refused.
use Rattle.std.specs.Prelude.{◌≡◌, List, ◌∷◌, ⊤}
use Rattle.ref_uri.specs.Targets.{Refusal}
use Rattle.ref_uri.specs.Errors.{SaysRefusal}
use Rattle.ref_uri.specs.declared.error.UriFault.{UriFault}
use Rattle.ref_uri.specs.declared.error.UriFault.TheVariants.{Invalid, Memory}
use Rattle.ref_definitions.specs.Places.{Place}
use Rattle.ref_definitions.specs.Wants.{faults_at}

-- the faults of a place
abbrev pub faults_of : Place → List Refusal
faults_of p = faults_at p.base p.value

-- the first of these faults, or out of memory
abbrev pub IsFirstFault : List Refusal → UriFault → Type 0
IsFirstFault faults (Invalid error) =
    (refusal : Refusal) × (more : List Refusal) × (faults ≡ refusal ∷ more)
    × SaysRefusal error refusal
IsFirstFault faults (Memory error) = ⊤
