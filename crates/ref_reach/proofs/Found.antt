-- What a look-up found, by the steps that find it.
use Rattle.std.proofs.Common.{◌≡◌, ◌∙◌, ℕ, List, [], ◌∷◌, Ok, Err, Option, Some, option_map, option_and_then, slice_get, ap, sym}
use Rattle.serde_json.specs.Data.{Data}
use Rattle.ref_paths.specs.Path.{Part, value_at}
use Rattle.ref_definitions.specs.Lookup.{Found}
use Rattle.ref_index.specs.Spots.{Spot}
use Rattle.ref_uri.specs.Targets.{target}
use Rattle.ref_definitions.specs.Lookup.{lookup}
use Rattle.ref_definitions.specs.Fault.{Fault}
use Rattle.ref_resolver.specs.Locations.{lookup_location}
use Rattle.ref_descriptions.specs.declared.kind.Kind.{Kind}
use Rattle.ref_reach.specs.Places.{Place}
use Rattle.ref_reach.specs.Leading.{Known, Target, origin, target_at, target_found, at_base, by_fault, by_answer, by_target, text_outcome}

-- a value that was found, as a target
abbrev pub as_target : Found → ℕ × List Part → Data → Target
as_target found at value =
    record { document = at.0; path = at.1; value = value; draft = found.draft; base = found.resolver.base }

pub found_is : (known : Known) (found : Found) (spot : Spot) (at : ℕ × List Part) (tree : Data) (path : List Part) (value : Option Data) → Some at ≡ origin known spot → slice_get known.trees at.0 ≡ Some tree → path ≡ at.1 → value ≡ value_at tree path
    → option_map (as_target found at) value ≡ target_found known found spot
found_is known found spot at tree path value from there same is =
    ap (option_map (as_target found at)) (is ∙ ap (value_at tree) same)
    ∙ sym (ap (λ o. option_map (as_target found at) (option_and_then (λ t. value_at t at.1) o)) there)
    ∙ ap (option_and_then (target_at known found)) from

-- a text whose look-up has a fault
pub text_is_fault : (known : Known) (p : Place) (wanted : Kind) (text uri : List ℕ) (fault : Fault) → target p.base text ≡ Ok uri → lookup (known.layer ∷ []) (at_base p.base) text ≡ Err fault
    → by_fault known uri text fault ≡ text_outcome known p wanted text
text_is_fault known p wanted text uri fault meant is =
    sym (ap (by_target known p wanted text) meant ∙ ap (λ a. by_answer known p.reading wanted uri text a (lookup_location (known.layer ∷ []) (at_base p.base) text)) is)
