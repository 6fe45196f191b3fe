-- Paths from resources that the pointer and the keywords read alike.
use Rattle.std.proofs.Common.{◌≡◌, ◌∙◌, ℕ, List, [], ◌∷◌, ◌++◌, Some, Result, Ok, Err, sym, arith}
use Rattle.std.specs.List.{Contains}
use Rattle.std.proofs.lemmas.List.Elements.{All-contains, All-from_recursion}
use Rattle.ref_paths.specs.Path.{Part, value_at}
use Rattle.ref_definitions.specs.World.{Document, World, local_documents}
use Rattle.ref_definitions.specs.Places.{Place, places}
use Rattle.ref_definitions.specs.Wants.{faults}
use Rattle.ref_definitions.specs.Fault.{Fault}
use Rattle.ref_definitions.specs.Lookup as world
use Rattle.ref_definitions.specs.Lookup.{located_value}
use Rattle.ref_definitions.specs.Agreement.{ChildrenAreThere, IsAtOrBelow, IsReadAlike, IsPathOfTexts}
use Rattle.ref_definitions.proofs.AtOrBelow.{below_is_place, place_has_base}
use Rattle.ref_definitions.proofs.Located.{leads_to}
use Rattle.ref_definitions.proofs.Standing.{IsValueAt, all_are_there_where}
use Rattle.ref_error.specs.declared.error.Error.{Error}
use Rattle.ref_error.specs.declared.error.Error.TheVariants as error
use Rattle.ref_error.specs.Errors.{IsFaultOf, IsMemory, Gives}
use Rattle.ref_resolver.specs.declared.resolver.Resolved.{Resolved}
use Rattle.ref_resolver.specs.Resolving.{found_of}
use Rattle.referencing.specs.Listed.{AnswersPlace}

-- a place's value is at its path, where the children of the document's places do
pub value_there : (d : Document) (p : Place) → ChildrenAreThere d → Contains (places d) p → value_at d.tree p.path ≡ Some p.value
value_there d p children there = All-contains (IsValueAt d.tree) (places d) p (All-from_recursion (IsValueAt d.tree) (places d) (all_are_there_where d children)) there

-- what is found at a place, looked up from a URI
abbrev pub found_at : Place → List ℕ → List ℕ → world.Found
found_at q uri base = record { value = q.value; draft = q.draft; resolver = record { base = base; scope = uri ∷ [] } }

-- a path leads to a place
pub record LeadsHere (answer : Result world.Found Fault) (q : Place) (uri : List ℕ) : Type 0 where
  pub base : List ℕ
  pub is : q.base ≡ Ok base
  pub found : answer ≡ Ok (found_at q uri base)

pub leads_here : (world : World) (d : Document) (r q : Place) (uri : List ℕ) (path : List Part) → ((e : Document) → Contains (local_documents world) e → ChildrenAreThere e) → faults (local_documents world) ≡ []
    → IsReadAlike (local_documents world) d r uri → IsAtOrBelow q r → q.path ≡ r.path ++ path → IsPathOfTexts path → LeadsHere (located_value world uri path) q uri
leads_here [] d r q uri path children none alike under is texts = absurd (omega (arith, alike.document.1))
leads_here (layer ∷ parents) d r q uri path children none alike under is texts =
    let base = place_has_base layer d q none alike.document (below_is_place d q r alike.place under) in
    record { base = base.0; is = base.1; found = leads_to layer parents d r q uri path (children d alike.document) alike under is texts base.0 base.1 }

-- an answer leaves no fault to an error
memory_alone : {A : Type 0} (answer : Result A Fault) (x : A) (e : Error) → answer ≡ Ok x → IsFaultOf answer e → IsMemory e
memory_alone answer x (error.Unretrievable uri source) found (fault, is, says) = cc
memory_alone answer x (error.PointerToNowhere pointer) found (fault, is, says) = cc
memory_alone answer x (error.InvalidPercentEncoding pointer) found (fault, is, says) = cc
memory_alone answer x (error.InvalidArrayIndex pointer index) found (fault, is, says) = cc
memory_alone answer x (error.NoSuchAnchor anchor) found (fault, is, says) = cc
memory_alone answer x (error.InvalidAnchor anchor) found (fault, is, says) = cc
memory_alone answer x (error.InvalidUri uri) found (fault, is, says) = cc
memory_alone answer x (error.UnknownSpecification specification) found (fault, is, says) = cc
memory_alone answer x (error.CircularMetaschema uri) found (fault, is, says) = cc
memory_alone answer x (error.RetrievalLimit uri limit) found (fault, is, says) = cc
memory_alone answer x (error.Memory memory) found is = tt

same_found : (answer : Result world.Found Fault) (a b : world.Found) → answer ≡ Ok a → answer ≡ Ok b → a ≡ b
same_found answer a b first second = let e : Ok a ≡ Ok b = sym first ∙ second in cc

pub answers_place : (answer : Result world.Found Fault) (q : Place) (uri : List ℕ) (result : Result Resolved Error) → LeadsHere answer q uri
    → Gives found_of answer result → AnswersPlace q uri result
answers_place answer q uri (Ok found) leads gives = (leads.base, leads.is, same_found answer (found_of found) (found_at q uri leads.base) gives leads.found)
answers_place answer q uri (Err error) leads gives = memory_alone answer (found_at q uri leads.base) error leads.found gives
