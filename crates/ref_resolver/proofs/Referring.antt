-- Where a reference leads, by its URI and its fragment.
use Rattle.std.proofs.Common.{◌≡◌, ℕ, false, List, ◌∷◌, None, Some, Result, Ok, Err, sym, ap, subst, ◌∙◌}
use Rattle.serde_json.specs.Data.{Data}
use Rattle.serde_json.specs.View.{view}
use Rattle.ref_draft.specs.declared.draft.Draft.{Draft}
use Rattle.ref_uri.specs.Targets.{target, fragment_part}
use Rattle.ref_definitions.specs.World.{World}
use Rattle.ref_definitions.specs.Fault.{as_invalid_uri, not_retrieved}
use Rattle.ref_definitions.specs.Places.{Place}
use Rattle.ref_definitions.specs.Resources.{meant_place}
use Rattle.ref_definitions.specs.Results.{◌>>=◌}
use Rattle.ref_definitions.specs.Pointers.{pointed_value}
use Rattle.ref_definitions.specs.Lookup.{Resolver, Found, lookup, at_fragment, moved_resolver, pointer_found}
use Rattle.ref_error.specs.declared.error.Error.{Error}
use Rattle.ref_error.specs.Errors.{IsFaultOf, Gives, SaysOrMemory}
use Rattle.ref_error.proofs.Saying.{fault_as, says_of, uri_meant}
use Rattle.ref_resolver.specs.declared.located.Located.{Located}
use Rattle.ref_resolver.specs.inner.Located.{IsLocated}
use Rattle.ref_resolver.specs.inner.Names.{is_name}
use Rattle.ref_resolver.specs.inner.Leading.{at_pointer}
use Rattle.ref_resolver.specs.inner.Walking.{pointed_to}
use Rattle.ref_resolver.proofs.Pointing.{no_answer}
use Rattle.ref_resolver.proofs.Fragments.{pointer_there, whole_there}
use Rattle.ref_resolver.proofs.Lookups.{lookup_refused, lookup_absent, lookup_present}

-- a reference means a URI and a fragment, and that URI a place
abbrev pub Refers : World → Resolver → List ℕ → List ℕ → List ℕ → Place → Type 0
Refers w r reference uri fragment p =
    (as_invalid_uri (target r.base reference) ≡ Ok uri) × (fragment ≡ fragment_part reference) × (meant_place w uri ≡ Some p)

leads : (w : World) (r : Resolver) (reference uri fragment : List ℕ) (p : Place) → Refers w r reference uri fragment p → lookup w r reference ≡ at_fragment w (moved_resolver r uri) p fragment
leads w r reference uri fragment p (is, part, means) =
    lookup_present w r reference uri p (uri_meant (target r.base reference) uri is) means ∙ ap (at_fragment w (moved_resolver r uri) p) (sym part)

-- a fragment that is a pointer
pub pointer_leads : (w : World) (r : Resolver) (reference uri fragment : List ℕ) (p : Place) (l : Located) (text : List ℕ) → Refers w r reference uri fragment p → IsLocated l p → fragment ≡ 47 ∷ text
    → lookup w r reference ≡ at_pointer (moved_resolver r uri) l.entry.now.draft fragment (view l.value.now) text
pointer_leads w r reference uri fragment p l text refers at slash = leads w r reference uri fragment p refers ∙ pointer_there w (moved_resolver r uri) p l fragment text at slash

-- an empty one
pub whole_leads : (w : World) (r : Resolver) (reference uri fragment : List ℕ) (p : Place) (l : Located) → Refers w r reference uri fragment p → IsLocated l p → is_name fragment ≡ false → ((rest : List ℕ) → fragment ≡ 47 ∷ rest → ⊥)
    → lookup w r reference ≡ Ok (record { value = view l.value.now; draft = l.entry.now.draft; resolver = moved_resolver r uri })
whole_leads w r reference uri fragment p l refers at name none = leads w r reference uri fragment p refers ∙ whole_there w (moved_resolver r uri) p l fragment at name none

-- a URI that is refused, for a lookup
pub refused_gives : {X : Type 0} (view : X → Found) (w : World) (r : Resolver) (reference : List ℕ) (e : Error) (answer : Result X Error) → IsFaultOf (as_invalid_uri (target r.base reference)) e → answer ≡ Err e → Gives view (lookup w r reference) answer
refused_gives view w r reference e answer refused is = subst (Gives view (lookup w r reference)) (sym is) (lookup_refused w r reference e refused)

-- a URI that means no place
pub absent_says : (w : World) (r : Resolver) (reference uri : List ℕ) (e : Error) → as_invalid_uri (target r.base reference) ≡ Ok uri → meant_place w uri ≡ None → SaysOrMemory (not_retrieved uri) e → IsFaultOf (lookup w r reference) e
absent_says w r reference uri e is none = says_of (lookup w r reference) (not_retrieved uri) e (lookup_absent w r reference uri (uri_meant (target r.base reference) uri is) none)

-- a pointer that is refused
pub pointer_refused : (r : Resolver) (draft : Draft) (pointer : List ℕ) (value : Data) (text : List ℕ) (e : Error) → IsFaultOf (pointed_to draft pointer r.base value text) e → IsFaultOf (at_pointer r draft pointer value text) e
pointer_refused r draft pointer value text e =
    let answer = pointed_value draft pointer r.base value text in
    fault_as (pointed_to draft pointer r.base value text) (at_pointer r draft pointer value text) e (λ fault is. ap (λ a. a >>= λ to. Ok (pointer_found r draft to)) (no_answer answer fault is))
