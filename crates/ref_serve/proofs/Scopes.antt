-- The scope that stays behind.
use Rattle.std.proofs.Common.{◌≡◌, ◌==◌, ◌||◌, Bool, true, false, not, ℕ, List, [], ◌∷◌, ◌++◌, length, bytes_eq, if◌then◌else◌, Result, Ok, Err, refl, sym, ap, ◌∙◌, subst}
use Rattle.std.proofs.Math.Dec.{eqb-suc-zero}
use Rattle.serde_json.specs.Data.{Data}
use Rattle.ref_parts.specs.Pointer.{slash}
use Rattle.ref_draft.specs.declared.draft.Draft.{Draft}
use Rattle.ref_draft.specs.Anchors.{Kind, Plain, Dynamic}
use Rattle.ref_draft.specs.Schema.{identifier}
use Rattle.ref_uri.specs.Targets.{Refusal, target, fragment_part}
use Rattle.ref_definitions.specs.Results.{◌>>=◌}
use Rattle.std.specs.Option.{ok_or}
use Rattle.ref_definitions.specs.World.{World}
use Rattle.ref_definitions.specs.Places.{Place, base_within}
use Rattle.ref_definitions.specs.Resources.{meant_place}
use Rattle.ref_definitions.specs.Fault.{Fault, as_invalid_uri, not_retrieved}
use Rattle.ref_definitions.specs.Bases.{Along}
use Rattle.ref_definitions.specs.Pointers.{pointed_value}
use Rattle.ref_definitions.specs.Anchors.{Named, anchor}
use Rattle.std.specs.Prelude.{Option, None, Some, option_and_then, flat_map}
use Rattle.std.specs.Result.{result_ok}
use Rattle.ref_resolver.specs.Locations.{pointer_spot, anchor_spot, naming_uri, fragment_spot, lookup_location}
use Rattle.ref_definitions.specs.Lookup.{Resolver, Found, moved_resolver, in_scope, fault_of, entry_of, unless_fault, entry_found, outermost, named_found, pointer_found, at_fragment, lookup}
use Rattle.ref_serve.specs.Scopes.{is_pointer, with_behind, found_behind, ScopeStaysBehind, PlaceIsTheSame, FoundEndsWithItsScope}

-- the scope after a move, where the old base is put before it or isn't
moved_by : (pushes : Bool) (base inner : List ℕ) (more : List (List ℕ)) → (if pushes then base ∷ inner ∷ more else inner ∷ more) ≡ (if pushes then base ∷ inner ∷ [] else inner ∷ []) ++ more
moved_by true base inner more = refl
moved_by false base inner more = refl

moved : (base inner : List ℕ) (more : List (List ℕ)) (uri : List ℕ)
    → moved_resolver (record { base = base; scope = inner ∷ more }) uri ≡ with_behind more (moved_resolver (record { base = base; scope = inner ∷ [] }) uri)
moved base inner more uri =
    let pushes = not (bytes_eq uri base) in
    ap (λ none. record { base = uri; scope = (if none || pushes then base ∷ inner ∷ more else inner ∷ more) }) (eqb-suc-zero (length more))
    ∙ ap (λ s. record { base = uri; scope = s }) (moved_by pushes base inner more)
    ∙ sym (ap (λ none. record { base = uri; scope = (if none || pushes then base ∷ inner ∷ [] else inner ∷ []) ++ more }) (eqb-suc-zero 0))

pointed : (more : List (List ℕ)) (r : Resolver) (draft : Draft) (found : Result (Data × Along) Fault)
    → (found >>= λ to. Ok (pointer_found (with_behind more r) draft to)) ≡ found_behind more (found >>= λ to. Ok (pointer_found r draft to))
pointed more r draft (Ok to) = refl
pointed more r draft (Err fault) = refl

by_pointer : (is : Bool) (more : List (List ℕ)) (r : Resolver) (draft : Draft) (found : Result (Data × Along) Fault) (a b : Result Found Fault) → is ≡ true
    → (if is then (found >>= λ to. Ok (pointer_found (with_behind more r) draft to)) else a) ≡ found_behind more (if is then (found >>= λ to. Ok (pointer_found r draft to)) else b)
by_pointer true more r draft found a b is = pointed more r draft found
by_pointer false more r draft found a b is = absurd (cc)

at_pointer : (world : World) (more : List (List ℕ)) (r : Resolver) (p : Place) (text : List ℕ) → is_pointer text ≡ true
    → at_fragment world (with_behind more r) p text ≡ found_behind more (at_fragment world r p text)
at_pointer world more r p [] is = refl
at_pointer world more r p (c ∷ text) is =
    by_pointer (c == slash) more r p.draft (pointed_value p.draft (c ∷ text) r.base p.value text)
    (anchor world r.base (c ∷ text) >>= λ n. named_found world (with_behind more r) n n.kind) (anchor world r.base (c ∷ text) >>= λ n. named_found world r n n.kind) is

at_place : (world : World) (more : List (List ℕ)) (r : Resolver) (found : Result Place Fault) (text : List ℕ) → is_pointer text ≡ true
    → (found >>= λ place. at_fragment world (with_behind more r) place text) ≡ found_behind more (found >>= λ place. at_fragment world r place text)
at_place world more r (Ok place) text is = at_pointer world more r place text is
at_place world more r (Err fault) text is = refl

at_uri : (world : World) (base inner : List ℕ) (more : List (List ℕ)) (uri : Result (List ℕ) Fault) (text : List ℕ) → is_pointer text ≡ true
    → (uri >>= λ u. ok_or (meant_place world u) (not_retrieved u) >>= λ place. at_fragment world (moved_resolver (record { base = base; scope = inner ∷ more }) u) place text)
    ≡ found_behind more (uri >>= λ u. ok_or (meant_place world u) (not_retrieved u) >>= λ place. at_fragment world (moved_resolver (record { base = base; scope = inner ∷ [] }) u) place text)
at_uri world base inner more (Ok u) text is =
    ap (λ r. ok_or (meant_place world u) (not_retrieved u) >>= λ place. at_fragment world r place text) (moved base inner more u)
    ∙ at_place world more (moved_resolver (record { base = base; scope = inner ∷ [] }) u) (ok_or (meant_place world u) (not_retrieved u)) text is
at_uri world base inner more (Err fault) text is = refl

pub stays_behind : ScopeStaysBehind
unfolding lookup
stays_behind world base inner more reference is = at_uri world base inner more (as_invalid_uri (target base reference)) (fragment_part reference) is

-- ---- the place

if_true : {A : Type 0} (b : Bool) (x p q : A) → b ≡ true → (if b then x else p) ≡ (if b then x else q)
if_true true x p q is = refl
if_true false x p q is = absurd (cc)

same_spot : (world : World) (uri : List ℕ) (a b : List (List ℕ)) (text : List ℕ) → is_pointer text ≡ true
    → fragment_spot world (record { base = uri; scope = a }) text ≡ fragment_spot world (record { base = uri; scope = b }) text
same_spot world uri a b [] is = refl
same_spot world uri a b (c ∷ text) is =
    if_true (c == slash) (pointer_spot world uri (c ∷ text) text)
    (option_and_then (λ n. anchor_spot world (naming_uri world (record { base = uri; scope = a }) n n.kind) (c ∷ text)) (result_ok (anchor world uri (c ∷ text))))
    (option_and_then (λ n. anchor_spot world (naming_uri world (record { base = uri; scope = b }) n n.kind) (c ∷ text)) (result_ok (anchor world uri (c ∷ text)))) is

spots_from : (world : World) (r s : Resolver) (text : List ℕ) (found : Option (List ℕ)) → is_pointer text ≡ true
    → option_and_then (λ uri. fragment_spot world (moved_resolver r uri) text) found ≡ option_and_then (λ uri. fragment_spot world (moved_resolver s uri) text) found
spots_from world r s text None is = refl
spots_from world r s text (Some uri) is = same_spot world uri (moved_resolver r uri).scope (moved_resolver s uri).scope text is

pub same_place : PlaceIsTheSame
unfolding lookup_location
same_place world base inner more reference is =
    spots_from world (record { base = base; scope = inner ∷ more }) (record { base = base; scope = inner ∷ [] }) (fragment_part reference) (result_ok (target base reference)) is

-- ---- the scope at the end of what is found

-- what is found has this scope
HasScope : List (List ℕ) → Result Found Fault → Type 0
HasScope scope (Ok f) = f.resolver.scope ≡ scope
HasScope scope (Err fault) = Unit {0}

-- what is found has this one at its end
HasEnd : List (List ℕ) → Result Found Fault → Type 0
HasEnd scope (Ok f) = (front : List (List ℕ)) × (f.resolver.scope ≡ front ++ scope)
HasEnd scope (Err fault) = Unit {0}

either_has : (b : Bool) (scope : List (List ℕ)) (x y : Result Found Fault) → HasScope scope x → HasScope scope y → HasScope scope (if b then x else y)
either_has true scope x y is_x is_y = is_x
either_has false scope x y is_x is_y = is_y

pointer_has : (r : Resolver) (draft : Draft) (found : Result (Data × Along) Fault) → HasScope r.scope (found >>= λ to. Ok (pointer_found r draft to))
unfolding HasScope
pointer_has r draft (Ok to) = refl
pointer_has r draft (Err fault) = tt

based_has : (r : Resolver) (uri : List ℕ) (n : Named) (base : Result (List ℕ) Refusal)
    → HasScope r.scope (as_invalid_uri (base >>= λ b. Ok (record { base = b; scope = r.scope })) >>= λ m. Ok (record { value = n.place.value; draft = n.place.draft; resolver = m }))
unfolding HasScope
based_has r uri n (Ok b) = refl
based_has r uri n (Err refusal) = tt

entry_has : (r : Resolver) (e : List ℕ × Named) → HasScope r.scope (entry_found r e)
entry_has r (uri, n) = based_has r uri n (base_within uri (identifier n.place.draft n.place.value))

unless_has : (faults : List Fault) (scope : List (List ℕ)) (answer : Result Found Fault) → HasScope scope answer → HasScope scope (unless_fault faults answer)
unfolding HasScope
unless_has [] scope answer is = is
unless_has (fault ∷ more) scope answer is = tt

named_has : (world : World) (r : Resolver) (n : Named) (kind : Kind) → HasScope r.scope (named_found world r n kind)
unfolding HasScope
named_has world r n Plain = refl
named_has world r n Dynamic =
    let meanings = in_scope world n.name r.scope in
    let chosen = outermost (r.base, n) (flat_map entry_of meanings) in
    unless_has (flat_map fault_of meanings) r.scope (entry_found r chosen) (entry_has r chosen)

anchor_has : (world : World) (r : Resolver) (found : Result Named Fault) → HasScope r.scope (found >>= λ n. named_found world r n n.kind)
unfolding HasScope
anchor_has world r (Ok n) = named_has world r n n.kind
anchor_has world r (Err fault) = tt

fragment_has : (world : World) (r : Resolver) (p : Place) (text : List ℕ) → HasScope r.scope (at_fragment world r p text)
unfolding HasScope
fragment_has world r p [] = refl
fragment_has world r p (c ∷ text) =
    either_has (c == slash) r.scope (pointed_value p.draft (c ∷ text) r.base p.value text >>= λ to. Ok (pointer_found r p.draft to)) (anchor world r.base (c ∷ text) >>= λ n. named_found world r n n.kind)
    (pointer_has r p.draft (pointed_value p.draft (c ∷ text) r.base p.value text)) (anchor_has world r (anchor world r.base (c ∷ text)))

ends_by : (pushes : Bool) (base : List ℕ) (scope : List (List ℕ)) → (front : List (List ℕ)) × ((if pushes then base ∷ scope else scope) ≡ front ++ scope)
ends_by true base scope = (base ∷ [], refl)
ends_by false base scope = ([], refl)

moved_has : (r : Resolver) (uri : List ℕ) (found : Result Found Fault) → HasScope (moved_resolver r uri).scope found → HasEnd r.scope found
unfolding HasScope HasEnd
moved_has r uri (Ok f) is =
    let end = ends_by ((length r.scope == 0) || not (bytes_eq uri r.base)) r.base r.scope in
    (end.0, is ∙ end.1)
moved_has r uri (Err fault) is = tt

place_has : (world : World) (r : Resolver) (uri : List ℕ) (found : Result Place Fault) (text : List ℕ) → HasEnd r.scope (found >>= λ place. at_fragment world (moved_resolver r uri) place text)
unfolding HasEnd
place_has world r uri (Ok place) text = moved_has r uri (at_fragment world (moved_resolver r uri) place text) (fragment_has world (moved_resolver r uri) place text)
place_has world r uri (Err fault) text = tt

uri_has : (world : World) (r : Resolver) (uri : Result (List ℕ) Fault) (text : List ℕ)
    → HasEnd r.scope (uri >>= λ u. ok_or (meant_place world u) (not_retrieved u) >>= λ place. at_fragment world (moved_resolver r u) place text)
unfolding HasEnd
uri_has world r (Ok u) text = place_has world r u (ok_or (meant_place world u) (not_retrieved u)) text
uri_has world r (Err fault) text = tt

pub ends_with_its_scope : FoundEndsWithItsScope
unfolding lookup HasEnd
ends_with_its_scope world r reference found is =
    subst (HasEnd r.scope) is (uri_has world r (as_invalid_uri (target r.base reference)) (fragment_part reference))
