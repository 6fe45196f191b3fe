-- Where a reference leads (2020-12 Core, 8.2.3).
use Rattle.std.specs.Prelude.{ℕ, Bool, true, false, not, ◌||◌, ◌==◌, List, [], ◌∷◌, ◌++◌, map, filter, flat_map, length, codes, bytes_eq, None, Result, Ok, Err, if◌then◌else◌}
use Rattle.std.specs.List.{join_by, last_or}
use Rattle.std.specs.Option.{ok_or, unwrap_or}
use Rattle.serde_json.specs.Data.{Data}
use Rattle.ref_paths.specs.Path.{Part}
use Rattle.ref_parts.specs.Pointer.{slash, pointer_text}
use Rattle.ref_parts.specs.Encoded.{encoded_text}
use Rattle.ref_draft.specs.declared.draft.Draft.{Draft}
use Rattle.ref_draft.specs.Schema.{identifier}
use Rattle.ref_draft.specs.Anchors.{Kind, Plain, Dynamic}
use Rattle.ref_uri.specs.Bytes.{hash}
use Rattle.ref_uri.specs.Targets.{Refusal, target, fragment_part}
use Rattle.ref_definitions.specs.Results.{◌>>=◌}
use Rattle.ref_definitions.specs.World.{World}
use Rattle.ref_definitions.specs.Places.{Place, base_within}
use Rattle.ref_definitions.specs.Resources.{meant_place}
use Rattle.ref_definitions.specs.Anchors.{Named, anchor}
use Rattle.ref_definitions.specs.Fault.{Fault, NoSuchAnchor, as_invalid_uri, not_retrieved}
use Rattle.ref_definitions.specs.Bases.{Along}
use Rattle.ref_definitions.specs.Pointers.{pointed_value}

-- where a lookup starts from: the base URI, and the dynamic scope, inner to outer
pub record Resolver : Type 0 where
  pub base : List ℕ
  pub scope : List (List ℕ)

-- what a lookup returns
pub record Found : Type 0 where
  pub value : Data
  pub draft : Draft
  pub resolver : Resolver

-- at a URI: the old base goes before the scope where the scope was empty or the base changes
abbrev pub moved_resolver : Resolver → List ℕ → Resolver
moved_resolver r uri = record {
  base = uri;
  scope =
      (if (length r.scope == 0) || not (bytes_eq uri r.base) then r.base ∷ r.scope else r.scope);
}

-- the resolver in a value: its identifier, where it has one, changes the base and nothing else (2020-12 Core, 8.2.1)
abbrev pub in_subresource : Resolver → Draft → Data → Result Resolver Refusal
in_subresource r draft value =
    base_within r.base (identifier draft value) >>= λ base. Ok (record r { base = base })

-- what a name means under each URI of the scope, inner to outer
abbrev pub in_scope : World → List ℕ → List (List ℕ) → List (List ℕ × Result Named Fault)
in_scope world name scope = map (λ uri. (uri, anchor world uri name)) scope

-- its fault, unless it is that no such anchor is there
abbrev pub fault_of : List ℕ × Result Named Fault → List Fault
fault_of (uri, Ok n) = []
fault_of (uri, Err (NoSuchAnchor name)) = []
fault_of (uri, Err fault) = fault ∷ []

-- the entry that it means
abbrev pub entry_of : List ℕ × Result Named Fault → List (List ℕ × Named)
entry_of (uri, Ok n) = (uri, n) ∷ []
entry_of (uri, Err fault) = []

-- whether an anchor is a dynamic one
abbrev pub is_dynamic : Kind → Bool
is_dynamic Plain = false
is_dynamic Dynamic = true

-- the first fault, or else this answer
abbrev pub unless_fault : {A : Type 0} → List Fault → Result A Fault → Result A Fault
unless_fault [] answer = answer
unless_fault (fault ∷ more) answer = Err fault

-- an entry's place, whose identifier is resolved against the URI that it was found under
abbrev pub entry_found : Resolver → List ℕ × Named → Result Found Fault
entry_found r (uri, n) =
    as_invalid_uri (in_subresource (record r { base = uri }) n.place.draft n.place.value)
    >>= λ moved_resolver. Ok
    (record { value = n.place.value; draft = n.place.draft; resolver = moved_resolver })

-- of the entries filtered to the dynamic ones the last, or what was found first (2020-12 Core, 8.2.3.2)
abbrev pub outermost : List ℕ × Named → List (List ℕ × Named) → List ℕ × Named
outermost first entries = unwrap_or (last_or None (filter (λ e. is_dynamic e.1.kind) entries)) first

-- a dynamic anchor, by what its name means in the scope: the first fault, or else the outermost
abbrev pub by_scope : Resolver → Named → List (List ℕ × Result Named Fault) → Result Found Fault
by_scope r first meanings =
    unless_fault (flat_map fault_of meanings)
    (entry_found r (outermost (r.base, first) (flat_map entry_of meanings)))

-- a dynamic anchor, by the scope of the resolver that asks
abbrev pub dynamically : World → Resolver → Named → Result Found Fault
dynamically world r first = by_scope r first (in_scope world first.name r.scope)

-- a plain anchor returns its place
abbrev pub named_found : World → Resolver → Named → Kind → Result Found Fault
named_found world r n Plain =
    Ok (record { value = n.place.value; draft = n.place.draft; resolver = r })
named_found world r n Dynamic = dynamically world r n

-- a value that a pointer leads to in a resource of a draft, with the base there
abbrev pub pointer_found : Resolver → Draft → Data × Along → Found
pointer_found r draft (value, along) =
    record { value = value; draft = draft; resolver = record r { base = along.base } }

-- what a fragment means in the resource at a place: the resource, what a pointer leads to, or what an anchor names
abbrev pub at_fragment : World → Resolver → Place → List ℕ → Result Found Fault
at_fragment world r p [] = Ok (record { value = p.value; draft = p.draft; resolver = r })
at_fragment world r p (c ∷ text) =
    if c == slash then
    (pointed_value p.draft (c ∷ text) r.base p.value text
    >>= λ to. Ok (pointer_found r p.draft to))
    else (anchor world r.base (c ∷ text) >>= λ n. named_found world r n n.kind)

-- where a reference leads from a resolver
unfoldable pub lookup : World → Resolver → List ℕ → Result Found Fault
lookup world r reference =
    as_invalid_uri (target r.base reference)
    >>= λ uri. ok_or (meant_place world uri) (not_retrieved uri)
    >>= λ place. at_fragment world (moved_resolver r uri) place (fragment_part reference)

-- where a path leads from a base: the lookup, with an empty scope, of `#` and the path's pointer text as a fragment holds it
abbrev pub located_value : World → List ℕ → List Part → Result Found Fault
located_value world base path =
    lookup world (record { base = base; scope = [] }) (hash ∷ encoded_text (pointer_text path))

-- a resolver as it is displayed: its base, and its scope from inner to outer
abbrev pub resolver_text : Resolver → List ℕ
resolver_text r =
    codes "Resolver { base_uri: \"" ++ r.base ++ codes "\", scopes: \"["
    ++ join_by (λ uri. uri) (codes ", ") r.scope ++ codes "]\" }"
