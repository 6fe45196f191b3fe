-- A lookup from a place of a layer without an open want finds the place that its URI means.
use Rattle.std.proofs.Common.{◌≡◌, ℕ, ◌==◌, Bool, true, false, not, cond, List, [], ◌∷◌, ◌++◌, filter, flat_map, Option, Some, None, is_some, option_map, Result, Ok, Err, codes, refl, sym, ap, subst, ◌∙◌, true≢false, arith}
use Rattle.std.specs.List.{Contains, list_any, All}
use Rattle.std.specs.Prelude.{⊤}
use Rattle.std.specs.Str.{is_utf8}
use Rattle.std.specs.Option.{ok_or, option_or}
use Rattle.std.proofs.lemmas.List.Elements.{All-nil, All-cons}
use Rattle.percent_encoding.specs.Percent.{percent_decode}
use Rattle.serde_json.specs.Data.{Data, null, boolean, number, string, array, object}
use Rattle.serde_json.specs.Find.{get_item, get_member}
use Rattle.ref_paths.specs.Path.{Key, Index}
use Rattle.ref_parts.specs.Pointer.{unescape, tokens}
use Rattle.ref_draft.specs.declared.draft.Draft.{Draft}
use Rattle.ref_draft.specs.Anchors.{Kind, Plain, Dynamic}
use Rattle.ref_draft.specs.Schema.{text_under}
use Rattle.ref_uri.specs.Targets.{Refusal, target, fragment_part}
use Rattle.ref_definitions.specs.World.{Document, Layer, World}
use Rattle.ref_definitions.specs.Places.{Place, places}
use Rattle.ref_definitions.specs.Resources.{meant_place}
use Rattle.ref_definitions.specs.Fault.{Fault, Unretrievable, PointerToNowhere, InvalidPercentEncoding, InvalidArrayIndex, NoSuchAnchor, InvalidAnchor, InvalidUri, UnknownSpecification, CircularMetaschema, RetrievalLimit, as_invalid_uri}
use Rattle.ref_definitions.specs.Results.{◌>>=◌}
use Rattle.ref_definitions.specs.Anchors.{Named, named_entry, named_by_identifier, not_named, anchor}
use Rattle.ref_definitions.specs.Bases.{Along, along_part}
use Rattle.ref_definitions.specs.Pointers.{index_of, step_into, walked_along, pointed_value}
use Rattle.ref_definitions.specs.Lookup.{Resolver, moved_resolver, in_scope, fault_of, entry_of, unless_fault, entry_found, outermost, dynamically, named_found, in_subresource, pointer_found, at_fragment, lookup}
use Rattle.ref_definitions.specs.Wants.{Want, Reference, MetaSchema, reference_at, schema_at, wants_of_text, wants_at, wants, is_open, open_wants}
use Rattle.ref_definitions.proofs.Lists.{in_joined}

-- ---- answers that are no unretrievable URI

abbrev Other : Fault → Type 0
Other (Unretrievable uri source) = ⊥
Other (PointerToNowhere pointer) = ⊤
Other (InvalidPercentEncoding pointer) = ⊤
Other (InvalidArrayIndex pointer index) = ⊤
Other (NoSuchAnchor name) = ⊤
Other (InvalidAnchor name) = ⊤
Other (InvalidUri refusal) = ⊤
Other (UnknownSpecification uri) = ⊤
Other (CircularMetaschema uri) = ⊤
Other (RetrievalLimit uri limit) = ⊤

abbrev Clear : {A : Type 0} → Result A Fault → Type 0
Clear (Ok x) = ⊤
Clear (Err fault) = Other fault

in_turn : {A B : Type 0} (r : Result A Fault) (f : A → Result B Fault) → Clear r → ((x : A) → Clear (f x)) → Clear (r >>= f)
in_turn (Ok x) f clear next = next x
in_turn (Err fault) f clear next = clear

as_invalid : {A : Type 0} (r : Result A Refusal) → Clear (as_invalid_uri r)
as_invalid (Ok x) = tt
as_invalid (Err refusal) = tt

or_other : {A : Type 0} (o : Option A) (fault : Fault) → Other fault → Clear (ok_or o fault)
or_other None fault other = other
or_other (Some x) fault other = tt

either : {A : Type 0} (b : Bool) (r s : Result A Fault) → Clear r → Clear s → Clear (cond b r s)
either true r s first second = first
either false r s first second = second

-- ---- pointers

step_clear : (pointer : List ℕ) (value : Data) (token : List ℕ) → Clear (step_into pointer value token)
step_clear pointer null token = tt
step_clear pointer (boolean b) token = tt
step_clear pointer (number n) token = tt
step_clear pointer (string s) token = tt
step_clear pointer (array ds) token =
    in_turn (ok_or (index_of token) (InvalidArrayIndex pointer token)) (λ i. ok_or (get_item i ds) (PointerToNowhere pointer) >>= λ d. Ok (Index i, d))
    (or_other (index_of token) (InvalidArrayIndex pointer token) tt)
    (λ i. in_turn (ok_or (get_item i ds) (PointerToNowhere pointer)) (λ d. Ok (Index i, d)) (or_other (get_item i ds) (PointerToNowhere pointer) tt) (λ d. tt))
step_clear pointer (object ms) token =
    in_turn (ok_or (get_member (unescape token) ms) (PointerToNowhere pointer)) (λ d. Ok (Key (unescape token), d))
    (or_other (get_member (unescape token) ms) (PointerToNowhere pointer) tt) (λ d. tt)

walk_clear : (draft : Draft) (pointer : List ℕ) (along : Along) (value : Data) (tokens : List (List ℕ)) → Clear (walked_along draft pointer along value tokens)
walk_clear draft pointer along value [] = tt
walk_clear draft pointer along value (token ∷ tokens) =
    in_turn (step_into pointer value token) (λ s. as_invalid_uri (along_part draft along s.0 s.1) >>= λ next. walked_along draft pointer next s.1 tokens)
    (step_clear pointer value token)
    (λ s. in_turn (as_invalid_uri (along_part draft along s.0 s.1)) (λ next. walked_along draft pointer next s.1 tokens) (as_invalid (along_part draft along s.0 s.1))
    (λ next. walk_clear draft pointer next s.1 tokens))

pointed_clear : (draft : Draft) (pointer base : List ℕ) (value : Data) (text : List ℕ) → Clear (pointed_value draft pointer base value text)
pointed_clear draft pointer base value text =
    either (is_utf8 (percent_decode text))
    (walked_along draft pointer (record { base = base; since = [] }) value (tokens (percent_decode text))) (Err (InvalidPercentEncoding pointer))
    (walk_clear draft pointer (record { base = base; since = [] }) value (tokens (percent_decode text))) tt

-- ---- anchors

not_named_other : (name : List ℕ) (b : Bool) → Other (cond b (InvalidAnchor name) (NoSuchAnchor name))
not_named_other name true = tt
not_named_other name false = tt

anchor_clear : (world : World) (uri name : List ℕ) → Clear (anchor world uri name)
unfolding anchor
anchor_clear world uri name =
    or_other (option_or (named_entry world uri name) (named_by_identifier world uri name)) (not_named name) (not_named_other name (list_any (λ c. c == 47) name))

-- of faults the first is no unretrievable URI
abbrev FirstOther : List Fault → Type 0
FirstOther [] = ⊤
FirstOther (fault ∷ more) = Other fault

faults_clear : (uri : List ℕ) (r : Result Named Fault) (rest : List Fault) → Clear r → FirstOther rest → FirstOther (fault_of (uri, r) ++ rest)
faults_clear uri (Ok n) rest clear later = later
faults_clear uri (Err (Unretrievable other source)) rest clear later = clear
faults_clear uri (Err (PointerToNowhere pointer)) rest clear later = tt
faults_clear uri (Err (InvalidPercentEncoding pointer)) rest clear later = tt
faults_clear uri (Err (InvalidArrayIndex pointer index)) rest clear later = tt
faults_clear uri (Err (NoSuchAnchor name)) rest clear later = later
faults_clear uri (Err (InvalidAnchor name)) rest clear later = tt
faults_clear uri (Err (InvalidUri refusal)) rest clear later = tt
faults_clear uri (Err (UnknownSpecification other)) rest clear later = tt
faults_clear uri (Err (CircularMetaschema other)) rest clear later = tt
faults_clear uri (Err (RetrievalLimit other limit)) rest clear later = tt

scope_clear : (world : World) (name : List ℕ) (scope : List (List ℕ)) → FirstOther (flat_map fault_of (in_scope world name scope))
scope_clear world name [] = tt
scope_clear world name (uri ∷ scope) =
    faults_clear uri (anchor world uri name) (flat_map fault_of (in_scope world name scope)) (anchor_clear world uri name) (scope_clear world name scope)

unless_clear : {A : Type 0} (faults : List Fault) (answer : Result A Fault) → FirstOther faults → Clear answer → Clear (unless_fault faults answer)
unless_clear [] answer none clear = clear
unless_clear (fault ∷ more) answer other clear = other

entry_clear : (r : Resolver) (uri : List ℕ) (n : Named) → Clear (entry_found r (uri, n))
entry_clear r uri n =
    in_turn (as_invalid_uri (in_subresource (record r { base = uri }) n.place.draft n.place.value))
    (λ at. Ok (record { value = n.place.value; draft = n.place.draft; resolver = at }))
    (as_invalid (in_subresource (record r { base = uri }) n.place.draft n.place.value)) (λ at. tt)

dynamic_clear : (world : World) (r : Resolver) (first : Named) → Clear (dynamically world r first)
dynamic_clear world r first =
    let meanings = in_scope world first.name r.scope in
    let last = outermost (r.base, first) (flat_map entry_of meanings) in
    unless_clear (flat_map fault_of meanings) (entry_found r last) (scope_clear world first.name r.scope) (entry_clear r last.0 last.1)

named_clear : (world : World) (r : Resolver) (n : Named) (kind : Kind) → Clear (named_found world r n kind)
named_clear world r n Plain = tt
named_clear world r n Dynamic = dynamic_clear world r n

fragment_clear : (world : World) (r : Resolver) (p : Place) (text : List ℕ) → Clear (at_fragment world r p text)
fragment_clear world r p [] = tt
fragment_clear world r p (c ∷ text) =
    let to = pointed_value p.draft (c ∷ text) r.base p.value text in
    let n = anchor world r.base (c ∷ text) in
    either (c == 47) (to >>= λ found. Ok (pointer_found r p.draft found)) (n >>= λ entry. named_found world r entry entry.kind)
    (in_turn to (λ found. Ok (pointer_found r p.draft found)) (pointed_clear p.draft (c ∷ text) r.base p.value text) (λ found. tt))
    (in_turn n (λ entry. named_found world r entry entry.kind) (anchor_clear world r.base (c ∷ text)) (λ entry. named_clear world r entry entry.kind))

-- ---- wants

fail_step : (p : Want → Bool) (w : Want) (ws : List Want) (b : Bool) → p w ≡ b → cond b (w ∷ filter p ws) (filter p ws) ≡ [] → (filter p ws ≡ [] → All (λ v. p v ≡ false) ws) → All (λ v. p v ≡ false) (w ∷ ws)
fail_step p w ws true is none later = absurd (let e : w ∷ filter p ws ≡ [] = none in cc)
fail_step p w ws false is none later = All-cons (λ v. p v ≡ false) w ws is (later none)

all_fail : (p : Want → Bool) (ws : List Want) → filter p ws ≡ [] → All (λ v. p v ≡ false) ws
all_fail p [] none = All-nil _
all_fail p (w ∷ ws) none = fail_step p w ws (p w) refl none (all_fail p ws)

found_there : (o : Option Place) → not (is_some o) ≡ false → (p : Place) × (o ≡ Some p)
found_there None shut = absurd (true≢false shut)
found_there (Some p) shut = (p, refl)

meant : (layer : Layer) (parents : World) (want : Want) → open_wants (layer ∷ parents) layer ≡ [] → Contains (wants layer) want → (p : Place) × (meant_place (layer ∷ parents) want.uri ≡ Some p)
meant layer parents want none within =
    found_there (meant_place (layer ∷ parents) want.uri)
    (subst (λ w. is_open (layer ∷ parents) w ≡ false) within.2 (all_fail (is_open (layer ∷ parents)) (wants layer) none within.0 want within.1))

wanted_there : (place : Place) (base reference uri : List ℕ) → place.base ≡ Ok base → text_under (codes "$ref") place.value ≡ Some reference → target base reference ≡ Ok uri → Contains (wants_at place.base place.value) (record { cause = Reference; uri = uri })
wanted_there place base reference uri based says leads =
    let at : reference_at base place.value ≡ Some (Ok uri) = ap (option_map (target base)) says ∙ ap (λ t. Some t) leads in
    subst (λ b. Contains (wants_at b place.value) (record { cause = Reference; uri = uri })) (sym based)
    (subst (λ o. Contains (wants_of_text Reference o ++ wants_of_text MetaSchema (schema_at place.value)) (record { cause = Reference; uri = uri })) (sym at) (0, omega arith, refl))

lookup_clear : (world : World) (r : Resolver) (reference : List ℕ) (t : Result (List ℕ) Refusal) → target r.base reference ≡ t
    → ((uri : List ℕ) → t ≡ Ok uri → (p : Place) × (meant_place world uri ≡ Some p)) → Clear (lookup world r reference)
unfolding lookup
lookup_clear world r reference (Err refusal) is found = rw is tt
lookup_clear world r reference (Ok uri) is found =
    let there = found uri refl in
    rw (is, there.1) (fragment_clear world (moved_resolver r uri) there.0 (fragment_part reference))

pub references_are_retrieved : (layer : Layer) (parents : World) (d : Document) (place : Place) (resolver : Resolver) (reference : List ℕ)
    → open_wants (layer ∷ parents) layer ≡ []
    → Contains layer d → Contains (places d) place → place.base ≡ Ok resolver.base → text_under (codes "$ref") place.value ≡ Some reference
    → (uri source : List ℕ) → ¬ (lookup (layer ∷ parents) resolver reference ≡ Err (Unretrievable uri source))
references_are_retrieved layer parents d place resolver reference none own are_at_paths based says uri source is =
    subst Clear is
    (lookup_clear (layer ∷ parents) resolver reference (target resolver.base reference) refl
    (λ to leads. meant layer parents (record { cause = Reference; uri = to }) none
    (in_joined (λ e. flat_map (λ p. wants_at p.base p.value) (places e)) layer d (record { cause = Reference; uri = to }) own
    (in_joined (λ p. wants_at p.base p.value) (places d) place (record { cause = Reference; uri = to }) are_at_paths
    (wanted_there place resolver.base reference to based says leads)))))
