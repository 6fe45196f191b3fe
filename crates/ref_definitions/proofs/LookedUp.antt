-- What holds of the value of each place, and goes from a value to its parts, holds of what is looked up; so that is a part of a
-- document.
use Rattle.std.proofs.Common.{◌≡◌, ℕ, zero, suc, eqb, List, [], ◌∷◌, ◌++◌, flat_map, map, filter, take, Option, Some, None, IfSome, option_map, option_and_then, bytes_eq, codes, Result, Ok, Err, IfOk, ok_or, refl, ap, subst, ◌∙◌}
use Rattle.std.specs.List.{AllByRecursion, Contains, last_or, take_while, prefix_len}
use Rattle.std.specs.Option.{option_map_or, option_to_list}
use Rattle.std.specs.Result.{result_ok}
use Rattle.serde_json.specs.Data.{Data}
use Rattle.ref_paths.specs.Path.{Part, child_at, value_at}
use Rattle.ref_draft.specs.declared.draft.Draft.{Draft}
use Rattle.ref_draft.specs.Anchors.{Kind, Plain, Dynamic, anchors}
use Rattle.ref_draft.specs.UniqueKeys.{HasUniqueKeys}
use Rattle.ref_draft.proofs.Lists.{all_append, all_filter, all_map}
use Rattle.ref_uri.specs.Targets.{Refusal, target, fragment_part}
use Rattle.ref_definitions.specs.World.{Document, Layer, World}
use Rattle.ref_definitions.specs.Places.{Place, root, places}
use Rattle.ref_definitions.specs.Resources.{own_uri, resource_of, resources_in, resources, last_under, meant_place}
use Rattle.ref_definitions.specs.Anchors.{Named, named_under, named_at, names_in, names, last_named, named_entry, named_by_identifier, not_named, anchor}
use Rattle.ref_definitions.specs.Fault.{Fault, as_invalid_uri, not_retrieved}
use Rattle.ref_definitions.specs.Bases.{Along}
use Rattle.ref_definitions.specs.Pointers.{pointed_value}
use Rattle.ref_definitions.specs.Lookup.{Resolver, Found, moved_resolver, in_subresource, in_scope, fault_of, entry_of, is_dynamic, unless_fault, entry_found, outermost, dynamically, named_found, pointer_found, at_fragment, lookup}
use Rattle.ref_definitions.specs.Recursive.{is_marked, answers_marked, looked_up, after_beginning, unless_fault_after, outermost_marked, lookup_recursive}
use Rattle.ref_definitions.specs.Agreement.{ChildrenAreThere}
use Rattle.ref_definitions.specs.Parts.{IsPartOf, AllDocuments, AllChildrenAreThere, AllHaveUniqueKeys}
use Rattle.ref_definitions.proofs.Lists.{each_in, all_of, all_joined, last_of_all}
use Rattle.ref_definitions.proofs.Options.{if_ok_by, if_bound, if_any, if_ok_or, if_chosen, some_any, some_either, unwrapped}
use Rattle.ref_definitions.proofs.Changes.{value_at-append, pointer_leads}
use Rattle.ref_definitions.proofs.Differ.{children_of_places_are_there}
use Rattle.ref_definitions.proofs.Standing.{all_are_there_where}

-- it holds of the value of each place of a document
abbrev pub HoldsInPlaces : (Data → Type 0) → Document → Type 0
HoldsInPlaces P d = AllByRecursion (λ p. P p.value) (places d)

-- it goes from a value to each of its parts
abbrev pub GoesToParts : (Data → Type 0) → Type 0
GoesToParts P = (value there : Data) (part : Part) → child_at value part ≡ Some there → P value → P there

module _ (P : Data → Type 0) (next : GoesToParts P) where
  abbrev OfPlace : Place → Type 0
  OfPlace p = P p.value

  -- ---- resources

  abbrev OfEntry : List ℕ × Place → Type 0
  OfEntry e = P e.1.value

  of_entry : (p : Place) (o : Option (List ℕ)) → OfPlace p → AllByRecursion OfEntry (option_to_list (option_map (λ uri. (uri, p)) o))
  of_entry p None h = tt
  of_entry p (Some uri) h = (h, tt)

  of_resources : (layer : Layer) → AllByRecursion (HoldsInPlaces P) layer → AllByRecursion OfEntry (resources layer)
  of_resources layer each =
      all_joined (HoldsInPlaces P) OfEntry resources_in layer (λ d h. (h.0, all_joined OfPlace OfEntry resource_of (places d) (λ p q. of_entry p (own_uri p) q) h)) each

  nearest : (o : Option (List ℕ × Place)) (rest : Option Place) → IfSome o OfEntry → IfSome rest OfPlace → IfSome (option_map_or (λ e. Some e.1) o rest) OfPlace
  nearest None rest h more = more
  nearest (Some e) rest h more = h

  of_meaning : (world : World) (uri : List ℕ) → AllDocuments (HoldsInPlaces P) world → IfSome (meant_place world uri) OfPlace
  of_meaning [] uri each = tt
  of_meaning (layer ∷ world) uri each =
      nearest (last_under uri (resources layer)) (meant_place world uri)
      (last_of_all OfEntry None _ tt (all_filter OfEntry (λ e. bytes_eq e.0 uri) (resources layer) (of_resources layer each.0)))
      (of_meaning world uri each.1)

  -- ---- anchors

  abbrev OfNamed : Named → Type 0
  OfNamed n = P n.place.value

  of_names : (uri : List ℕ) (p : Place) (ns : List (List ℕ × Kind)) → OfPlace p → AllByRecursion OfNamed (map (λ a. record { uri = uri; name = a.0; kind = a.1; place = p }) ns)
  of_names uri p [] h = tt
  of_names uri p (n ∷ ns) h = (h, of_names uri p ns h)

  of_names_at : (p : Place) (base : Result (List ℕ) Refusal) → OfPlace p → AllByRecursion OfNamed (option_map_or (λ b. named_under b p) (result_ok base) [])
  of_names_at p (Ok base) h = of_names base p (anchors p.draft p.value) h
  of_names_at p (Err refusal) h = tt

  of_layer_names : (layer : Layer) → AllByRecursion (HoldsInPlaces P) layer → AllByRecursion OfNamed (names layer)
  of_layer_names layer each =
      all_joined (HoldsInPlaces P) OfNamed names_in layer
      (λ d h. all_append OfNamed (named_under d.uri (root d)) (flat_map named_at (places d)) (of_names d.uri (root d) (anchors d.draft d.tree) h.0)
      (all_joined OfPlace OfNamed named_at (places d) (λ p q. of_names_at p p.base q) h))
      each

  of_named_entry : (world : World) (uri name : List ℕ) → AllDocuments (HoldsInPlaces P) world → IfSome (named_entry world uri name) OfNamed
  of_named_entry [] uri name each = tt
  of_named_entry (layer ∷ world) uri name each =
      some_either OfNamed (last_named uri name (names layer)) (named_entry world uri name)
      (last_of_all OfNamed None _ tt (all_filter OfNamed _ (names layer) (of_layer_names layer each.0)))
      (of_named_entry world uri name each.1)

  of_anchor : (world : World) (uri name : List ℕ) → AllDocuments (HoldsInPlaces P) world → IfOk (anchor world uri name) OfNamed
  unfolding anchor
  of_anchor world uri name each =
      if_ok_or OfNamed _ (not_named name)
      (some_either OfNamed (named_entry world uri name) (named_by_identifier world uri name) (of_named_entry world uri name each)
      (some_any OfNamed (option_and_then own_uri (meant_place world uri)) (λ own. named_entry world own name) (λ own. of_named_entry world own name each)))

  -- ---- pointers

  by_child : (value found : Data) (part : Part) (path : List Part) (o : Option Data) → child_at value part ≡ o → P value → ((there : Data) → value_at there path ≡ Some found → P there → P found)
      → option_and_then (λ e. value_at e path) o ≡ Some found → P found
  by_child value found part path None child h along leads = absurd (cc)
  by_child value found part path (Some there) child h along leads = along there leads (next value there part child h)

  along_path : (value found : Data) (path : List Part) → value_at value path ≡ Some found → P value → P found
  along_path value found [] is h = let same : value ≡ found = cc in subst P same h
  along_path value found (part ∷ path) is h =
      by_child value found part path (child_at value part) refl h (λ there leads goes_on. along_path there found path leads goes_on) is

  of_pointer : (draft : Draft) (pointer base : List ℕ) (value : Data) (text : List ℕ) → P value → IfOk (pointed_value draft pointer base value text) (λ to. P to.0)
  of_pointer draft pointer base value text h =
      if_ok_by (λ to. P to.0) (pointed_value draft pointer base value text)
      (λ to is. let leads = pointer_leads draft pointer base text value to.0 to.1 is in along_path value to.0 leads.path leads.there h)

  -- ---- look-ups

  abbrev OfFound : Found → Type 0
  OfFound found = P found.value

  of_meanings : (world : World) (name uri : List ℕ) (r : Result Named Fault) → IfOk r OfNamed → AllByRecursion (λ e. OfNamed e.1) (entry_of (uri, r))
  of_meanings world name uri (Ok n) h = (h, tt)
  of_meanings world name uri (Err fault) h = tt

  of_scope : (world : World) (name : List ℕ) (scope : List (List ℕ)) → AllDocuments (HoldsInPlaces P) world → AllByRecursion (λ e. OfNamed e.1) (flat_map entry_of (in_scope world name scope))
  of_scope world name [] each = tt
  of_scope world name (uri ∷ scope) each =
      all_append (λ e. OfNamed e.1) (entry_of (uri, anchor world uri name)) (flat_map entry_of (in_scope world name scope))
      (of_meanings world name uri (anchor world uri name) (of_anchor world uri name each)) (of_scope world name scope each)

  no_fault_first : (fs : List Fault) (answer : Result Found Fault) → IfOk answer OfFound → IfOk (unless_fault fs answer) OfFound
  no_fault_first [] answer h = h
  no_fault_first (fault ∷ fs) answer h = tt

  of_entry_found : (r : Resolver) (e : List ℕ × Named) → OfNamed e.1 → IfOk (entry_found r e) OfFound
  of_entry_found r (uri, n) h =
      if_any OfFound (as_invalid_uri (in_subresource (record r { base = uri }) n.place.draft n.place.value)) (λ moved_resolver. Ok (record { value = n.place.value; draft = n.place.draft; resolver = moved_resolver })) (λ moved_resolver. h)

  of_dynamic : (world : World) (r : Resolver) (n : Named) → AllDocuments (HoldsInPlaces P) world → OfNamed n → IfOk (dynamically world r n) OfFound
  of_dynamic world r n each h =
      let meanings = in_scope world n.name r.scope in
      let entries = flat_map entry_of meanings in
      let first : List ℕ × Named = (r.base, n) in
      no_fault_first (flat_map fault_of meanings) (entry_found r (outermost first entries))
      (of_entry_found r (outermost first entries)
      (unwrapped (λ e. OfNamed e.1) (last_or None (filter (λ e. is_dynamic e.1.kind) entries)) first
      (last_of_all (λ e. OfNamed e.1) None (filter (λ e. is_dynamic e.1.kind) entries) tt (all_filter (λ e. OfNamed e.1) (λ e. is_dynamic e.1.kind) entries (of_scope world n.name r.scope each))) h))

  of_kind : (world : World) (r : Resolver) (n : Named) (kind : Kind) → AllDocuments (HoldsInPlaces P) world → OfNamed n → IfOk (named_found world r n kind) OfFound
  of_kind world r n Plain each h = h
  of_kind world r n Dynamic each h = of_dynamic world r n each h

  by_pointer : (r : Resolver) (draft : Draft) (to : Data × Along) → P to.0 → OfFound (pointer_found r draft to)
  by_pointer r draft (value, along) h = h

  of_fragment : (world : World) (r : Resolver) (p : Place) (text : List ℕ) → AllDocuments (HoldsInPlaces P) world → OfPlace p → IfOk (at_fragment world r p text) OfFound
  of_fragment world r p [] each h = h
  of_fragment world r p (c ∷ text) each h =
      if_chosen OfFound (eqb c 47) _ _
      (if_bound (λ to. P to.0) OfFound (pointed_value p.draft (c ∷ text) r.base p.value text) (λ to. Ok (pointer_found r p.draft to)) (of_pointer p.draft (c ∷ text) r.base p.value text h) (λ to q. by_pointer r p.draft to q))
      (if_bound OfNamed OfFound (anchor world r.base (c ∷ text)) (λ n. named_found world r n n.kind) (of_anchor world r.base (c ∷ text) each) (λ n q. of_kind world r n n.kind each q))

  pub of_lookup : (world : World) (r : Resolver) (reference : List ℕ) → AllDocuments (HoldsInPlaces P) world → IfOk (lookup world r reference) (λ found. P found.value)
  unfolding lookup
  of_lookup world r reference each =
      if_any OfFound (as_invalid_uri (target r.base reference)) _
      (λ uri. if_bound OfPlace OfFound (ok_or (meant_place world uri) (not_retrieved uri)) (λ place. at_fragment world (moved_resolver r uri) place (fragment_part reference))
      (if_ok_or OfPlace (meant_place world uri) (not_retrieved uri) (of_meaning world uri each)) (λ place h. of_fragment world (moved_resolver r uri) place (fragment_part reference) each h))

  -- ---- recursive look-ups

  abbrev OfAnswer : Result Found Fault → Type 0
  OfAnswer answer = IfOk answer OfFound

  all_taken : (n : ℕ) (answers : List (Result Found Fault)) → AllByRecursion OfAnswer answers → AllByRecursion OfAnswer (take n answers)
  all_taken zero answers each = tt
  all_taken (suc n) [] each = tt
  all_taken (suc n) (a ∷ answers) each = (each.0, all_taken n answers each.1)

  beginning : (answers : List (Result Found Fault)) → AllByRecursion OfAnswer answers → AllByRecursion OfAnswer (take_while answers_marked answers)
  beginning answers each = all_taken (prefix_len answers_marked answers) answers each

  all_looked_up : (world : World) (r : Resolver) (uris : List (List ℕ)) → AllDocuments (HoldsInPlaces P) world → AllByRecursion OfAnswer (map (λ uri. lookup world r uri) uris)
  all_looked_up world r [] each = tt
  all_looked_up world r (uri ∷ uris) each = (of_lookup world r uri each, all_looked_up world r uris each)

  no_fault_after : (rest : List (Result Found Fault)) (answer : Result Found Fault) → OfAnswer answer → OfAnswer (unless_fault_after rest answer)
  no_fault_after [] answer h = h
  no_fault_after (Ok found ∷ rest) answer h = h
  no_fault_after (Err fault ∷ rest) answer h = tt

  of_marked : (first : Result Found Fault) (answers : List (Result Found Fault)) → OfAnswer first → AllByRecursion OfAnswer answers → OfAnswer (outermost_marked first answers)
  of_marked first answers h each =
      no_fault_after (after_beginning answers) _
      (unwrapped OfAnswer (last_or None (take_while answers_marked answers)) first (last_of_all OfAnswer None (take_while answers_marked answers) tt (beginning answers each)) h)

  pub of_recursive : (world : World) (r : Resolver) → AllDocuments (HoldsInPlaces P) world → IfOk (lookup_recursive world r) (λ found. P found.value)
  unfolding lookup_recursive
  of_recursive world r each =
      if_bound OfFound OfFound (lookup world r (codes "#")) _ (of_lookup world r (codes "#") each)
      (λ first h. if_chosen OfFound (is_marked first.value) (outermost_marked (Ok first) (looked_up world r)) (Ok first) (of_marked (Ok first) (looked_up world r) h (all_looked_up world r r.scope each)) h)

-- ---- what is looked up is a part of a document

part_goes_on : (world : World) → GoesToParts (IsPartOf world)
part_goes_on world value there part child is = record {
  layer = is.layer;
  document = is.document;
  path = is.path ++ part ∷ [];
  in_world = is.in_world;
  in_layer = is.in_layer;
  there =
      value_at-append is.document.tree is.path (part ∷ []) ∙ ap (option_and_then (λ e. value_at e (part ∷ []))) is.there
      ∙ ap (option_and_then (λ e. Some e)) child;
}

-- of a document of the world
of_document : (world : World) (layer : Layer) (d : Document) → Contains world layer → Contains layer d → ChildrenAreThere d → HoldsInPlaces (IsPartOf world) d
of_document world layer d there at are_there =
    all_map (λ p. value_at d.tree p.path ≡ Some p.value) (λ p. IsPartOf world p.value) (places d)
    (λ p is. record { layer = layer; document = d; path = p.path; in_world = there; in_layer = at; there = is }) (all_are_there_where d are_there)

of_documents : (world : World) (layer : Layer) → Contains world layer → AllByRecursion ChildrenAreThere layer → AllByRecursion (HoldsInPlaces (IsPartOf world)) layer
of_documents world layer there are_there =
    all_of (HoldsInPlaces (IsPartOf world)) layer (λ d at. of_document world layer d there at (each_in ChildrenAreThere layer d are_there at))

of_world : (world : World) → AllChildrenAreThere world → AllDocuments (HoldsInPlaces (IsPartOf world)) world
of_world world are_there =
    all_of (AllByRecursion (HoldsInPlaces (IsPartOf world))) world (λ layer there. of_documents world layer there (each_in (AllByRecursion ChildrenAreThere) world layer are_there there))

if_it_is : {A E : Type 0} (P : A → Type 0) (r : Result A E) (x : A) → r ≡ Ok x → IfOk r P → P x
if_it_is P r x is h = subst (λ s. IfOk s P) is h

pub looked_up_is_part : (world : World) (r : Resolver) (reference : List ℕ) (found : Found) → AllChildrenAreThere world → lookup world r reference ≡ Ok found → IsPartOf world found.value
looked_up_is_part world r reference found are_there is =
    if_it_is (λ f. IsPartOf world f.value) (lookup world r reference) found is (of_lookup (IsPartOf world) (part_goes_on world) world r reference (of_world world are_there))

pub recursive_is_part : (world : World) (r : Resolver) (found : Found) → AllChildrenAreThere world → lookup_recursive world r ≡ Ok found → IsPartOf world found.value
recursive_is_part world r found are_there is =
    if_it_is (λ f. IsPartOf world f.value) (lookup_recursive world r) found is (of_recursive (IsPartOf world) (part_goes_on world) world r (of_world world are_there))

-- where each object has each key once, children are at their paths
pub unique_are_there : (world : World) → AllHaveUniqueKeys world → AllChildrenAreThere world
unique_are_there world unique =
    all_map (AllByRecursion (λ d. HasUniqueKeys d.tree)) (AllByRecursion ChildrenAreThere) world
    (λ layer each. all_map (λ d. HasUniqueKeys d.tree) ChildrenAreThere layer (λ d h. children_of_places_are_there d h) each) unique
