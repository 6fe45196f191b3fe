-- The URIs that a look-up from a needed place asks for are safe: its target, its base, and those of its scope.
--
-- 1. A URI that a needed place has means a place of a needed document, so it is one of the entries that the bundle keeps: so are
--    those of a scope (`safe_scope`).
-- 2. The base of a needed place is its document's URI or an identifier's, and no other place of the document has it (`safe_base`).
-- 3. The target of a reference means a place of an own document or of a parent; where it is a parent's, no own place has its URI.
-- 4. A fragment of a reference that has no problem leads to nothing that is added, at the root of an embedded document or of the bundle.
-- 5. Together: the target and the fragment mean what they meant (`safe_target`).
use Rattle.std.proofs.Common.{◌≡◌, ℕ, zero, suc, Bool, true, false, not, cond, ◌&&◌, ◌==◌, eq-eqb, eqb-true, slice_get, List, [], ◌∷◌, ◌++◌, flat_map, map, filter, codes, Option, Some, None, option_map, option_and_then, Result, Ok, bytes_eq, ◌⊎◌, inl, inr, ⊎_elim, refl, sym, ap, subst, ◌∙◌, true≢false, arith}
use Rattle.std.specs.List.{AllByRecursion, Contains, last_or}
use Rattle.std.specs.Option.{option_map_or, option_to_list}
use Rattle.std.specs.Result.{result_ok}
use Rattle.std.proofs.lemmas.Slice.Eq.{bytes_eq-Decides}
use Rattle.std.proofs.lemmas.List.Elements.{Contains-append_right, Contains-append_left, Contains-append_cases}
use Rattle.serde_json.specs.Data.{Data, depth}
use Rattle.ref_paths.specs.Path.{Part, path_eq}
use Rattle.ref_draft.specs.Schema.{text_under}
use Rattle.ref_uri.specs.Targets.{Refusal, target, fragment_part, uri_against}
use Rattle.ref_draft.proofs.Lists.{all_append}
use Rattle.ref_definitions.specs.World.{Document, Layer, World}
use Rattle.ref_definitions.specs.Places.{Place, root, identifier_of, base_within, children_of, levels_below, places}
use Rattle.ref_definitions.specs.Resources.{own_uri, resource_of, resources_in, resources, last_under, meant_place}
use Rattle.ref_definitions.proofs.Differ.{GoesOn, on_with}
use Rattle.ref_bundle.specs.Needed.{Further, counted_documents, Site, borne_in, sites_of_uris, site_under, document_under, is_among, numbers_of_needed, Reference, reference_of, reference_under, meta_schema_of, references_from, needed_documents}
use Rattle.ref_bundle.specs.Embedding.{base_uri, is_added_under}
use Rattle.ref_bundle.specs.Bundle.{Problem, ShadowedUri, AddedMember, definitions_keyword, is_site, uris_of, replaced_in, identified_from, is_name, shadowed_uri, pointer_in, key_at, second_key, added_in, embedded_problems, is_embedded_as, is_added_definition, added_definition, root_problems, reference_problems, reference_problems_by, to_embed}
use Rattle.ref_bundle_laws.specs.Kept.{IsBorneByNeeded, IsBaseOfNeeded, RefersBy}
use Rattle.ref_bundle_laws.proofs.LawEntries.{borne_by, IsFree, IsOther, AllOther, back_empty, each_none, filter_flat, other_levels, not_first, not_later}
use Rattle.ref_bundle_laws.proofs.LawEmbedded.{base_is}
use Rattle.ref_bundle.proofs.Numbers.{and_left, and_right}
use Rattle.ref_bundle_laws.proofs.LawNeeded.{is_of_another, other_number, last_none, none_of_shared, site_entry, site_bears, none_bears}
use Rattle.ref_bundle_laws.proofs.LawClosed.{root_needed, got_at, passes_kept}
use Rattle.ref_bundle_laws.proofs.LawBundled.{none_in, no_problem, not_shared}
use Rattle.ref_bundle_laws.proofs.LawFacts.{IsMade, root_base, root_counted, needed_counted, embedded_needed, base_borne}
use Rattle.ref_bundle_laws.proofs.LawClear.{Stays, clear_borne, clear_free, IsClearReference, clear_reference}
use Rattle.ref_bundle_laws.proofs.LawMeaning.{IsClear, no_entries_were}
use Rattle.ref_bundle_laws.proofs.LawAnchors.{own_base, IsSafe, none_bear, last_is}
use Rattle.ref_bundle_laws.proofs.LawPointers.{IsApart}
use Rattle.ref_definitions.proofs.Lists.{first_or_later, in_joined, each_in, in_one_of}

-- ---- paths of places below a root

no_end : (path : List Part) (part : Part) (rest : List Part) → ¬ (path ++ part ∷ rest ≡ [])
no_end [] part rest is = let e : part ∷ rest ≡ [] = is in cc
no_end (x ∷ path) part rest is = let e : x ∷ (path ++ part ∷ rest) ≡ [] = is in cc

all_longer : (path : List Part) (qs : List Place) → AllByRecursion (λ q. GoesOn path q.path) qs → AllByRecursion (λ q. ¬ (q.path ≡ [])) qs
all_longer path [] on = tt
all_longer path (q ∷ qs) on = ((λ is. no_end path on.0.part on.0.rest (sym on.0.is ∙ is)), all_longer path qs on.1)

level_longer : (ps : List Place) → AllByRecursion (λ q. ¬ (q.path ≡ [])) (flat_map children_of ps)
level_longer [] = tt
level_longer (p ∷ ps) = all_append (λ q. ¬ (q.path ≡ [])) (children_of p) (flat_map children_of ps) (all_longer p.path (children_of p) (on_with p p.base)) (level_longer ps)

levels_longer : (n : ℕ) (ps : List Place) → AllByRecursion (λ q. ¬ (q.path ≡ [])) (levels_below n ps)
levels_longer zero ps = tt
levels_longer (suc n) ps = all_append (λ q. ¬ (q.path ≡ [])) (flat_map children_of ps) (levels_below n (flat_map children_of ps)) (level_longer ps) (levels_longer n (flat_map children_of ps))

-- ---- a place that has a URI

own_listed : (o : Option (List ℕ)) (uri : List ℕ) → Contains (option_to_list o) uri → o ≡ Some uri
own_listed None uri there = absurd (omega (arith, there.1))
own_listed (Some u) uri there = ⊎_elim (λ same. ap (λ v. Some v) same) (λ later. absurd (omega (arith, later.1))) (first_or_later u [] uri there)

own_front : (d : Document) (p : Place) (uri : List ℕ) (b : Bool) → Contains (cond b (d.uri ∷ []) []) uri → d.uri ≡ uri
own_front d p uri true there = ⊎_elim (λ same. same) (λ later. absurd (omega (arith, later.1))) (first_or_later d.uri [] uri there)
own_front d p uri false there = absurd (omega (arith, there.1))

-- its document's URI, or its own
borne_as : (d : Document) (p : Place) (uri : List ℕ) → Contains (uris_of d p) uri → (d.uri ≡ uri) ⊎ (own_uri p ≡ Some uri)
borne_as d p uri there =
    ⊎_elim
    (λ front. inl (own_front d p uri (path_eq p.path []) front))
    (λ back. inr (own_listed (own_uri p) uri back))
    (Contains-append_cases (cond (path_eq p.path []) (d.uri ∷ []) []) (option_to_list (own_uri p)) uri there)

not_other : (uri : List ℕ) (r : Result (List ℕ) Refusal) → r ≡ Ok uri → ¬ (IsOther uri r)
not_other uri r is other = true≢false (sym ((bytes_eq-Decides uri uri).1 refl) ∙ subst (IsOther uri) is other)

not_free : (d : Document) (p : Place) (uri : List ℕ) → Contains (places d) p → Contains (uris_of d p) uri → ¬ (IsFree uri d)
not_free d p uri there bears free_ =
    ⊎_elim
    (λ own. true≢false (sym ((bytes_eq-Decides d.uri uri).1 own) ∙ free_.entry))
    (λ own. not_other uri p.base (own_base uri p own) (each_in (λ q. IsOther uri q.base) (places d) p free_.bases there))
    (borne_as d p uri bears)

-- so a URI that a needed place has has an entry
has_entry : (layer : Layer) (fs : Further) (n : ℕ) (x : ℕ × Document) (p : Place) (uri : List ℕ) → Contains (needed_documents layer fs n) x → Contains (places x.1) p → Contains (uris_of x.1 p) uri → ¬ (last_under uri (resources layer) ≡ None)
has_entry layer fs n x p uri need there bears none =
    not_free x.1 p uri there bears (each_in (λ e. IsFree uri e.1) (counted_documents 0 layer) x (none_bear layer uri none) (needed_counted layer fs n x need))

safe_borne : (layer : Layer) (fs : Further) (parents : World) (n : ℕ) (top : Document) → IsMade layer fs n top → (x : ℕ × Document) (p : Place) (uri : List ℕ) → Contains (needed_documents layer fs n) x → Contains (places x.1) p → Contains (uris_of x.1 p) uri
    → Stays n x uri → IsSafe layer fs parents n top uri
safe_borne layer fs parents n top is x p uri need there bears stays = record {
  clear = clear_borne layer fs n top is x p uri need there bears stays;
  outside = λ q other none means_ own. absurd (has_entry layer fs n x p uri need there bears none);
}

pub safe_scope : (layer : Layer) (fs : Further) (parents : World) (n : ℕ) (top : Document) → IsMade layer fs n top → (uri : List ℕ) → IsBorneByNeeded layer fs n uri → IsSafe layer fs parents n top uri
safe_scope layer fs parents n top is uri one =
    safe_borne layer fs parents n top is one.document one.place uri one.needed one.there one.bears
    (λ other own. (bytes_eq-Decides (base_uri one.document.1) uri).1 (one.stays ((bytes_eq-Decides one.document.1.uri uri).0 own)))

-- ---- the base of a needed place

no_path : (path : List Part) → path_eq path [] ≡ true → path ≡ []
no_path [] is = refl
no_path (part ∷ path) is = absurd (true≢false (sym is))

-- of entries of one URI in one document none is of another place
same_path : (uri : List ℕ) (k : ℕ) (r : List ℕ × Place) (rs : List (List ℕ × Place)) → filter (is_of_another uri (k, [])) (map (λ (x : List ℕ × Place). (x.0, (k, x.1.path))) rs) ≡ [] → Contains rs r → r.0 ≡ uri → r.1.path ≡ []
same_path uri k r [] none there is = absurd (omega (arith, there.1))
same_path uri k r (x ∷ rs) none there is =
    let rest = filter (is_of_another uri (k, [])) (map (λ (y : List ℕ × Place). (y.0, (k, y.1.path))) rs) in
    let first = not_first (x.0, (k, x.1.path)) rest (is_of_another uri (k, []) (x.0, (k, x.1.path))) none in
    ⊎_elim
    (λ own. by_first r.1.path
    (sym (ap (λ b. b && not ((k == k) && path_eq r.1.path [])) ((bytes_eq-Decides r.0 uri).1 is))
    ∙ subst (λ (y : List ℕ × Place). is_of_another uri (k, []) (y.0, (k, y.1.path)) ≡ false) own first))
    (λ later. same_path uri k r rs (not_later (x.0, (k, x.1.path)) rest (is_of_another uri (k, []) (x.0, (k, x.1.path))) none) later is)
    (first_or_later x rs r there)
  where
    by_both : (path : List Part) (b c : Bool) → b ≡ true → path_eq path [] ≡ c → not (b && c) ≡ false → path ≡ []
    by_both path true true number same other = no_path path same
    by_both path true false number same other = absurd (true≢false other)
    by_both path false c number same other = absurd (true≢false (sym number))

    by_first : (path : List Part) → not ((k == k) && path_eq path []) ≡ false → path ≡ []
    by_first path other = by_both path (k == k) (path_eq path []) (eq-eqb k k refl) refl other

-- where the document's URI is another than its base, no place of it has it by an identifier
no_alias_borne : (layer : Layer) (fs : Further) (n : ℕ) (top : Document) → IsMade layer fs n top → (x : ℕ × Document) (q : Place) (uri : List ℕ) → Contains (needed_documents layer fs n) x → Contains (places x.1) q → own_uri q ≡ Some uri → x.1.uri ≡ uri → base_uri x.1 ≡ uri
no_alias_borne layer fs n top is x q uri need there own alias =
    let d = x.1 in
    let root_bears : Contains (uris_of d (root d)) uri = (0, omega arith, alias) in
    let none = not_shared layer fs is.world (n, top) x (root d) uri (no_problem layer fs is.world n top x (root d) (none_in layer fs is.world n top x is.unrefused need) (0, omega arith, refl)) root_bears in
    let filtered = last_none (filter (is_of_another uri (x.0, [])) (sites_of_uris layer)) (none_of_shared (sites_of_uris layer) (last_or None (filter (is_of_another uri (x.0, [])) (sites_of_uris layer))) uri none) in
    let here : filter (is_of_another uri (x.0, [])) (borne_in x) ≡ [] =
    each_in (λ e. filter (is_of_another uri (x.0, [])) (borne_in e) ≡ []) (counted_documents 0 layer) x
    (each_none (λ e. filter (is_of_another uri (x.0, [])) (borne_in e)) (counted_documents 0 layer) (sym (filter_flat (is_of_another uri (x.0, [])) borne_in (counted_documents 0 layer)) ∙ filtered)) (needed_counted layer fs n x need) in
    let entry : Contains (resources_in d) (uri, q) =
    Contains-append_right ((d.uri, root d) ∷ []) (flat_map resource_of (places d)) (uri, q)
    (in_joined resource_of (places d) q (uri, q) there (subst (λ o. Contains {X = List ℕ × Place} (option_to_list (option_map (λ u. (u, q)) o)) (uri, q)) (sym own) (0, omega arith, refl))) in
    let path = same_path uri x.0 (uri, q) (resources_in d) here entry refl in
    ⊎_elim
    (λ is_root. base_is d uri (ap (λ (p : Place). p.base) is_root ∙ own_base uri q own))
    (λ below. absurd (each_in (λ p. ¬ (p.path ≡ [])) (levels_below (depth d.tree) (root d ∷ [])) q (levels_longer (depth d.tree) (root d ∷ [])) below path))
    (first_or_later (root d) (levels_below (depth d.tree) (root d ∷ [])) q there)

own_by_entry : (uri : List ℕ) (q : Place) (e : List ℕ × Place) (o : Option (List ℕ)) → own_uri q ≡ o → Contains {X = List ℕ × Place} (option_to_list (option_map (λ u. (u, q)) o)) e → bytes_eq e.0 uri ≡ true → own_uri q ≡ Some uri
own_by_entry uri q e None is there same = absurd (omega (arith, there.1))
own_by_entry uri q e (Some u) is there same =
    ⊎_elim
    (λ one. is ∙ ap (λ (x : List ℕ × Place). Some x.0) one ∙ ap (λ v. Some v) ((bytes_eq-Decides e.0 uri).0 same))
    (λ later. absurd (omega (arith, later.1)))
    (first_or_later (u, q) [] e there)

base_by : (layer : Layer) (fs : Further) (parents : World) (n : ℕ) (top : Document) → IsMade layer fs n top → (x : ℕ × Document) (p : Place) (base : List ℕ) → Contains (needed_documents layer fs n) x → Contains (places x.1) p → p.base ≡ Ok base
    → (es : List (List ℕ × Place)) → flat_map (borne_by base) (places x.1) ≡ es → (b : Bool) → bytes_eq (base_uri x.1) base ≡ b → IsSafe layer fs parents n top base
base_by layer fs parents n top is x p base need there has es bears true own =
    let same : base_uri x.1 ≡ base = (bytes_eq-Decides (base_uri x.1) base).0 own in
    let root_has : (root x.1).base ≡ Ok base = root_base layer x is.no_fault (needed_counted layer fs n x need) ∙ ap (λ u. Ok u) same in
    safe_borne layer fs parents n top is x (root x.1) base need (0, omega arith, refl) (base_borne x.1 base root_has) (λ other alias. own)
base_by layer fs parents n top is x p base need there has [] bears false own =
    let none = each_none (borne_by base) (places x.1) bears in
    let root_other : IsOther base (root x.1).base = subst (IsOther base) (sym (root_base layer x is.no_fault (needed_counted layer fs n x need))) own in
    let all : AllOther base (places x.1) = (root_other, other_levels (depth x.1.tree) base (root x.1 ∷ []) (root_other, tt) none.1) in
    absurd (not_other base p.base has (each_in (λ q. IsOther base q.base) (places x.1) p all there))
base_by layer fs parents n top is x p base need there has (e ∷ es) bears false own =
    let in_all : Contains (flat_map (borne_by base) (places x.1)) e = subst (λ l. Contains l e) (sym bears) (0, omega arith, refl) in
    let of_place = in_one_of (borne_by base) (places x.1) e in_all in
    let kept = passes_kept (λ (y : List ℕ × Place). bytes_eq y.0 base) (resource_of of_place.0) e of_place.2 in
    let borne_ = own_by_entry base of_place.0 e (own_uri of_place.0) refl kept.0 kept.1 in
    safe_borne layer fs parents n top is x of_place.0 base need of_place.1
    (Contains-append_right (cond (path_eq of_place.0.path []) (x.1.uri ∷ []) []) (option_to_list (own_uri of_place.0)) base (subst (λ o. Contains (option_to_list o) base) (sym borne_) (0, omega arith, refl)))
    (λ other alias. (bytes_eq-Decides (base_uri x.1) base).1 (no_alias_borne layer fs n top is x of_place.0 base need of_place.1 borne_ ((bytes_eq-Decides x.1.uri base).0 alias)))

pub safe_base : (layer : Layer) (fs : Further) (parents : World) (n : ℕ) (top : Document) → IsMade layer fs n top → (x : ℕ × Document) (p : Place) (base : List ℕ) → Contains (needed_documents layer fs n) x → Contains (places x.1) p → p.base ≡ Ok base → IsSafe layer fs parents n top base
safe_base layer fs parents n top is x p base need there has =
    base_by layer fs parents n top is x p base need there has (flat_map (borne_by base) (places x.1)) refl (bytes_eq (base_uri x.1) base) refl

-- ---- the base of a further place

some_or : {X : Type 0} (o : Option X) (rest : Option Place) (f : X → Place) → option_map_or (λ x. Some (f x)) o rest ≡ None → (o ≡ None) × (rest ≡ None)
some_or None rest f is = (refl, is)
some_or (Some x) rest f is = absurd (let e : Some (f x) ≡ None = is in cc)

-- one that no place has
safe_unborne : (layer : Layer) (fs : Further) (parents : World) (n : ℕ) (top : Document) → IsMade layer fs n top → (base : List ℕ) → meant_place (layer ∷ parents) base ≡ None → IsSafe layer fs parents n top base
safe_unborne layer fs parents n top is base nothing =
    let both = some_or (last_under base (resources layer)) (meant_place parents base) (λ (e : List ℕ × Place). e.1) nothing in
    record {
      clear = clear_free layer fs n top is base (none_bear layer base both.0);
      outside = λ p other none of_parent own. absurd (let e : None ≡ Some p = sym both.1 ∙ of_parent in cc);
    }

pub safe_known : (layer : Layer) (fs : Further) (parents : World) (n : ℕ) (top : Document) → IsMade layer fs n top → (base : List ℕ) → IsBaseOfNeeded layer fs parents n base → IsSafe layer fs parents n top base
safe_known layer fs parents n top is base (inl borne_) = safe_scope layer fs parents n top is base borne_
safe_known layer fs parents n top is base (inr nothing) = safe_unborne layer fs parents n top is base nothing

-- ---- the target of a reference

listed_there : (o : Option Reference) (r : Reference) → o ≡ Some r → Contains (option_to_list o) r
listed_there o r is = subst (λ p. Contains (option_to_list p) r) (sym is) (0, omega arith, refl)

under_key : (key base uri reference : List ℕ) (value : Data) → text_under key value ≡ Some reference → target base reference ≡ Ok uri → reference_under key base value ≡ Some (record { uri = uri; fragment = fragment_part reference })
under_key key base uri reference value there means_ =
    let given : Result (List ℕ) Refusal → Option Reference = λ t. option_map (λ u. record { uri = u; fragment = fragment_part reference }) (result_ok t) in
    ap (option_and_then (reference_of base)) there ∙ ap given means_

pub reference_there : (given : Result (List ℕ) Refusal) (value : Data) (base uri reference : List ℕ) → given ≡ Ok base → RefersBy value reference → target base reference ≡ Ok uri → Contains (references_from given value) (record { uri = uri; fragment = fragment_part reference })
reference_there given value base uri reference has (inl plain) means_ =
    let r : Reference = record { uri = uri; fragment = fragment_part reference } in
    let first = option_to_list (reference_under (codes "$ref") base value) in
    let second = option_to_list (reference_under (codes "$dynamicRef") base value) in
    subst (λ b. Contains (references_from b value) r) (sym has)
    (Contains-append_left (first ++ second) (option_to_list (meta_schema_of value)) r
    (Contains-append_left first second r (listed_there (reference_under (codes "$ref") base value) r (under_key (codes "$ref") base uri reference value plain means_))))
reference_there given value base uri reference has (inr dynamic) means_ =
    let r : Reference = record { uri = uri; fragment = fragment_part reference } in
    let first = option_to_list (reference_under (codes "$ref") base value) in
    let second = option_to_list (reference_under (codes "$dynamicRef") base value) in
    subst (λ b. Contains (references_from b value) r) (sym has)
    (Contains-append_left (first ++ second) (option_to_list (meta_schema_of value)) r
    (Contains-append_right first second r (listed_there (reference_under (codes "$dynamicRef") base value) r (under_key (codes "$dynamicRef") base uri reference value dynamic means_))))

-- ---- a place of a parent that a URI means

same_base : (uri : List ℕ) (id : Option (List ℕ)) → option_and_then (λ i. result_ok (uri_against uri i)) id ≡ option_and_then (λ i. result_ok (base_within uri id)) id
same_base uri None = refl
same_base uri (Some id) = refl

entry_of : (uri : List ℕ) (p q : Place) (o : Option (List ℕ)) → Contains {X = List ℕ × Place} (option_to_list (option_map (λ u. (u, q)) o)) (uri, p) → (o ≡ Some uri) × (q ≡ p)
entry_of uri p q None there = absurd (omega (arith, there.1))
entry_of uri p q (Some u) there =
    ⊎_elim
    (λ one. (ap (λ (e : List ℕ × Place). Some e.0) one, ap (λ (e : List ℕ × Place). e.1) one))
    (λ later. absurd (omega (arith, later.1)))
    (first_or_later (u, q) [] (uri, p) there)

-- its own URI is that one, or what its identifier gives against it: then it is a root
named_in : (d : Document) (uri other : List ℕ) (p : Place) → Contains (resources_in d) (uri, p) → own_uri p ≡ Some other → (other ≡ uri) ⊎ (identified_from uri p ≡ Some other)
named_in d uri other p there own =
    ⊎_elim
    (λ one.
    inr (ap (λ u. identified_from u p) (sym (ap (λ (e : List ℕ × Place). e.0) one))
    ∙ sym (ap (identified_from d.uri) (ap (λ (e : List ℕ × Place). e.1) one))
    ∙ same_base d.uri (identifier_of (root d))
    ∙ ap (λ (e : List ℕ × Place). own_uri e.1) one ∙ own))
    (λ later.
    let of_place = in_one_of resource_of (places d) (uri, p) later in
    let entry = entry_of uri p of_place.0 (own_uri of_place.0) of_place.2 in
    let both : Some other ≡ Some uri = sym own ∙ ap own_uri (sym entry.1) ∙ entry.0 in
    inl (let same : other ≡ uri = cc in same))
    (first_or_later (d.uri, root d) (flat_map resource_of (places d)) (uri, p) there)

named_by : (uri other : List ℕ) (p : Place) (layer : Layer) (parents : World) (o : Option (List ℕ × Place)) → last_under uri (resources layer) ≡ o → option_map_or (λ (e : List ℕ × Place). Some e.1) o (meant_place parents uri) ≡ Some p → own_uri p ≡ Some other
    → (meant_place parents uri ≡ Some p → (other ≡ uri) ⊎ (identified_from uri p ≡ Some other)) → (other ≡ uri) ⊎ (identified_from uri p ≡ Some other)
named_by uri other p layer parents None last is own later = later is
named_by uri other p layer parents (Some e) last is own later =
    let kept = last_is (λ (x : List ℕ × Place). bytes_eq x.0 uri) (resources layer) e last in
    let of_document = in_one_of resources_in layer e kept.there in
    let place : e.1 ≡ p = cc in
    let uris : e.0 ≡ uri = (bytes_eq-Decides e.0 uri).0 kept.passes in
    named_in of_document.0 uri other p (subst (λ u. Contains (resources_in of_document.0) (u, p)) uris (subst (λ x. Contains (resources_in of_document.0) (e.0, x)) place of_document.2)) own

parent_named : (parents : World) (uri other : List ℕ) (p : Place) → meant_place parents uri ≡ Some p → own_uri p ≡ Some other → (other ≡ uri) ⊎ (identified_from uri p ≡ Some other)
parent_named [] uri other p is own = absurd (let e : None ≡ Some p = is in cc)
parent_named (layer ∷ parents) uri other p is own = named_by uri other p layer parents (last_under uri (resources layer)) refl is own (λ above. parent_named parents uri other p above own)

-- ---- a URI of no own place

no_place_by : (layer : Layer) (uri : List ℕ) (o : Option Site) → last_under uri (resources layer) ≡ None → site_under layer uri ≡ o → o ≡ None
no_place_by layer uri None none is = refl
no_place_by layer uri (Some s) none is =
    let found = site_bears layer uri s is in
    absurd (not_free found.0.1 found.1 uri found.3.place found.3.bears (each_in (λ e. IsFree uri e.1) (counted_documents 0 layer) found.0 (none_bear layer uri none) found.3.document))

no_place : (layer : Layer) (uri : List ℕ) → last_under uri (resources layer) ≡ None → site_under layer uri ≡ None
no_place layer uri none = no_place_by layer uri (site_under layer uri) none refl

none_listed : {X : Type 0} (o : Option X) → option_to_list o ≡ [] → o ≡ None
none_listed None is = refl
none_listed (Some x) is = absurd (let e : x ∷ [] ≡ [] = is in cc)

none_there : (uri other : List ℕ) (o : Option Site) → option_map (λ (s : Site). ShadowedUri uri other s.0 s.1) o ≡ None → o ≡ None
none_there uri other None is = refl
none_there uri other (Some s) is = absurd (let e : Some (ShadowedUri uri other s.0 s.1) ≡ None = is in cc)

-- where a name in a place of a parent has no problem, no own place has that place's own URI
unshadowed : (layer : Layer) (fs : Further) (parents : World) (top : ℕ × Document) (r : Reference) (other : List ℕ) (p : Place) → reference_problems layer fs (layer ∷ parents) top r ≡ [] → is_name r.fragment ≡ true → last_under r.uri (resources layer) ≡ None
    → meant_place parents r.uri ≡ Some p → own_uri p ≡ Some other → last_under other (resources layer) ≡ None
unshadowed layer fs parents top r other p no_problems named none of_parent own =
    ⊎_elim
    (λ same. ap (λ u. last_under u (resources layer)) same ∙ none)
    (λ from.
    let meant : meant_place (layer ∷ parents) r.uri ≡ Some p = ap (λ o. option_map_or (λ (e : List ℕ × Place). Some e.1) o (meant_place parents r.uri)) none ∙ of_parent in
    let shadowed : shadowed_uri layer (layer ∷ parents) r ≡ None =
    none_listed (shadowed_uri layer (layer ∷ parents) r) (sym (ap (reference_problems_by layer fs (layer ∷ parents) top r) (no_place layer r.uri none)) ∙ no_problems) in
    let shadow : List ℕ → Option Problem = λ b. option_map (λ (s : Site). ShadowedUri r.uri b s.0 s.1) (site_under layer b) in
    let base : option_and_then (identified_from r.uri) (meant_place (layer ∷ parents) r.uri) ≡ Some other = ap (option_and_then (identified_from r.uri)) meant ∙ from in
    let there : shadow other ≡ None =
    sym (ap (λ b. cond b (option_and_then shadow (option_and_then (identified_from r.uri) (meant_place (layer ∷ parents) r.uri))) None) named ∙ ap (option_and_then shadow) base) ∙ shadowed in
    no_entries_were other layer (none_bears layer other (none_there r.uri other (site_under layer other) there)))
    (parent_named parents r.uri other p of_parent own)

-- ---- what is added at the root of an embedded document

-- a fragment whose first key isn't added at the root of an embedded document that a URI means
abbrev pub IsUnadded : Layer → Further → ℕ → Document → List ℕ → List ℕ → Type 0
IsUnadded layer fs n top uri fragment =
    (e : ℕ × Document) → Contains (to_embed layer fs n) e → uri ≡ base_uri e.1 → (key : List ℕ) → option_and_then (key_at 0) (pointer_in fragment) ≡ Some key → is_added_under top.draft e.1 key ≡ false

none_passes : {X : Type 0} (test : X → Bool) (xs : List X) → filter test xs ≡ [] → AllByRecursion (λ x. test x ≡ false) xs
none_passes test [] none = tt
none_passes test (x ∷ xs) none = (not_first x (filter test xs) (test x) none, none_passes test xs (not_later x (filter test xs) (test x) none))

both_true : (a b : Bool) → (a && not b) ≡ false → a ≡ true → b ≡ true
both_true true true none is = refl
both_true true false none is = absurd (true≢false none)
both_true false b none is = absurd (true≢false (sym is))

-- the only place with its base URI is its root
record IsAtRoot (layer : Layer) (uri : List ℕ) (e : ℕ × Document) : Type 0 where
  site : Site
  under : site_under layer uri ≡ Some site
  number : site.0 ≡ e.0
  path : path_eq site.1 [] ≡ true

at_root_by : (layer : Layer) (n : ℕ) (e : ℕ × Document) (uri : List ℕ) → Contains (counted_documents 0 layer) e → Contains (uris_of e.1 (root e.1)) uri → filter (is_of_another uri (e.0, [])) (sites_of_uris layer) ≡ []
    → (o : Option Site) → site_under layer uri ≡ o → IsAtRoot layer uri e
at_root_by layer n e uri own bears none None is =
    absurd (not_free e.1 (root e.1) uri (0, omega arith, refl) bears (each_in (λ x. IsFree uri x.1) (counted_documents 0 layer) e (none_bears layer uri is) own))
at_root_by layer n e uri own bears none (Some s) is =
    let entry = site_entry layer uri s is in
    let other : (bytes_eq entry.0.0 uri && not (is_site entry.0.1 (e.0, []))) ≡ false =
    each_in (λ x. is_of_another uri (e.0, []) x ≡ false) (sites_of_uris layer) entry.0 (none_passes (is_of_another uri (e.0, [])) (sites_of_uris layer) none) entry.2.there in
    let here : is_site s (e.0, []) ≡ true = ap (λ (t : Site). is_site t (e.0, [])) (sym entry.1) ∙ both_true (bytes_eq entry.0.0 uri) (is_site entry.0.1 (e.0, [])) other entry.2.passes in
    record { site = s; under = is; number = eqb-true s.0 e.0 (and_left (s.0 == e.0) (path_eq s.1 []) here); path = and_right (s.0 == e.0) (path_eq s.1 []) here }

only_root : (layer : Layer) (fs : Further) (n : ℕ) (top : Document) → IsMade layer fs n top → (e : ℕ × Document) (uri : List ℕ) → Contains (needed_documents layer fs n) e → Contains (uris_of e.1 (root e.1)) uri → IsAtRoot layer uri e
only_root layer fs n top is e uri need bears =
    let none = not_shared layer fs is.world (n, top) e (root e.1) uri (no_problem layer fs is.world n top e (root e.1) (none_in layer fs is.world n top e is.unrefused need) (0, omega arith, refl)) bears in
    let filtered = last_none (filter (is_of_another uri (e.0, [])) (sites_of_uris layer)) (none_of_shared (sites_of_uris layer) (last_or None (filter (is_of_another uri (e.0, [])) (sites_of_uris layer))) uri none) in
    at_root_by layer n e uri (needed_counted layer fs n e need) bears filtered (site_under layer uri) refl

at_root : (layer : Layer) (fs : Further) (n : ℕ) (top : Document) → IsMade layer fs n top → (e : ℕ × Document) → Contains (to_embed layer fs n) e → IsAtRoot layer (base_uri e.1) e
at_root layer fs n top is e there =
    let need = (embedded_needed layer fs n e there).0 in
    only_root layer fs n top is e (base_uri e.1) need (base_borne e.1 (base_uri e.1) (root_base layer e is.no_fault (needed_counted layer fs n e need)))

-- a reference without a problem to its root has no problem of what is added there
no_added : (layer : Layer) (fs : Further) (world : World) (n : ℕ) (top : Document) (e : ℕ × Document) (r : Reference) → ¬ (e.0 ≡ n) → slice_get layer e.0 ≡ Some e.1 → IsAtRoot layer r.uri e → reference_problems layer fs world (n, top) r ≡ [] → added_in top.draft r e.1 ≡ []
no_added layer fs world n top e r other at here none =
    let s = here.site in
    let f = embedded_problems top.draft r s.1 in
    let apart_ : (s.0 == n) ≡ false = ap (λ m. m == n) here.number ∙ other_number e.0 n (e.0 == n) refl other in
    let got : slice_get layer s.0 ≡ Some e.1 = ap (slice_get layer) here.number ∙ at in
    let all : embedded_problems top.draft r s.1 e.1 ≡ [] =
    sym (ap (reference_problems_by layer fs world (n, top) r) here.under ∙ ap (λ b. cond b (root_problems layer fs (n, top) r s.1) (option_map_or f (slice_get layer s.0) [])) apart_ ∙ ap (λ o. option_map_or f o []) got) ∙ none in
    sym (ap (λ b. cond b (added_in top.draft r e.1) []) here.path) ∙ back_empty (replaced_in r.uri e.1) (cond (path_eq s.1 []) (added_in top.draft r e.1) []) all

none_added : (r : Reference) (key : List ℕ) (b : Bool) → cond b (AddedMember r.uri key ∷ []) [] ≡ [] → b ≡ false
none_added r key b is = not_first (AddedMember r.uri key) [] b is

unadded : (layer : Layer) (fs : Further) (n : ℕ) (top : Document) → (is : IsMade layer fs n top) → (r : Reference) → reference_problems layer fs is.world (n, top) r ≡ [] → IsUnadded layer fs n top r.uri r.fragment
unadded layer fs n top is r none e there at key first =
    let need = embedded_needed layer fs n e there in
    let got = got_at layer e (needed_counted layer fs n e need.0) in
    let quiet : added_in top.draft r e.1 ≡ [] =
    no_added layer fs is.world n top e r need.1 got (subst (λ u. IsAtRoot layer u e) (sym at) (at_root layer fs n top is e there)) none in
    none_added r key (is_added_under top.draft e.1 key)
    (sym (ap (λ o. option_map_or (λ (k : List ℕ). cond (is_added_under top.draft e.1 k) (AddedMember r.uri k ∷ []) []) o []) first) ∙ quiet)

-- ---- the definitions that are added

-- the only place with a URI of the root is the root
root_only : (layer : Layer) (fs : Further) (n : ℕ) (top : Document) → IsMade layer fs n top → (uri : List ℕ) → Contains (uris_of top (root top)) uri → IsAtRoot layer uri (n, top)
root_only layer fs n top is uri bears =
    let own = root_counted layer n top is.at in
    only_root layer fs n top is (n, top) uri (root_needed layer fs (n, top) own) bears

-- an embedded document is one that has to be, with its base URI
embedded_as : (layer : Layer) (fs : Further) (n : ℕ) (top : Document) → IsMade layer fs n top → (e : ℕ × Document) → Contains (to_embed layer fs n) e → is_added_definition layer fs n (base_uri e.1) ≡ true
embedded_as layer fs n top is e there =
    let need = embedded_needed layer fs n e there in
    let own = needed_counted layer fs n e need.0 in
    let uri = base_uri e.1 in
    let here = at_root layer fs n top is e there in
    let under : document_under layer uri ≡ Some e.0 = ap (option_map (λ (s : Site). s.0)) here.under ∙ ap (λ m. Some m) here.number in
    let among : is_among (numbers_of_needed layer fs n) e.0 ≡ true = (passes_kept (λ (x : ℕ × Document). is_among (numbers_of_needed layer fs n) x.0) (counted_documents 0 layer) e need.0).1 in
    let has : Option Document → Bool = λ o. option_map_or (λ d. bytes_eq (base_uri d) uri) o false in
    ap (λ o. option_map_or (is_embedded_as layer fs n uri) o false) under
    ∙ ap (λ b. not b && is_among (numbers_of_needed layer fs n) e.0 && has (slice_get layer e.0)) (other_number e.0 n (e.0 == n) refl need.1)
    ∙ ap (λ b. not false && b && has (slice_get layer e.0)) among
    ∙ ap (λ o. not false && true && has o) (got_at layer e own)
    ∙ (bytes_eq-Decides uri uri).1 refl

-- a reference without a problem to the root leads to no embedded document
apart_from : (layer : Layer) (fs : Further) (n : ℕ) (top : Document) → (is : IsMade layer fs n top) → (r : Reference) → reference_problems layer fs is.world (n, top) r ≡ [] → Contains (uris_of top (root top)) r.uri → IsApart layer fs n top r.fragment
apart_from layer fs n top is r none bears e there text pointer second =
    let here = root_only layer fs n top is r.uri bears in
    let s = here.site in
    let f : List ℕ → List Problem = λ key. cond (is_added_definition layer fs n key) (AddedMember r.uri key ∷ []) [] in
    let at_path : root_problems layer fs (n, top) r s.1 ≡ [] =
    sym (ap (reference_problems_by layer fs is.world (n, top) r) here.under
    ∙ ap (λ m. cond (m == n) (root_problems layer fs (n, top) r s.1) (option_map_or (embedded_problems top.draft r s.1) (slice_get layer m) [])) here.number
    ∙ ap (λ b. cond b (root_problems layer fs (n, top) r s.1) (option_map_or (embedded_problems top.draft r s.1) (slice_get layer n) [])) (eq-eqb n n refl)) ∙ none in
    let quiet : added_definition layer fs (n, top) r ≡ [] = sym (ap (λ b. cond b (added_definition layer fs (n, top) r) []) here.path) ∙ at_path in
    let key : option_and_then (second_key (definitions_keyword top.draft)) (pointer_in r.fragment) ≡ Some (base_uri e.1) = ap (option_and_then (second_key (definitions_keyword top.draft))) pointer ∙ second in
    let unadded_ : f (base_uri e.1) ≡ [] = sym (ap (λ o. option_map_or f o []) key) ∙ quiet in
    true≢false (sym (embedded_as layer fs n top is e there) ∙ none_added r (base_uri e.1) (is_added_definition layer fs n (base_uri e.1)) unadded_)

-- ---- the target

-- a URI with a fragment that mean in the bundle what they meant
pub record IsSafeTarget (layer : Layer) (fs : Further) (parents : World) (n : ℕ) (top : Document) (uri fragment : List ℕ) : Type 0 where
  pub clear : IsClear layer n top (to_embed layer fs n) uri
  pub named : is_name fragment ≡ true → IsSafe layer fs parents n top uri
  pub unadded : IsUnadded layer fs n top uri fragment
  pub apart : Contains (uris_of top (root top)) uri → IsApart layer fs n top fragment

pub safe_target : (layer : Layer) (fs : Further) (parents : World) (n : ℕ) (top : Document) → (is : IsMade layer fs n top) → is.world ≡ layer ∷ parents → (r : Reference) → IsClearReference layer fs n top is.world r → IsSafeTarget layer fs parents n top r.uri r.fragment
safe_target layer fs parents n top is of_world r clear_ =
    let none = clear_.quiet in
    let meant = clear_reference layer fs n top is r clear_ in
    record {
      clear = meant;
      named = λ named. record {
        clear = meant;
        outside = λ q other own_none of_parent own. unshadowed layer fs parents (n, top) r other q (subst (λ w. reference_problems layer fs w (n, top) r ≡ []) of_world none) named own_none of_parent own;
      };
      unadded = unadded layer fs n top is r none;
      apart = apart_from layer fs n top is r none;
    }
