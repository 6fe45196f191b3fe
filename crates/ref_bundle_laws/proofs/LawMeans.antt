-- What a URI and a name mean in a bundle, where one of its documents alone has the URI, or none does.
use Rattle.std.proofs.Common.{◌≡◌, ℕ, Bool, true, false, cond, ◌&&◌, List, [], ◌∷◌, ◌++◌, flat_map, map, filter, Option, Some, None, option_map, option_and_then, Ok, inr, refl, sym, ap, subst, ◌∙◌, append-nil, append_assoc, true≢false, bytes_eq}
use Rattle.std.specs.List.{AllByRecursion, last_or}
use Rattle.std.specs.Option.{option_map_or, option_to_list}
use Rattle.std.specs.Result.{result_ok}
use Rattle.std.proofs.lemmas.List.Elements.{filter-append}
use Rattle.std.proofs.lemmas.Grind.{flat_map-append}
use Rattle.std.proofs.lemmas.Slice.Eq.{bytes_eq-Decides}
use Rattle.ref_draft.specs.Anchors.{Kind, anchors}
use Rattle.ref_definitions.specs.World.{Document, Layer}
use Rattle.ref_definitions.specs.Places.{Place, root, base_within, identifier_of, places}
use Rattle.ref_definitions.specs.Resources.{resource_of, resources_in, resources, last_under}
use Rattle.ref_definitions.specs.Anchors.{Named, named_under, named_at, names_in, names, last_named}
use Rattle.ref_bundle_laws.specs.Merges.{IsMergeOf}
use Rattle.ref_definitions.specs.Moving.{below_path}
use Rattle.ref_bundle_laws.proofs.LawAlike.{BothAlike, last_alike, last_joined, last_twice}
use Rattle.ref_bundle_laws.proofs.LawMerges.{quiet_first, quiet_second}
use Rattle.ref_bundle_laws.proofs.LawEntries.{Under, NamedAs, borne_by, named_by, none_under, none_at, none_of, each_none, filter_flat, IsFree}
use Rattle.ref_bundle_laws.proofs.LawBorne.{Embedding, below_root, part_of, IsPut, EntryAlike, NameAlike, moved_entries, moved_names, names_of, entry_with, root_entries}

-- ---- one of several merged lists

nothing_of : {X A : Type 0} (f : X → List A) (all : List X) (parts : List (List X)) → IsMergeOf X all parts → AllByRecursion (λ part. AllByRecursion (λ x. f x ≡ []) part) parts → flat_map f all ≡ []
nothing_of f all [] merge none = ap (flat_map f) merge
nothing_of f all (part ∷ parts) merge none = quiet_first f all part merge.0 merge.1 none.0 ∙ nothing_of f merge.0 parts merge.2 none.1

-- where nothing comes of the others, what comes of all comes of one
pub pick : {X A : Type 0} (f : X → List A) (all : List X) (before : List (List X)) (part : List X) (after : List (List X)) → IsMergeOf X all (before ++ part ∷ after)
    → AllByRecursion (λ p. AllByRecursion (λ x. f x ≡ []) p) before → AllByRecursion (λ p. AllByRecursion (λ x. f x ≡ []) p) after → flat_map f all ≡ flat_map f part
pick f all [] part after merge front back = quiet_second f all part merge.0 merge.1 (each_none f merge.0 (nothing_of f merge.0 after merge.2 back))
pick f all (p ∷ before) part after merge front back = quiet_first f all p merge.0 merge.1 front.0 ∙ pick f merge.0 before part after merge.2 front.1 back

-- ---- the entries of a document, in pieces

abbrev pub first_entry : List ℕ → Document → List (List ℕ × Place)
first_entry uri d = cond (bytes_eq d.uri uri) ((d.uri, root d) ∷ []) []

in_front : {A : Type 0} (b : Bool) (x : A) (xs : List A) → cond b (x ∷ xs) xs ≡ cond b (x ∷ []) [] ++ xs
in_front true x xs = refl
in_front false x xs = refl

pub entries_in_pieces : (uri : List ℕ) (d : Document) → Under uri (resources_in d) ≡ first_entry uri d ++ flat_map (borne_by uri) (places d)
entries_in_pieces uri d =
    in_front (bytes_eq d.uri uri) (d.uri, root d) (Under uri (flat_map resource_of (places d)))
    ∙ ap (λ more. first_entry uri d ++ more) (filter_flat (λ (e : List ℕ × Place). bytes_eq e.0 uri) resource_of (places d))

pub names_in_pieces : (uri name : List ℕ) (d : Document) → NamedAs uri name (names_in d) ≡ NamedAs uri name (named_under d.uri (root d)) ++ flat_map (named_by uri name) (places d)
names_in_pieces uri name d =
    filter-append (λ (e : Named). bytes_eq e.uri uri && bytes_eq e.name name) (named_under d.uri (root d)) (flat_map named_at (places d))
    ∙ ap (λ more. NamedAs uri name (named_under d.uri (root d)) ++ more) (filter_flat (λ (e : Named). bytes_eq e.uri uri && bytes_eq e.name name) named_at (places d))

-- ---- a document that doesn't have a URI has no entry and no name under it

pub no_entries : (uri : List ℕ) (d : Document) → IsFree uri d → Under uri (resources_in d) ≡ []
no_entries uri d free =
    entries_in_pieces uri d ∙ ap (λ b. cond b ((d.uri, root d) ∷ []) [] ++ flat_map (borne_by uri) (places d)) free.entry ∙ none_of (borne_by uri) (places d) free.bears

pub no_names : (uri name : List ℕ) (d : Document) → IsFree uri d → NamedAs uri name (names_in d) ≡ []
no_names uri name d free =
    names_in_pieces uri name d
    ∙ ap (λ front. front ++ flat_map (named_by uri name) (places d)) (none_under uri name d.uri (root d) free.entry)
    ∙ none_of (named_by uri name) (places d) (none_at uri name (places d) free.bases)

pub no_entries_of : (uri : List ℕ) (ds : Layer) → AllByRecursion (IsFree uri) ds → Under uri (resources ds) ≡ []
no_entries_of uri [] free = refl
no_entries_of uri (d ∷ ds) free =
    filter-append (λ (e : List ℕ × Place). bytes_eq e.0 uri) (resources_in d) (resources ds)
    ∙ ap (λ front. front ++ Under uri (resources ds)) (no_entries uri d free.0) ∙ no_entries_of uri ds free.1

pub no_names_of : (uri name : List ℕ) (ds : Layer) → AllByRecursion (IsFree uri) ds → NamedAs uri name (names ds) ≡ []
no_names_of uri name [] free = refl
no_names_of uri name (d ∷ ds) free =
    filter-append (λ (e : Named). bytes_eq e.uri uri && bytes_eq e.name name) (names_in d) (names ds)
    ∙ ap (λ front. front ++ NamedAs uri name (names ds)) (no_names uri name d free.0) ∙ no_names_of uri name ds free.1

-- a layer of which one document alone has a URI has its entries and names
pub entries_of_one : (uri : List ℕ) (before : Layer) (d : Document) (after : Layer) → AllByRecursion (IsFree uri) before → AllByRecursion (IsFree uri) after
    → Under uri (resources (before ++ d ∷ after)) ≡ Under uri (resources_in d)
entries_of_one uri before d after front back =
    let test = λ (e : List ℕ × Place). bytes_eq e.0 uri in
    ap (filter test) (flat_map-append resources_in before (d ∷ after))
    ∙ filter-append test (resources before) (resources (d ∷ after))
    ∙ ap (λ es. es ++ Under uri (resources (d ∷ after))) (no_entries_of uri before front)
    ∙ filter-append test (resources_in d) (resources after)
    ∙ ap (λ es. Under uri (resources_in d) ++ es) (no_entries_of uri after back)
    ∙ append-nil (Under uri (resources_in d))

pub names_of_one : (uri name : List ℕ) (before : Layer) (d : Document) (after : Layer) → AllByRecursion (IsFree uri) before → AllByRecursion (IsFree uri) after
    → NamedAs uri name (names (before ++ d ∷ after)) ≡ NamedAs uri name (names_in d)
names_of_one uri name before d after front back =
    let test = λ (e : Named). bytes_eq e.uri uri && bytes_eq e.name name in
    ap (filter test) (flat_map-append names_in before (d ∷ after))
    ∙ filter-append test (names before) (names (d ∷ after))
    ∙ ap (λ es. es ++ NamedAs uri name (names (d ∷ after))) (no_names_of uri name before front)
    ∙ filter-append test (names_in d) (names after)
    ∙ ap (λ es. NamedAs uri name (names_in d) ++ es) (no_names_of uri name after back)
    ∙ append-nil (NamedAs uri name (names_in d))

-- ---- the entries of an embedded document

-- an identifier does not replace the document's URI by another one
abbrev pub IsNoAlias : List ℕ → Embedding → Type 0
IsNoAlias uri x = bytes_eq x.document.uri uri ≡ true → (base : List ℕ) → x.place.base ≡ Ok base → bytes_eq base uri ≡ true

base_without : (d : Document) (base : List ℕ) (id : Option (List ℕ)) → base_within d.uri id ≡ Ok base → id ≡ None → base ≡ d.uri
base_without d base None is none = let e : Ok d.uri ≡ Ok base = is in cc
base_without d base (Some id) is none = absurd (let e : Some id ≡ None = none in cc)

pub place_entries : (x : Embedding) (uri : List ℕ) → (put : IsPut x) → IsNoAlias uri x
    → BothAlike (EntryAlike x) (last_or None (borne_by uri x.place)) (last_or None (first_entry uri x.document ++ borne_by uri (root x.document)))
place_entries x uri put alias =
    let here : borne_by uri x.place ≡ cond (bytes_eq put.base uri) ((put.base, x.place) ∷ []) [] =
    ap (λ b. Under uri (option_to_list (option_map (λ u. (u, x.place)) (option_and_then (λ i. result_ok b) (identifier_of x.place))))) put.has_base
    ∙ entry_with x uri put.base (identifier_of x.place) put.id in
    let there : borne_by uri (root x.document) ≡ Under uri (option_to_list (option_map (λ u. (u, root x.document)) (option_and_then (λ i. Some put.base) (identifier_of (root x.document))))) =
    ap (λ b. Under uri (option_to_list (option_map (λ u. (u, root x.document)) (option_and_then (λ i. result_ok b) (identifier_of (root x.document)))))) put.same_base in
    subst (λ es. BothAlike (EntryAlike x) (last_or None es) (last_or None (first_entry uri x.document ++ borne_by uri (root x.document)))) (sym here)
    (subst (λ es. BothAlike (EntryAlike x) (last_or None (cond (bytes_eq put.base uri) ((put.base, x.place) ∷ []) [])) (last_or None (first_entry uri x.document ++ es))) (sym there)
    (root_entries x uri put.base (bytes_eq put.base uri) (bytes_eq x.document.uri uri) refl refl
    (λ own. alias own put.base put.has_base) (identifier_of (root x.document))
    (base_without x.document put.base (identifier_of (root x.document)) put.same_base)))

pub part_entries : (x : Embedding) (uri : List ℕ) → IsPut x → IsNoAlias uri x
    → BothAlike (EntryAlike x) (last_or None (flat_map (borne_by uri) (part_of x))) (last_under uri (resources_in x.document))
part_entries x uri put alias =
    let rest = flat_map (borne_by uri) (below_root x.document) in
    subst (λ es. BothAlike (EntryAlike x) (last_or None (flat_map (borne_by uri) (part_of x))) (last_or None es))
    (append_assoc (first_entry uri x.document) (borne_by uri (root x.document)) rest ∙ sym (entries_in_pieces uri x.document))
    (last_joined (EntryAlike x) (borne_by uri x.place) (flat_map (borne_by uri) (map (below_path x.place.path) (below_root x.document)))
    (first_entry uri x.document ++ borne_by uri (root x.document)) rest
    (place_entries x uri put alias) (last_alike (EntryAlike x) (flat_map (borne_by uri) (map (below_path x.place.path) (below_root x.document))) rest (moved_entries x uri (below_root x.document))))

-- ---- its names

-- the names of a place under a URI
abbrev names_from : List ℕ → Place → List (List ℕ × Kind) → List Named
names_from base p cs = map (λ a. record { uri = base; name = a.0; kind = a.1; place = p }) cs

place_names_by : (x : Embedding) (uri name base : List ℕ) (cs ds : List (List ℕ × Kind)) (b c : Bool) → bytes_eq base uri ≡ b → bytes_eq x.document.uri uri ≡ c → (c ≡ true → b ≡ true) → cs ≡ ds
    → NamedAs uri name (names_from x.document.uri (root x.document) ds) ≡ cond c (NamedAs uri name (names_from base (root x.document) ds)) []
    → (b ≡ false → NamedAs uri name (names_from base x.place cs) ≡ []) → (b ≡ false → NamedAs uri name (names_from base (root x.document) ds) ≡ [])
    → BothAlike (NameAlike x) (last_or None (NamedAs uri name (names_from base x.place cs)))
    (last_or None (NamedAs uri name (names_from x.document.uri (root x.document) ds) ++ NamedAs uri name (names_from base (root x.document) ds)))
place_names_by x uri name base cs ds true true is own same anchors first none also =
    let alike = last_alike (NameAlike x) (NamedAs uri name (names_from base x.place ds)) (NamedAs uri name (names_from base (root x.document) ds)) (names_of x uri name base x.place (root x.document) ds (inr (refl, refl))) in
    subst (λ es. BothAlike (NameAlike x) (last_or None (NamedAs uri name (names_from base x.place cs))) (last_or None (es ++ NamedAs uri name (names_from base (root x.document) ds)))) (sym first)
    (subst (λ o. BothAlike (NameAlike x) (last_or None (NamedAs uri name (names_from base x.place cs))) o) (sym (last_twice (NamedAs uri name (names_from base (root x.document) ds))))
    (subst (λ found. BothAlike (NameAlike x) (last_or None (NamedAs uri name (names_from base x.place found))) (last_or None (NamedAs uri name (names_from base (root x.document) ds)))) (sym anchors) alike))
place_names_by x uri name base cs ds true false is own same anchors first none also =
    let alike = last_alike (NameAlike x) (NamedAs uri name (names_from base x.place ds)) (NamedAs uri name (names_from base (root x.document) ds)) (names_of x uri name base x.place (root x.document) ds (inr (refl, refl))) in
    subst (λ es. BothAlike (NameAlike x) (last_or None (NamedAs uri name (names_from base x.place cs))) (last_or None (es ++ NamedAs uri name (names_from base (root x.document) ds)))) (sym first)
    (subst (λ found. BothAlike (NameAlike x) (last_or None (NamedAs uri name (names_from base x.place found))) (last_or None (NamedAs uri name (names_from base (root x.document) ds)))) (sym anchors) alike)
place_names_by x uri name base cs ds false true is own same anchors first none also = absurd (true≢false (sym (same refl)))
place_names_by x uri name base cs ds false false is own same anchors first none also =
    subst (λ es. BothAlike (NameAlike x) (last_or None (NamedAs uri name (names_from base x.place cs))) (last_or None (es ++ NamedAs uri name (names_from base (root x.document) ds)))) (sym first)
    (subst (λ es. BothAlike (NameAlike x) (last_or None (NamedAs uri name (names_from base x.place cs))) (last_or None es)) (sym (also refl))
    (subst (λ es. BothAlike (NameAlike x) (last_or None es) None) (sym (none refl)) tt))

own_names : (x : Embedding) (uri name base : List ℕ) (c : Bool) → bytes_eq x.document.uri uri ≡ c → (c ≡ true → bytes_eq base uri ≡ true)
    → NamedAs uri name (named_under x.document.uri (root x.document)) ≡ cond c (NamedAs uri name (named_under base (root x.document))) []
own_names x uri name base true own same =
    let one : x.document.uri ≡ base = (bytes_eq-Decides x.document.uri uri).0 own ∙ sym ((bytes_eq-Decides base uri).0 (same refl)) in
    ap (λ u. NamedAs uri name (named_under u (root x.document))) one
own_names x uri name base false own same = none_under uri name x.document.uri (root x.document) own

pub place_names : (x : Embedding) (uri name : List ℕ) → (put : IsPut x) → IsNoAlias uri x
    → BothAlike (NameAlike x) (last_or None (named_by uri name x.place)) (last_or None (NamedAs uri name (named_under x.document.uri (root x.document)) ++ named_by uri name (root x.document)))
place_names x uri name put alias =
    let here : named_by uri name x.place ≡ NamedAs uri name (named_under put.base x.place) =
    ap (λ b. NamedAs uri name (option_map_or (λ u. named_under u x.place) (result_ok b) [])) put.has_base in
    let there : named_by uri name (root x.document) ≡ NamedAs uri name (named_under put.base (root x.document)) =
    ap (λ b. NamedAs uri name (option_map_or (λ u. named_under u (root x.document)) (result_ok b) [])) put.same_base in
    let first = NamedAs uri name (named_under x.document.uri (root x.document)) in
    subst (λ es. BothAlike (NameAlike x) (last_or None es) (last_or None (first ++ named_by uri name (root x.document)))) (sym here)
    (subst (λ es. BothAlike (NameAlike x) (last_or None (NamedAs uri name (named_under put.base x.place))) (last_or None (first ++ es))) (sym there)
    (place_names_by x uri name put.base (anchors x.place.draft x.place.value) (anchors x.document.draft x.document.tree) (bytes_eq put.base uri) (bytes_eq x.document.uri uri) refl refl
    (λ own. alias own put.base put.has_base) put.same_anchors
    (own_names x uri name put.base (bytes_eq x.document.uri uri) refl (λ own. alias own put.base put.has_base))
    (λ other. none_under uri name put.base x.place other) (λ other. none_under uri name put.base (root x.document) other)))

pub part_names : (x : Embedding) (uri name : List ℕ) → IsPut x → IsNoAlias uri x
    → BothAlike (NameAlike x) (last_or None (flat_map (named_by uri name) (part_of x))) (last_named uri name (names_in x.document))
part_names x uri name put alias =
    let rest = flat_map (named_by uri name) (below_root x.document) in
    let first = NamedAs uri name (named_under x.document.uri (root x.document)) in
    subst (λ es. BothAlike (NameAlike x) (last_or None (flat_map (named_by uri name) (part_of x))) (last_or None es))
    (append_assoc first (named_by uri name (root x.document)) rest ∙ sym (names_in_pieces uri name x.document))
    (last_joined (NameAlike x) (named_by uri name x.place) (flat_map (named_by uri name) (map (below_path x.place.path) (below_root x.document)))
    (first ++ named_by uri name (root x.document)) rest
    (place_names x uri name put alias) (last_alike (NameAlike x) (flat_map (named_by uri name) (map (below_path x.place.path) (below_root x.document))) rest (moved_names x uri name (below_root x.document))))
