-- A document below a root: its identifier, its base, its anchors and its children.
use Rattle.std.proofs.Common.{◌≡◌, ℕ, Bool, true, false, not, cond, ◌&&◌, ◌||◌, List, [], ◌∷◌, ◌++◌, map, drop, Option, Some, None, is_some, codes, option_map, option_and_then, Result, Ok, Err, bytes_eq, refl, sym, ap, subst, ◌∙◌, true≢false}
use Rattle.std.specs.Option.{option_to_list, unwrap_or}
use Rattle.std.specs.Result.{result_ok}
use Rattle.std.proofs.lemmas.Bool.{and_parts}
use Rattle.std.proofs.lemmas.Slice.Eq.{bytes_eq-Decides}
use Rattle.serde_json.specs.Data.{Data, null, boolean, number, string, array, object}
use Rattle.serde_json.specs.Find.{get, as_str}
use Rattle.ref_paths.specs.Path.{Part, Key}
use Rattle.ref_draft.specs.declared.draft.Draft.{Draft}
use Rattle.ref_draft.specs.declared.draft.Draft.TheVariants.{Draft4, Draft6, Draft7, Draft201909, Draft202012, Unknown}
use Rattle.ref_draft.specs.Keywords.{id_keyword, is_before_2019}
use Rattle.ref_draft.specs.Schema.{trimmed_text, detect, begins_with_hash, is_hidden, identifier}
use Rattle.ref_draft.specs.Anchors.{Kind, Plain, Dynamic, after_hash, in_identifier, named_by, anchors}
use Rattle.ref_draft.specs.Children.{with_draft, walked_children}
use Rattle.ref_uri.specs.Targets.{Refusal, uri_against}
use Rattle.ref_definitions.specs.World.{Document}
use Rattle.ref_definitions.specs.Places.{Place, root, base_within, child_place, children_with, children_of}
use Rattle.ref_definitions.specs.Moving.{below_path}
use Rattle.ref_bundle.specs.Embedding.{base_uri, embedded_tree, is_uri_of, is_kept, has_no_identifier}
use Rattle.ref_bundle_laws.proofs.LawBorne.{Embedding, IsPut}
use Rattle.ref_definitions.proofs.Moving.{each_moved}
use Rattle.ref_bundle_laws.proofs.LawPut.{apart, IsEmbeddable, is_other_than_id, get_embedded, text_embedded, id_embedded, children_embedded, draft_embedded}

-- ---- bases

pub base_is : (d : Document) (base : List ℕ) → (root d).base ≡ Ok base → base_uri d ≡ base
base_is d base is = ap (λ r. unwrap_or (result_ok r) d.uri) is

pub uri_given : (r : Result (List ℕ) Refusal) (uri : List ℕ) → is_uri_of r uri ≡ true → r ≡ Ok uri
uri_given (Ok given) uri is = ap (λ u. Ok u) ((bytes_eq-Decides given uri).0 is)
uri_given (Err refusal) uri is = absurd (true≢false (sym is))

no_hash : (outer uri : List ℕ) → is_kept outer uri ≡ true → begins_with_hash uri ≡ false
no_hash outer uri kept = un_not (begins_with_hash uri) (and_parts (not (begins_with_hash uri)) (is_uri_of (uri_against outer (trimmed_text uri)) uri) kept).0
  where
    un_not : (b : Bool) → not b ≡ true → b ≡ false
    un_not true is = absurd (true≢false (sym is))
    un_not false is = refl

pub given_back : (outer uri : List ℕ) → is_kept outer uri ≡ true → uri_against outer (trimmed_text uri) ≡ Ok uri
given_back outer uri kept =
    uri_given (uri_against outer (trimmed_text uri)) uri (and_parts (not (begins_with_hash uri)) (is_uri_of (uri_against outer (trimmed_text uri)) uri) kept).1

-- ---- the identifier

not_hidden : (before has hash : Bool) → (before && has) ≡ false → hash ≡ false → (before && (has || hash)) ≡ false
not_hidden true true hash none plain = absurd (true≢false none)
not_hidden true false hash none plain = plain
not_hidden false has hash none plain = refl

pub identifier_embedded : (draft : Draft) (top d : Document) → IsEmbeddable top d → identifier d.draft (embedded_tree draft d) ≡ Some (trimmed_text (base_uri d))
identifier_embedded draft top d able =
    let same : get (codes "$ref") (embedded_tree draft d) ≡ get (codes "$ref") d.tree =
    get_embedded draft d (codes "$ref") (is_other_than_id (codes "$ref") d.draft refl refl) (apart (codes "$ref") (codes "$schema") refl) in
    let hidden : is_hidden d.draft (embedded_tree draft d) (base_uri d) ≡ false =
    not_hidden (is_before_2019 d.draft) (is_some (get (codes "$ref") (embedded_tree draft d))) (begins_with_hash (base_uri d))
    (ap (λ o. is_before_2019 d.draft && is_some o) same ∙ able.no_ref) (no_hash (base_uri top) (base_uri d) able.kept) in
    ap (λ o. option_and_then (λ text. cond (is_hidden d.draft (embedded_tree draft d) text) None (Some (trimmed_text text))) (option_and_then as_str o)) (id_embedded draft d able.object)
    ∙ ap (λ b. cond b None (Some (trimmed_text (base_uri d)))) hidden

-- ---- the anchors

no_anchor : (text : List ℕ) → begins_with_hash text ≡ false → after_hash text ≡ None
no_anchor text is = ap (λ b. cond b (Some (drop 1 text)) None) is

-- an identifier that counts is no anchor
no_name_by : (draft : Draft) (tree : Data) (o : Option Data) → is_before_2019 draft ≡ true
    → (is_some o && not (is_some (option_and_then (λ text. cond (is_hidden draft tree text) None (Some (trimmed_text text))) (option_and_then as_str o)))) ≡ false
    → option_and_then after_hash (option_and_then as_str o) ≡ None
no_name_by draft tree None before is = refl
no_name_by draft tree (Some null) before is = refl
no_name_by draft tree (Some (boolean b)) before is = refl
no_name_by draft tree (Some (number n)) before is = refl
no_name_by draft tree (Some (array ds)) before is = refl
no_name_by draft tree (Some (object ms)) before is = refl
no_name_by draft tree (Some (string text)) before is = no_anchor text (by_hidden (is_before_2019 draft) (is_some (get (codes "$ref") tree)) (begins_with_hash text) before is)
  where
    by_hidden : (b has hash : Bool) → b ≡ true → not (is_some (cond (b && (has || hash)) None (Some (trimmed_text text)))) ≡ false → hash ≡ false
    by_hidden true true hash yes_ no_ = absurd (true≢false no_)
    by_hidden true false true yes_ no_ = absurd (true≢false no_)
    by_hidden true false false yes_ no_ = refl
    by_hidden false has hash yes_ no_ = absurd (true≢false (sym yes_))

pub no_name : (d : Document) → is_before_2019 d.draft ≡ true → has_no_identifier d ≡ false → in_identifier d.draft d.tree ≡ []
no_name d before is = ap (λ o. option_to_list (option_map (λ name. (name, Plain)) o)) (no_name_by d.draft d.tree (get (id_keyword d.draft) d.tree) before is)

pub no_name_embedded : (draft : Draft) (top d : Document) → IsEmbeddable top d → in_identifier d.draft (embedded_tree draft d) ≡ []
no_name_embedded draft top d able =
    ap (λ o. option_to_list (option_map (λ name. (name, Plain)) (option_and_then after_hash (option_and_then as_str o)))) (id_embedded draft d able.object)
    ∙ ap (λ o. option_to_list (option_map (λ name. (name, Plain)) o)) (no_anchor (base_uri d) (no_hash (base_uri top) (base_uri d) able.kept))

named_alike : (draft : Draft) (d : Document) (key : List ℕ) (kind : Kind) → bytes_eq key (codes "id") ≡ false → bytes_eq key (codes "$id") ≡ false → bytes_eq key (codes "$schema") ≡ false
    → named_by key kind (embedded_tree draft d) ≡ named_by key kind d.tree
named_alike draft d key kind first second third = ap (λ o. option_to_list (option_map (λ name. (name, kind)) o)) (text_embedded draft d key first second third)

plain_and_dynamic_alike : (draft : Draft) (d : Document) → (named_by (codes "$anchor") Plain (embedded_tree draft d) ++ named_by (codes "$dynamicAnchor") Dynamic (embedded_tree draft d)) ≡ (named_by (codes "$anchor") Plain d.tree ++ named_by (codes "$dynamicAnchor") Dynamic d.tree)
plain_and_dynamic_alike draft d =
    ap (λ names. names ++ named_by (codes "$dynamicAnchor") Dynamic (embedded_tree draft d)) (named_alike draft d (codes "$anchor") Plain refl refl refl)
    ∙ ap (λ names. named_by (codes "$anchor") Plain d.tree ++ names) (named_alike draft d (codes "$dynamicAnchor") Dynamic refl refl refl)

anchors_by : (draft : Draft) (top d : Document) (own : Draft) → d.draft ≡ own → IsEmbeddable top d → anchors own (embedded_tree draft d) ≡ anchors own d.tree
anchors_by draft top d Draft4 is able =
    subst (λ o. in_identifier o (embedded_tree draft d) ≡ in_identifier o d.tree) is (no_name_embedded draft top d able ∙ sym (no_name d (ap is_before_2019 is) able.identifies))
anchors_by draft top d Draft6 is able =
    subst (λ o. in_identifier o (embedded_tree draft d) ≡ in_identifier o d.tree) is (no_name_embedded draft top d able ∙ sym (no_name d (ap is_before_2019 is) able.identifies))
anchors_by draft top d Draft7 is able =
    subst (λ o. in_identifier o (embedded_tree draft d) ≡ in_identifier o d.tree) is (no_name_embedded draft top d able ∙ sym (no_name d (ap is_before_2019 is) able.identifies))
anchors_by draft top d Draft201909 is able = named_alike draft d (codes "$anchor") Plain refl refl refl
anchors_by draft top d Draft202012 is able = plain_and_dynamic_alike draft d
anchors_by draft top d Unknown is able = plain_and_dynamic_alike draft d

pub anchors_embedded : (draft : Draft) (top d : Document) → IsEmbeddable top d → anchors d.draft (embedded_tree draft d) ≡ anchors d.draft d.tree
anchors_embedded draft top d able = anchors_by draft top d d.draft refl able

-- ---- its place

-- the path of a document below the definitions
abbrev pub path_below : List ℕ → Document → List Part
path_below keyword d = Key keyword ∷ Key (base_uri d) ∷ []

-- its place, where the root has this draft and this base
abbrev pub place_below : List ℕ → Draft → List ℕ → Document → Place
place_below keyword draft outer d = child_place [] outer (with_draft draft (path_below keyword d, embedded_tree draft d))

abbrev pub put_below : List ℕ → Draft → List ℕ → Document → Embedding
put_below keyword draft outer d = record { place = place_below keyword draft outer d; document = d }

children_at : (keyword outer uri : List ℕ) (draft : Draft) (top d : Document) → top.draft ≡ draft → IsEmbeddable top d → (place_below keyword draft outer d).base ≡ Ok uri → (root d).base ≡ Ok uri
    → children_of (place_below keyword draft outer d) ≡ map (below_path (path_below keyword d)) (children_of (root d))
children_at keyword outer uri draft top d is able here there =
    let own : detect draft (embedded_tree draft d) ≡ d.draft = subst (λ x. detect x (embedded_tree x d) ≡ d.draft) is (draft_embedded top.draft d able.object able.keeps_draft) in
    let same : walked_children (detect draft (embedded_tree draft d)) (embedded_tree draft d) ≡ walked_children d.draft d.tree =
    ap (λ x. walked_children x (embedded_tree draft d)) own ∙ ap (map (with_draft d.draft)) (children_embedded draft d) in
    ap (λ b. children_with b (place_below keyword draft outer d)) here
    ∙ ap (map (child_place (path_below keyword d) uri)) same
    ∙ each_moved (path_below keyword d) [] uri (walked_children d.draft d.tree)
    ∙ sym (ap (λ b. map (below_path (path_below keyword d)) (children_with b (root d))) there)

pub put_there : (keyword outer uri : List ℕ) (top d : Document) → IsEmbeddable top d → (root top).base ≡ Ok outer → (root d).base ≡ Ok uri → IsPut (put_below keyword top.draft outer d)
put_there keyword outer uri top d able above there =
    let own = draft_embedded top.draft d able.object able.keeps_draft in
    let uris : base_uri d ≡ uri = base_is d uri there in
    let id : identifier (detect top.draft (embedded_tree top.draft d)) (embedded_tree top.draft d) ≡ Some (trimmed_text (base_uri d)) =
    ap (λ x. identifier x (embedded_tree top.draft d)) own ∙ identifier_embedded top.draft top d able in
    let here : (place_below keyword top.draft outer d).base ≡ Ok uri =
    ap (base_within outer) id
    ∙ ap (λ b. uri_against b (trimmed_text (base_uri d))) (sym (base_is top outer above))
    ∙ given_back (base_uri top) (base_uri d) able.kept ∙ ap (λ u. Ok u) uris in
    record {
      base = uri;
      has_base = here;
      same_base = there;
      id = ap is_some id;
      same_draft = own;
      same_anchors = ap (λ x. anchors x (embedded_tree top.draft d)) own ∙ anchors_embedded top.draft top d able;
      same_children = children_at keyword outer uri top.draft top d refl able here there;
    }
