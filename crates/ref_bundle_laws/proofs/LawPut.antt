-- What an embedded document's tree keeps, and what it gets.
use Rattle.std.proofs.Common.{◌≡◌, ℕ, Bool, true, false, not, cond, ◌&&◌, List, Option, Some, None, is_some, codes, option_and_then, Ok, bytes_eq, refl, sym, ap, subst, ◌∙◌, true≢false}
use Rattle.std.specs.Option.{option_map_or}
use Rattle.std.proofs.lemmas.Bool.{and_parts}
use Rattle.std.proofs.lemmas.Slice.Eq.{bytes_eq-Decides}
use Rattle.serde_json.specs.Data.{Data, null, boolean, number, string, array, object}
use Rattle.serde_json.specs.Find.{get, as_str}
use Rattle.serde_json.proofs.Views.{get_member-put}
use Rattle.ref_draft.specs.declared.draft.Draft.{Draft}
use Rattle.ref_draft.specs.declared.draft.Draft.TheVariants.{Draft4, Draft6, Draft7, Draft201909, Draft202012, Unknown}
use Rattle.ref_draft.specs.Keywords.{id_keyword, is_unknown}
use Rattle.ref_draft.specs.Schema.{text_under, from_schema_uri, detect}
use Rattle.ref_draft.specs.Children.{is_object, children}
use Rattle.ref_uri.specs.Reference.{with_fragment}
use Rattle.ref_uri.specs.Targets.{uri_of}
use Rattle.ref_definitions.specs.Results.{◌>>=◌}
use Rattle.ref_definitions.specs.World.{Document}
use Rattle.ref_definitions.specs.Wants.{schema_uri, schema_at}
use Rattle.ref_bundle.specs.Embedding.{is_draft, base_uri, schema_text, is_detected, added_schema, with_member, with_schema, embedded_tree, Obstacle, NotAnObject, IdentifierBesideRef, NotAnIdentifier, NotKept, UnnamedDraft, ResolvedAgain, is_resolved_again, is_kept, is_beside_ref, has_no_identifier, loses_draft, obstacle}
use Rattle.ref_bundle_laws.proofs.LawMembers.{HoldsNone, children_with_member, get_with_other}

pub apart : (a b : List ℕ) → bytes_eq a b ≡ false → ¬ (a ≡ b)
apart a b is same = true≢false (sym ((bytes_eq-Decides a b).1 same) ∙ is)

-- ---- drafts

pub one_draft : (d e : Draft) → is_draft d e ≡ true → d ≡ e
one_draft Draft4 Draft4 is = refl
one_draft Draft6 Draft6 is = refl
one_draft Draft7 Draft7 is = refl
one_draft Draft201909 Draft201909 is = refl
one_draft Draft202012 Draft202012 is = refl
one_draft Unknown Unknown is = refl
one_draft d e is = absurd (true≢false (sym is))

pub schema_of_draft : (draft : Draft) (text : List ℕ) → schema_text draft ≡ Some text → from_schema_uri text ≡ draft
schema_of_draft Draft4 text is = let e : Some (codes "http://json-schema.org/draft-04/schema#") ≡ Some text = is in let same : codes "http://json-schema.org/draft-04/schema#" ≡ text = cc in subst (λ t. from_schema_uri t ≡ Draft4) same refl
schema_of_draft Draft6 text is = let e : Some (codes "http://json-schema.org/draft-06/schema#") ≡ Some text = is in let same : codes "http://json-schema.org/draft-06/schema#" ≡ text = cc in subst (λ t. from_schema_uri t ≡ Draft6) same refl
schema_of_draft Draft7 text is = let e : Some (codes "http://json-schema.org/draft-07/schema#") ≡ Some text = is in let same : codes "http://json-schema.org/draft-07/schema#" ≡ text = cc in subst (λ t. from_schema_uri t ≡ Draft7) same refl
schema_of_draft Draft201909 text is = let e : Some (codes "https://json-schema.org/draft/2019-09/schema") ≡ Some text = is in let same : codes "https://json-schema.org/draft/2019-09/schema" ≡ text = cc in subst (λ t. from_schema_uri t ≡ Draft201909) same refl
schema_of_draft Draft202012 text is = let e : Some (codes "https://json-schema.org/draft/2020-12/schema") ≡ Some text = is in let same : codes "https://json-schema.org/draft/2020-12/schema" ≡ text = cc in subst (λ t. from_schema_uri t ≡ Draft202012) same refl
schema_of_draft Unknown text is = absurd (let e : None ≡ Some text = is in cc)

known : (draft : Draft) (text : List ℕ) → schema_text draft ≡ Some text → is_unknown draft ≡ false
known Draft4 text is = refl
known Draft6 text is = refl
known Draft7 text is = refl
known Draft201909 text is = refl
known Draft202012 text is = refl
known Unknown text is = absurd (let e : None ≡ Some text = is in cc)

-- the keywords that a bundler writes hold no schema, and are no others
pub id_holds_none : (draft : Draft) → HoldsNone draft (id_keyword draft)
id_holds_none Draft4 value = refl
id_holds_none Draft6 value = refl
id_holds_none Draft7 value = refl
id_holds_none Draft201909 value = refl
id_holds_none Draft202012 value = refl
id_holds_none Unknown value = refl

pub schema_holds_none : (draft : Draft) → HoldsNone draft (codes "$schema")
schema_holds_none Draft4 value = refl
schema_holds_none Draft6 value = refl
schema_holds_none Draft7 value = refl
schema_holds_none Draft201909 value = refl
schema_holds_none Draft202012 value = refl
schema_holds_none Unknown value = refl

pub is_other_than_id : (key : List ℕ) (draft : Draft) → bytes_eq key (codes "id") ≡ false → bytes_eq key (codes "$id") ≡ false → ¬ (key ≡ id_keyword draft)
is_other_than_id key Draft4 first second = apart key (codes "id") first
is_other_than_id key Draft6 first second = apart key (codes "$id") second
is_other_than_id key Draft7 first second = apart key (codes "$id") second
is_other_than_id key Draft201909 first second = apart key (codes "$id") second
is_other_than_id key Draft202012 first second = apart key (codes "$id") second
is_other_than_id key Unknown first second = apart key (codes "$id") second

id_is_no_schema : (draft : Draft) → ¬ (id_keyword draft ≡ codes "$schema")
id_is_no_schema Draft4 = apart (codes "id") (codes "$schema") refl
id_is_no_schema Draft6 = apart (codes "$id") (codes "$schema") refl
id_is_no_schema Draft7 = apart (codes "$id") (codes "$schema") refl
id_is_no_schema Draft201909 = apart (codes "$id") (codes "$schema") refl
id_is_no_schema Draft202012 = apart (codes "$id") (codes "$schema") refl
id_is_no_schema Unknown = apart (codes "$id") (codes "$schema") refl

-- ---- trees

pub object_with : (key : List ℕ) (value tree : Data) → is_object (with_member key value tree) ≡ is_object tree
object_with key value null = refl
object_with key value (boolean b) = refl
object_with key value (number n) = refl
object_with key value (string s) = refl
object_with key value (array ds) = refl
object_with key value (object ms) = refl

pub get_with : (key : List ℕ) (value tree : Data) → is_object tree ≡ true → get key (with_member key value tree) ≡ Some value
get_with key value null is = absurd (true≢false (sym is))
get_with key value (boolean b) is = absurd (true≢false (sym is))
get_with key value (number n) is = absurd (true≢false (sym is))
get_with key value (string s) is = absurd (true≢false (sym is))
get_with key value (array ds) is = absurd (true≢false (sym is))
get_with key value (object ms) is = get_member-put key value ms

object_schema : (o : Option (List ℕ)) (tree : Data) → is_object (with_schema o tree) ≡ is_object tree
object_schema None tree = refl
object_schema (Some text) tree = object_with (codes "$schema") (string text) tree

get_schema_other : (o : Option (List ℕ)) (key : List ℕ) (tree : Data) → ¬ (key ≡ codes "$schema") → get key (with_schema o tree) ≡ get key tree
get_schema_other None key tree other = refl
get_schema_other (Some text) key tree other = get_with_other key (codes "$schema") (string text) tree other

children_schema : (o : Option (List ℕ)) (draft : Draft) (tree : Data) → children draft (with_schema o tree) ≡ children draft tree
children_schema None draft tree = refl
children_schema (Some text) draft tree = children_with_member draft (codes "$schema") (string text) tree (schema_holds_none draft)

-- the tree with its identifier
abbrev pub identified : Document → Data
identified d = with_member (id_keyword d.draft) (string (base_uri d)) d.tree

pub object_embedded : (draft : Draft) (d : Document) → is_object (embedded_tree draft d) ≡ is_object d.tree
object_embedded draft d = object_schema (added_schema draft d) (identified d) ∙ object_with (id_keyword d.draft) (string (base_uri d)) d.tree

pub get_embedded : (draft : Draft) (d : Document) (key : List ℕ) → ¬ (key ≡ id_keyword d.draft) → ¬ (key ≡ codes "$schema") → get key (embedded_tree draft d) ≡ get key d.tree
get_embedded draft d key other no_schema =
    get_schema_other (added_schema draft d) key (identified d) no_schema ∙ get_with_other key (id_keyword d.draft) (string (base_uri d)) d.tree other

pub text_embedded : (draft : Draft) (d : Document) (key : List ℕ) → bytes_eq key (codes "id") ≡ false → bytes_eq key (codes "$id") ≡ false → bytes_eq key (codes "$schema") ≡ false
    → text_under key (embedded_tree draft d) ≡ text_under key d.tree
text_embedded draft d key first second third =
    ap (option_and_then as_str) (get_embedded draft d key (is_other_than_id key d.draft first second) (apart key (codes "$schema") third))

pub id_embedded : (draft : Draft) (d : Document) → is_object d.tree ≡ true → get (id_keyword d.draft) (embedded_tree draft d) ≡ Some (string (base_uri d))
id_embedded draft d is =
    get_schema_other (added_schema draft d) (id_keyword d.draft) (identified d) (id_is_no_schema d.draft) ∙ get_with (id_keyword d.draft) (string (base_uri d)) d.tree is

pub children_embedded : (draft : Draft) (d : Document) → children d.draft (embedded_tree draft d) ≡ children d.draft d.tree
children_embedded draft d =
    children_schema (added_schema draft d) d.draft (identified d) ∙ children_with_member d.draft (id_keyword d.draft) (string (base_uri d)) d.tree (id_holds_none d.draft)

-- ---- what no obstacle says

one_step : (b : Bool) (o : Obstacle) (rest : Option Obstacle) → cond b (Some o) rest ≡ None → (b ≡ false) × (rest ≡ None)
one_step true o rest is = absurd (let e : Some o ≡ None = is in cc)
one_step false o rest is = (refl, is)

negated : (b : Bool) → not b ≡ false → b ≡ true
negated true is = refl
negated false is = absurd (true≢false is)

pub record IsEmbeddable (top d : Document) : Type 0 where
  pub object : is_object d.tree ≡ true
  pub no_ref : is_beside_ref d ≡ false
  pub identifies : has_no_identifier d ≡ false
  pub kept : is_kept (base_uri top) (base_uri d) ≡ true
  pub kept_itself : is_kept (base_uri d) (base_uri d) ≡ true
  pub keeps_draft : loses_draft top.draft d ≡ false
  pub settled : is_resolved_again d ≡ false

pub embeddable : (top d : Document) → obstacle top d ≡ None → IsEmbeddable top d
embeddable top d none =
    let first = one_step (not (is_object d.tree)) NotAnObject _ none in
    let second = one_step (is_beside_ref d) IdentifierBesideRef _ first.1 in
    let third = one_step (has_no_identifier d) NotAnIdentifier _ second.1 in
    let fourth = one_step (not (is_kept (base_uri top) (base_uri d) && is_kept (base_uri d) (base_uri d))) (NotKept (base_uri d)) _ third.1 in
    let both = and_parts (is_kept (base_uri top) (base_uri d)) (is_kept (base_uri d) (base_uri d)) (negated (is_kept (base_uri top) (base_uri d) && is_kept (base_uri d) (base_uri d)) fourth.0) in
    let fifth = one_step (loses_draft top.draft d) (UnnamedDraft d.draft) _ fourth.1 in
    let sixth = one_step (is_resolved_again d) ResolvedAgain None fifth.1 in
    record { object = negated (is_object d.tree) first.0; no_ref = second.0; identifies = third.0; kept = both.0; kept_itself = both.1; keeps_draft = fifth.0; settled = sixth.0 }

-- ---- its draft

pub schema_text_same : (draft : Draft) (d : Document) → added_schema draft d ≡ None → get (codes "$schema") (embedded_tree draft d) ≡ get (codes "$schema") d.tree
schema_text_same draft d none =
    ap (λ o. get (codes "$schema") (with_schema o (identified d))) none
    ∙ get_with_other (codes "$schema") (id_keyword d.draft) (string (base_uri d)) d.tree (λ same. id_is_no_schema d.draft (sym same))

schema_text_added : (draft : Draft) (d : Document) (text : List ℕ) → is_object d.tree ≡ true → added_schema draft d ≡ Some text → get (codes "$schema") (embedded_tree draft d) ≡ Some (string text)
schema_text_added draft d text is some =
    ap (λ o. get (codes "$schema") (with_schema o (identified d))) some
    ∙ get_with (codes "$schema") (string text) (identified d) (object_with (id_keyword d.draft) (string (base_uri d)) d.tree ∙ is)

-- the `$schema` that is added is that of the draft, where none was there
record IsAdded (d : Document) (text : List ℕ) : Type 0 where
  of_draft : schema_text d.draft ≡ Some text
  none : is_some (get (codes "$schema") d.tree) ≡ false

added_by : (d : Document) (detected has : Bool) (text : List ℕ) → is_some (get (codes "$schema") d.tree) ≡ has → cond detected None (cond has None (schema_text d.draft)) ≡ Some text → IsAdded d text
added_by d true has text is some = absurd (let e : None ≡ Some text = some in cc)
added_by d false true text is some = absurd (let e : None ≡ Some text = some in cc)
added_by d false false text is some = record { of_draft = some; none = is }

is_added : (draft : Draft) (d : Document) (text : List ℕ) → added_schema draft d ≡ Some text → IsAdded d text
is_added draft d text some = added_by d (is_detected draft d) (is_some (get (codes "$schema") d.tree)) text refl some

detected_by : (b : Bool) (o : Option (List ℕ)) → (not b && not (is_some o)) ≡ false → o ≡ None → b ≡ true
detected_by true o kept none = refl
detected_by false None kept none = absurd (true≢false kept)
detected_by false (Some text) kept none = absurd (let e : Some text ≡ None = none in cc)

draft_by : (draft : Draft) (d : Document) (o : Option (List ℕ)) → added_schema draft d ≡ o → is_object d.tree ≡ true → loses_draft draft d ≡ false → detect draft (embedded_tree draft d) ≡ d.draft
draft_by draft d None none is kept =
    ap (λ o. option_map_or from_schema_uri (option_and_then as_str o) draft) (schema_text_same draft d none)
    ∙ one_draft (detect draft d.tree) d.draft (detected_by (is_detected draft d) (added_schema draft d) kept none)
draft_by draft d (Some text) some is kept =
    ap (λ o. option_map_or from_schema_uri (option_and_then as_str o) draft) (schema_text_added draft d text is some)
    ∙ schema_of_draft d.draft text (is_added draft d text some).of_draft

pub draft_embedded : (draft : Draft) (d : Document) → is_object d.tree ≡ true → loses_draft draft d ≡ false → detect draft (embedded_tree draft d) ≡ d.draft
draft_embedded draft d is kept = draft_by draft d (added_schema draft d) refl is kept

-- ---- its meta-schema

none_there : (o : Option Data) → is_some o ≡ false → o ≡ None
none_there None is = refl
none_there (Some value) is = absurd (true≢false is)

meta_by : (draft : Draft) (d : Document) (o : Option (List ℕ)) → added_schema draft d ≡ o → is_object d.tree ≡ true → schema_at (embedded_tree draft d) ≡ schema_at d.tree
meta_by draft d None none is = ap (λ o. option_and_then schema_uri (option_and_then as_str o)) (schema_text_same draft d none)
meta_by draft d (Some text) some is =
    let added = is_added draft d text some in
    ap (λ o. option_and_then schema_uri (option_and_then as_str o)) (schema_text_added draft d text is some)
    ∙ ap (λ b. cond b (Some (uri_of text >>= λ uri. Ok (with_fragment uri None))) None) (ap is_unknown (schema_of_draft d.draft text added.of_draft) ∙ known d.draft text added.of_draft)
    ∙ sym (ap (λ o. option_and_then schema_uri (option_and_then as_str o)) (none_there (get (codes "$schema") d.tree) added.none))

pub meta_embedded : (draft : Draft) (d : Document) → is_object d.tree ≡ true → schema_at (embedded_tree draft d) ≡ schema_at d.tree
meta_embedded draft d is = meta_by draft d (added_schema draft d) refl is
