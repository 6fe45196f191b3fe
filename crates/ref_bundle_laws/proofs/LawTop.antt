-- What the root of a bundle keeps: everything but its definitions.
use Rattle.std.proofs.Common.{◌≡◌, ℕ, false, cond, ◌&&◌, ◌||◌, List, [], ◌∷◌, ◌++◌, map, Some, None, is_some, codes, option_map, option_and_then, bytes_eq, refl, ap, subst, ◌∙◌}
use Rattle.std.specs.Option.{option_to_list}
use Rattle.serde_json.specs.Data.{Data, object}
use Rattle.serde_json.specs.Find.{get, as_str}
use Rattle.ref_draft.specs.declared.draft.Draft.{Draft}
use Rattle.ref_draft.specs.declared.draft.Draft.TheVariants.{Draft4, Draft6, Draft7, Draft201909, Draft202012, Unknown}
use Rattle.ref_draft.specs.Keywords.{id_keyword, is_before_2019}
use Rattle.ref_draft.specs.Schema.{text_under, trimmed_text, begins_with_hash, is_hidden, identifier}
use Rattle.ref_draft.specs.Anchors.{Kind, Plain, Dynamic, after_hash, in_identifier, named_by, anchors}
use Rattle.ref_draft.specs.Children.{is_object}
use Rattle.ref_definitions.specs.World.{Document}
use Rattle.ref_bundle.specs.Bundle.{definitions_keyword, with_all, member_of, definitions_of, tree_with}
use Rattle.ref_bundle_laws.proofs.LawMembers.{HoldsMembers, get_with_other}
use Rattle.ref_bundle_laws.proofs.LawPut.{apart, object_with}

pub definitions_hold : (draft : Draft) → HoldsMembers draft (definitions_keyword draft)
definitions_hold Draft4 ms = refl
definitions_hold Draft6 ms = refl
definitions_hold Draft7 ms = refl
definitions_hold Draft201909 ms = refl
definitions_hold Draft202012 ms = refl
definitions_hold Unknown ms = refl

pub other_than_definitions : (key : List ℕ) (draft : Draft) → bytes_eq key (codes "definitions") ≡ false → bytes_eq key (codes "$defs") ≡ false → ¬ (key ≡ definitions_keyword draft)
other_than_definitions key Draft4 first second = apart key (codes "definitions") first
other_than_definitions key Draft6 first second = apart key (codes "definitions") first
other_than_definitions key Draft7 first second = apart key (codes "definitions") first
other_than_definitions key Draft201909 first second = apart key (codes "$defs") second
other_than_definitions key Draft202012 first second = apart key (codes "$defs") second
other_than_definitions key Unknown first second = apart key (codes "$defs") second

id_is_no_definitions : (draft : Draft) → ¬ (id_keyword draft ≡ definitions_keyword draft)
id_is_no_definitions Draft4 = apart (codes "id") (codes "definitions") refl
id_is_no_definitions Draft6 = apart (codes "$id") (codes "definitions") refl
id_is_no_definitions Draft7 = apart (codes "$id") (codes "definitions") refl
id_is_no_definitions Draft201909 = apart (codes "$id") (codes "$defs") refl
id_is_no_definitions Draft202012 = apart (codes "$id") (codes "$defs") refl
id_is_no_definitions Unknown = apart (codes "$id") (codes "$defs") refl

pub get_top : (top : Document) (es : List (ℕ × Document)) (key : List ℕ) → ¬ (key ≡ definitions_keyword top.draft) → get key (tree_with top es) ≡ get key top.tree
get_top top [] key other = refl
get_top top (e ∷ es) key other = get_with_other key (definitions_keyword top.draft) (object (with_all (map (member_of top.draft) (e ∷ es)) (definitions_of top))) top.tree other

pub object_top : (top : Document) (es : List (ℕ × Document)) → is_object (tree_with top es) ≡ is_object top.tree
object_top top [] = refl
object_top top (e ∷ es) = object_with (definitions_keyword top.draft) (object (with_all (map (member_of top.draft) (e ∷ es)) (definitions_of top))) top.tree

pub text_top : (top : Document) (es : List (ℕ × Document)) (key : List ℕ) → bytes_eq key (codes "definitions") ≡ false → bytes_eq key (codes "$defs") ≡ false → text_under key (tree_with top es) ≡ text_under key top.tree
text_top top es key first second = ap (option_and_then as_str) (get_top top es key (other_than_definitions key top.draft first second))

-- an identifier depends on the values of its keyword and of `$ref`
pub identifier_alike : (draft : Draft) (w v : Data) → get (id_keyword draft) w ≡ get (id_keyword draft) v → get (codes "$ref") w ≡ get (codes "$ref") v → identifier draft w ≡ identifier draft v
identifier_alike draft w v ids refs =
    ap (λ o. option_and_then (λ text. cond (is_hidden draft w text) None (Some (trimmed_text text))) (option_and_then as_str o)) ids
    ∙ ap (λ r. option_and_then (λ text. cond (is_before_2019 draft && (is_some r || begins_with_hash text)) None (Some (trimmed_text text))) (text_under (id_keyword draft) v)) refs

pub identifier_top : (top : Document) (es : List (ℕ × Document)) → identifier top.draft (tree_with top es) ≡ identifier top.draft top.tree
identifier_top top es =
    identifier_alike top.draft (tree_with top es) top.tree (get_top top es (id_keyword top.draft) (id_is_no_definitions top.draft))
    (get_top top es (codes "$ref") (other_than_definitions (codes "$ref") top.draft refl refl))

named_top : (top : Document) (es : List (ℕ × Document)) (key : List ℕ) (kind : Kind) → bytes_eq key (codes "definitions") ≡ false → bytes_eq key (codes "$defs") ≡ false
    → named_by key kind (tree_with top es) ≡ named_by key kind top.tree
named_top top es key kind first second = ap (λ o. option_to_list (option_map (λ name. (name, kind)) o)) (text_top top es key first second)

in_identifier_top : (top : Document) (es : List (ℕ × Document)) → in_identifier top.draft (tree_with top es) ≡ in_identifier top.draft top.tree
in_identifier_top top es =
    ap (λ o. option_to_list (option_map (λ name. (name, Plain)) (option_and_then after_hash (option_and_then as_str o)))) (get_top top es (id_keyword top.draft) (id_is_no_definitions top.draft))

both_top : (top : Document) (es : List (ℕ × Document)) → (named_by (codes "$anchor") Plain (tree_with top es) ++ named_by (codes "$dynamicAnchor") Dynamic (tree_with top es)) ≡ (named_by (codes "$anchor") Plain top.tree ++ named_by (codes "$dynamicAnchor") Dynamic top.tree)
both_top top es =
    ap (λ names. names ++ named_by (codes "$dynamicAnchor") Dynamic (tree_with top es)) (named_top top es (codes "$anchor") Plain refl refl)
    ∙ ap (λ names. named_by (codes "$anchor") Plain top.tree ++ names) (named_top top es (codes "$dynamicAnchor") Dynamic refl refl)

anchors_by : (top : Document) (es : List (ℕ × Document)) (own : Draft) → top.draft ≡ own → anchors own (tree_with top es) ≡ anchors own top.tree
anchors_by top es Draft4 is = subst (λ o. in_identifier o (tree_with top es) ≡ in_identifier o top.tree) is (in_identifier_top top es)
anchors_by top es Draft6 is = subst (λ o. in_identifier o (tree_with top es) ≡ in_identifier o top.tree) is (in_identifier_top top es)
anchors_by top es Draft7 is = subst (λ o. in_identifier o (tree_with top es) ≡ in_identifier o top.tree) is (in_identifier_top top es)
anchors_by top es Draft201909 is = named_top top es (codes "$anchor") Plain refl refl
anchors_by top es Draft202012 is = both_top top es
anchors_by top es Unknown is = both_top top es

pub anchors_top : (top : Document) (es : List (ℕ × Document)) → anchors top.draft (tree_with top es) ≡ anchors top.draft top.tree
anchors_top top es = anchors_by top es top.draft refl
