-- How a document is in a bundle: with its base URI as its identifier, and its draft's `$schema` where that is needed (2020-12
-- Core, 9.3.1).
use Rattle.std.specs.Prelude.{ℕ, Bool, false, not, ◌&&◌, ◌||◌, ◌==◌, if◌then◌else◌, List, codes, bytes_eq, is_some, Option, Some, None, Result, Ok, Err}
use Rattle.std.specs.List.{list_any}
use Rattle.std.specs.Option.{unwrap_or, option_map_or}
use Rattle.std.specs.Result.{result_ok}
use Rattle.serde_json.specs.Data.{Data, null, boolean, number, string, array, object, put}
use Rattle.serde_json.specs.Find.{get}
use Rattle.ref_draft.specs.declared.draft.Draft.{Draft}
use Rattle.ref_draft.specs.declared.draft.Draft.TheVariants.{Draft4, Draft6, Draft7, Draft201909, Draft202012, Unknown}
use Rattle.ref_draft.specs.Keywords.{id_keyword, is_before_2019}
use Rattle.ref_draft.specs.Schema.{text_under, trimmed_text, detect, identifier, begins_with_hash}
use Rattle.ref_draft.specs.Order.{rank}
use Rattle.ref_draft.specs.Children.{is_object}
use Rattle.ref_uri.specs.Targets.{Refusal, uri_against}
use Rattle.ref_definitions.specs.World.{Document}
use Rattle.ref_draft.specs.Anchors.{anchors}
use Rattle.ref_definitions.specs.Places.{root, base_within}
use Rattle.ref_definitions.specs.Lookup.{is_dynamic}

-- whether two drafts are one
abbrev pub is_draft : Draft → Draft → Bool
is_draft d e = rank d == rank e

-- the base URI of a document: its root's identifier against its URI, or its URI
abbrev pub base_uri : Document → List ℕ
base_uri d = unwrap_or (result_ok (root d).base) d.uri

-- the `$schema` of a draft: a custom meta-schema has none
abbrev pub schema_text : Draft → Option (List ℕ)
schema_text Draft4 = Some (codes "http://json-schema.org/draft-04/schema#")
schema_text Draft6 = Some (codes "http://json-schema.org/draft-06/schema#")
schema_text Draft7 = Some (codes "http://json-schema.org/draft-07/schema#")
schema_text Draft201909 = Some (codes "https://json-schema.org/draft/2019-09/schema")
schema_text Draft202012 = Some (codes "https://json-schema.org/draft/2020-12/schema")
schema_text Unknown = None

-- whether a schema of this draft detects the document's draft on its tree
abbrev pub is_detected : Draft → Document → Bool
is_detected draft d = is_draft (detect draft d.tree) d.draft

-- the `$schema` that a document has to get below a root of this draft: none where its draft is detected, or where it
-- has that key
abbrev pub added_schema : Draft → Document → Option (List ℕ)
added_schema draft d =
    if is_detected draft d then None
    else (if is_some (get (codes "$schema") d.tree) then None
    else schema_text d.draft)

-- an object with this value under a key, in place of the one there or beside the others; other values stay
abbrev pub with_member : List ℕ → Data → Data → Data
with_member key value null = null
with_member key value (boolean b) = boolean b
with_member key value (number n) = number n
with_member key value (string s) = string s
with_member key value (array ds) = array ds
with_member key value (object ms) = object (put key value ms)

-- a tree with this `$schema`, where there is one
abbrev pub with_schema : Option (List ℕ) → Data → Data
with_schema None tree = tree
with_schema (Some text) tree = with_member (codes "$schema") (string text) tree

-- the tree of a document below a root of this draft
abbrev pub embedded_tree : Draft → Document → Data
embedded_tree draft d =
    with_schema (added_schema draft d)
    (with_member (id_keyword d.draft) (string (base_uri d)) d.tree)

-- whether a bundle has another identifier for a document than its own: one was added, or its text is another
abbrev pub has_other_identifier : Document → Bool
has_other_identifier d =
    not
    (option_map_or (λ text. bytes_eq text (base_uri d)) (text_under (id_keyword d.draft) d.tree)
    false)

-- whether the member under a key of a document's root is added below a root of this draft, or has another value there
abbrev pub is_added_under : Draft → Document → List ℕ → Bool
is_added_under draft d key =
    (bytes_eq key (id_keyword d.draft) && has_other_identifier d)
    || (bytes_eq key (codes "$schema") && is_some (added_schema draft d))

-- why a document can't be embedded
pub data Obstacle : Type 0 where
  -- it is no object
  NotAnObject : Obstacle
  -- of Draft 4, 6 or 7 with a `$ref` at its root, beside which an identifier doesn't count
  IdentifierBesideRef : Obstacle
  -- the key of its identifier holds what is no identifier: no text, or before 2019-09 an anchor
  NotAnIdentifier : Obstacle
  -- an identifier doesn't give this base URI back, below the root or against itself: the `#` characters at the end of a
  -- text don't count
  NotKept : List ℕ → Obstacle
  -- no `$schema` could be added by which this draft is detected
  UnnamedDraft : Draft → Obstacle
  -- its root has a dynamic anchor, whose look-up resolves the identifier once more, against the base URI that it gave, and gets
  -- another URI, which an absolute identifier wouldn't give
  ResolvedAgain : Obstacle

-- whether a text, as the identifier of a document below a root with this base, gives this URI
abbrev pub is_uri_of : Result (List ℕ) Refusal → List ℕ → Bool
is_uri_of (Ok given) uri = bytes_eq given uri
is_uri_of (Err refusal) uri = false

abbrev pub is_kept : List ℕ → List ℕ → Bool
is_kept outer uri =
    not (begins_with_hash uri) && is_uri_of (uri_against outer (trimmed_text uri)) uri

-- whether an identifier of the document would not count beside its `$ref`
abbrev pub is_beside_ref : Document → Bool
is_beside_ref d = is_before_2019 d.draft && is_some (get (codes "$ref") d.tree)

-- whether something is under the identifier's keyword that is none
abbrev pub has_no_identifier : Document → Bool
has_no_identifier d =
    is_some (get (id_keyword d.draft) d.tree) && not (is_some (identifier d.draft d.tree))

-- whether the document's draft would be another one, also with what is added
abbrev pub loses_draft : Draft → Document → Bool
loses_draft draft d = not (is_detected draft d) && not (is_some (added_schema draft d))

-- whether the root of a document has a dynamic anchor
abbrev pub has_dynamic_anchor : Document → Bool
has_dynamic_anchor d = list_any (λ a. is_dynamic a.1) (anchors d.draft d.tree)

-- whether it has one, and its identifier against the base URI that it gave gives another
abbrev pub is_resolved_again : Document → Bool
is_resolved_again d =
    has_dynamic_anchor d
    && not (is_uri_of (base_within (base_uri d) (identifier d.draft d.tree)) (base_uri d))

-- why a document can't be embedded below a root: the first reason
abbrev pub obstacle : Document → Document → Option Obstacle
obstacle top d =
    if not (is_object d.tree) then Some NotAnObject
    else (if is_beside_ref d then Some IdentifierBesideRef
    else (if has_no_identifier d then Some NotAnIdentifier
    else (if not (is_kept (base_uri top) (base_uri d) && is_kept (base_uri d) (base_uri d)) then
    Some (NotKept (base_uri d))
    else (if loses_draft top.draft d then Some (UnnamedDraft d.draft)
    else (if is_resolved_again d then Some ResolvedAgain
    else None)))))
