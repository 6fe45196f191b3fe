-- The reasons why a document can't be embedded, in two parts.
use Rattle.std.specs.Prelude.{not, ◌&&◌, if◌then◌else◌, Option, Some, None}
use Rattle.ref_draft.specs.Children.{is_object}
use Rattle.ref_definitions.specs.World.{Document}
use Rattle.ref_bundle.specs.Embedding.{Obstacle, NotAnObject, IdentifierBesideRef, NotAnIdentifier, NotKept, UnnamedDraft, ResolvedAgain, base_uri, is_beside_ref, has_no_identifier, is_kept, loses_draft, is_resolved_again}

-- by its tree
abbrev pub tree_obstacle : Document → Option Obstacle
tree_obstacle d =
    if not (is_object d.tree) then Some NotAnObject
    else (if is_beside_ref d then Some IdentifierBesideRef
    else (if has_no_identifier d then Some NotAnIdentifier
    else None))

-- by its URI, its draft and its anchor
abbrev pub uri_obstacle : Document → Document → Option Obstacle
uri_obstacle top d =
    if not (is_kept (base_uri top) (base_uri d) && is_kept (base_uri d) (base_uri d)) then
    Some (NotKept (base_uri d))
    else (if loses_draft top.draft d then Some (UnnamedDraft d.draft)
    else (if is_resolved_again d then Some ResolvedAgain
    else None))
