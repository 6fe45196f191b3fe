-- The base URI along a path: identifiers of the subschemas on the way change it. Which parts lead to a subschema is given by
-- the drafts' keywords; the rule is this library's own.
use Rattle.std.specs.Prelude.{ℕ, List, [], ◌∷◌, ◌++◌, bytes_eq, None, Result, Ok, if◌then◌else◌}
use Rattle.serde_json.specs.Data.{Data}
use Rattle.ref_paths.specs.Path.{Part}
use Rattle.ref_draft.specs.declared.draft.Draft.{Draft}
use Rattle.ref_draft.specs.Schema.{identifier}
use Rattle.ref_draft.specs.Children.{is_object}
use Rattle.ref_draft.specs.ScanSteps.{scan}
use Rattle.ref_uri.specs.Targets.{Refusal}
use Rattle.ref_definitions.specs.Results.{◌>>=◌}
use Rattle.ref_definitions.specs.Places.{base_within}

-- the base at a place of a path, and the parts since it last changed
pub record Along : Type 0 where
  pub base : List ℕ
  pub since : List Part

-- a URI as the base: where it is another, the parts are forgotten
abbrev pub changed_base : Along → List ℕ → Along
changed_base along uri =
    if bytes_eq uri along.base then along else record { base = uri; since = [] }

-- The base after one more part, which leads to a value of a resource of a draft: the value's identifier counts where the parts
-- since the last change are accepted at it. That the scan is what `Scan.IsAccepted` says is the law `scan_is_accepted` of
-- `ref_draft`.
abbrev pub along_part : Draft → Along → Part → Data → Result Along Refusal
along_part draft along part value =
    let since = along.since ++ part ∷ [] in
    base_within along.base
    (if scan draft (is_object value) since then identifier draft value else None)
    >>= λ uri. Ok (changed_base (record along { since = since }) uri)
