-- What embedded documents get.
use Rattle.std.specs.Prelude.{ℕ, List, codes, bytes_eq, if◌then◌else◌, Option, Some, None}
use Rattle.std.specs.Option.{option_or}
use Rattle.ref_draft.specs.declared.draft.Draft.{Draft}
use Rattle.ref_draft.specs.Keywords.{id_keyword}
use Rattle.ref_definitions.specs.World.{Document}
use Rattle.ref_bundle.specs.Embedding.{base_uri, added_schema}

-- the text that a document gets under a key, below a root of this draft
abbrev pub added_text : Draft → Document → List ℕ → Option (List ℕ)
added_text draft d key =
    option_or (if bytes_eq key (codes "$schema") then added_schema draft d else None)
    (if bytes_eq key (id_keyword d.draft) then Some (base_uri d) else None)
