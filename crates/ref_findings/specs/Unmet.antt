-- The texts for which a registry can't be prepared of sources: those that mean no URI, and references into what isn't there. And
-- the trees with `null` in place of each.
use Rattle.std.specs.Prelude.{ℕ, Bool, List, [], ◌∷◌, ◌++◌, map, flat_map, codes, if◌then◌else◌, Option, Some, None, Result, Ok, Err}
use Rattle.std.specs.Option.{option_to_list}
use Rattle.std.specs.List.{enumerate_from}
use Rattle.serde_json.specs.Data.{Data}
use Rattle.ref_paths.specs.Path.{Part, Key}
use Rattle.ref_draft.specs.declared.draft.Draft.{Draft}
use Rattle.ref_draft.specs.Keywords.{id_keyword}
use Rattle.ref_uri.specs.Targets.{Refusal}
use Rattle.ref_definitions.specs.Wants.{reference_at, schema_at}
use Rattle.ref_findings.specs.Places.{nearest_base}
use Rattle.ref_findings.specs.Sources.{Source, places_in}
use Rattle.ref_findings.specs.Gathered.{is_known}
use Rattle.ref_findings.specs.Mending.{with_nulls}
use Rattle.ref_findings.specs.Bearers.{Site}
use Rattle.ref_findings.specs.Findings.{Finding, Problem, InvalidUri, MissingDocument, finding_at}

-- ---- which texts

-- of what an identifier or a `$schema` means: it is no URI
abbrev pub refused_problem : Option (Result (List ℕ) Refusal) → Option Problem
refused_problem None = None
refused_problem (Some (Ok uri)) = None
refused_problem (Some (Err refusal)) = Some (InvalidUri refusal)

-- of what a `$ref` points into: it is no URI, or one that isn't there
abbrev pub unmet_problem : (List ℕ → Bool) → Option (Result (List ℕ) Refusal) → Option Problem
unmet_problem there None = None
unmet_problem there (Some (Ok uri)) = if there uri then None else Some (MissingDocument uri)
unmet_problem there (Some (Err refusal)) = Some (InvalidUri refusal)

-- at a place, where such URIs are there: of its identifier, its `$ref` and its `$schema`
abbrev pub unmet_at : (List ℕ → Bool) → Site → List Finding
unmet_at there s =
    finding_at s (Some (id_keyword s.1.draft)) (refused_problem (Some s.1.base))
    ++ (finding_at s (Some (codes "$ref"))
    (unmet_problem there (reference_at (nearest_base s.1) s.1.value))
    ++ finding_at s (Some (codes "$schema")) (refused_problem (schema_at s.1.value)))

-- in a source with its number, place by place
abbrev pub unmet_in : Draft → (List ℕ → Bool) → ℕ × Source → List Finding
unmet_in draft there e = flat_map (λ p. unmet_at there (e.0, p)) (places_in draft e.1)

-- in each source, where what all of them have is there
abbrev pub unmet : Draft → List Source → List (List Finding)
unmet draft sources =
    map (unmet_in draft (λ uri. is_known draft sources uri)) (enumerate_from 0 sources)

-- ---- trees without them

-- the path of the text that a finding is about
abbrev pub text_path : Finding → List (List Part)
text_path f = map (λ keyword. f.path ++ Key keyword ∷ []) (option_to_list f.keyword)

-- a tree with `null` in place of the texts that findings are about
abbrev pub without_texts : List Finding → Data → Data
without_texts fs tree = with_nulls (flat_map text_path fs) tree
