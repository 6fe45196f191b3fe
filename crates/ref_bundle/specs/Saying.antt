-- What the program's places, bundles and errors say, and how refusals are displayed.
use Rattle.std.specs.Prelude.{◌≡◌, ℕ, List, ◌++◌, codes, decimal, string_bytes, map, option_map, Result, Ok, Err, ⊤, Vec}
use Rattle.std.specs.declared.alloc.Global.{Global}
use Rattle.serde_json.specs.View.{view}
use Rattle.ref_paths.specs.Segment.{part_of}
use Rattle.ref_bundle.specs.Needed.{Seen, Further}
use Rattle.ref_bundle.specs.Embedding as embedding
use Rattle.ref_bundle.specs.Embedding.{Obstacle}
use Rattle.ref_bundle.specs.Bundle as bundle
use Rattle.ref_bundle.specs.Bundle.{Bundle, BundleRefusal, Problem, Embedded}
use Rattle.ref_bundle.specs.declared.own.Spot as rust_spot
use Rattle.ref_bundle.specs.declared.bundled.Bundle as rust_bundle
use Rattle.ref_bundle.specs.declared.bundled.Embedded as rust_embedded
use Rattle.ref_bundle.specs.declared.error.Obstacle as rust_obstacle
use Rattle.ref_bundle.specs.declared.error.Obstacle.TheVariants as obstacles
use Rattle.ref_bundle.specs.declared.error.Problem as rust_problem
use Rattle.ref_bundle.specs.declared.error.Problem.TheVariants as problems
use Rattle.ref_bundle.specs.declared.error.Refusal as rust_refusal
use Rattle.ref_bundle.specs.declared.error.BundleError as rust_error
use Rattle.ref_bundle.specs.declared.error.BundleError.TheVariants as errors

-- ---- places

-- a place of the program as it is seen
abbrev pub seen_spot : rust_spot.Spot → Seen
seen_spot s =
    record {
      document = s.document;
      path = map part_of s.path.items;
      value = view s.value.now;
      draft = s.draft;
      base = Ok s.base.value;
    }

-- further places of the program
abbrev pub further_of : List (Vec rust_spot.Spot Global) → Further
further_of further = map (λ spots. map seen_spot spots.items) further

-- ---- bundles and errors

-- why a document can't be embedded
abbrev pub obstacle_said : rust_obstacle.Obstacle → Obstacle
obstacle_said obstacles.NotAnObject = embedding.NotAnObject
obstacle_said obstacles.IdentifierBesideRef = embedding.IdentifierBesideRef
obstacle_said obstacles.NotAnIdentifier = embedding.NotAnIdentifier
obstacle_said (obstacles.NotKept uri) = embedding.NotKept uri.value
obstacle_said (obstacles.UnnamedDraft draft) = embedding.UnnamedDraft draft
obstacle_said obstacles.ResolvedAgain = embedding.ResolvedAgain

-- a problem
abbrev pub problem_said : rust_problem.Problem → Problem
problem_said problems.NoDocument = bundle.NoDocument
problem_said (problems.NotEmbedded obstacle) = bundle.NotEmbedded (obstacle_said obstacle)
problem_said problems.NoMap = bundle.NoMap
problem_said (problems.KeyTaken uri) = bundle.KeyTaken uri.value
problem_said (problems.SharedUri uri document path) =
    bundle.SharedUri uri.value document (map part_of path.items)
problem_said (problems.ReplacedUri uri base) = bundle.ReplacedUri uri.value base.value
problem_said (problems.ShadowedUri uri base document path) =
    bundle.ShadowedUri uri.value base.value document (map part_of path.items)
problem_said (problems.AddedMember uri key) = bundle.AddedMember uri.value (string_bytes key)

-- a refusal
abbrev pub refusal_said : rust_refusal.Refusal → BundleRefusal
refusal_said r =
    record {
      document = r.document;
      path = map part_of r.path.items;
      problem = problem_said r.problem;
    }

-- what is listed of a document
abbrev pub embedded_said : rust_embedded.Embedded → Embedded
embedded_said e =
    record {
      document = e.document;
      uri = e.uri.value;
      adds_id = e.adds_id;
      schema = option_map (λ s. s.now) e.schema;
    }

-- a bundle
abbrev pub bundle_said : rust_bundle.Bundle → Bundle
bundle_said b = record { value = view b.value; embedded = map embedded_said b.embedded.items }

-- the error says why there is no bundle, or is out of memory
abbrev pub IsRefusalOf : Result Bundle BundleRefusal → rust_error.BundleError → Type 0
IsRefusalOf answer (errors.Refused refusal) = answer ≡ Err (refusal_said refusal)
IsRefusalOf answer (errors.Memory error) = ⊤

-- ---- texts

-- what is displayed of what keeps a document out of a bundle
abbrev pub obstacle_text : Obstacle → List ℕ
obstacle_text embedding.NotAnObject = codes "it is no object"
obstacle_text embedding.IdentifierBesideRef =
    codes "an identifier doesn't count beside the `$ref` at its root"
obstacle_text embedding.NotAnIdentifier =
    codes "the keyword of its identifier holds what is no identifier"
obstacle_text (embedding.NotKept uri) = codes "its URI '" ++ uri ++ codes "' can't be an identifier"
obstacle_text (embedding.UnnamedDraft draft) = codes "no `$schema` names its draft"
obstacle_text embedding.ResolvedAgain =
    codes "its identifier is relative, and its root has a dynamic anchor"

-- of a problem
abbrev pub problem_text : Problem → List ℕ
problem_text bundle.NoDocument = codes "there is no such document"
problem_text (bundle.NotEmbedded obstacle) =
    codes "the document can't be part of a bundle: " ++ obstacle_text obstacle
problem_text bundle.NoMap = codes "the value of the definitions keyword is no object"
problem_text (bundle.KeyTaken uri) = codes "there is a definition '" ++ uri ++ codes "' already"
problem_text (bundle.SharedUri uri document path) =
    codes "a subschema of document " ++ decimal document ++ codes " has the URI '" ++ uri
    ++ codes "' too"
problem_text (bundle.ReplacedUri uri base) =
    codes "the identifier of the document '" ++ uri ++ codes "' replaces that URI by '" ++ base
    ++ codes "'"
problem_text (bundle.ShadowedUri uri base document path) =
    codes "the identifier of '" ++ uri ++ codes "' gives the URI '" ++ base
    ++ codes "', which document " ++ decimal document ++ codes " has"
problem_text (bundle.AddedMember uri key) =
    codes "the pointer leads to the member '" ++ key ++ codes "' in the document '" ++ uri
    ++ codes "', which the bundle adds or changes"

-- of a refusal
abbrev pub refusal_text : BundleRefusal → List ℕ
refusal_text r = codes "Document " ++ decimal r.document ++ codes ": " ++ problem_text r.problem

-- of an error
abbrev pub error_text : rust_error.BundleError → List ℕ
error_text (errors.Refused refusal) = refusal_text (refusal_said refusal)
error_text (errors.Memory error) = codes "Out of memory"
