-- The first of the refusals.
use Rattle.std.specs.Prelude.{ℕ, ◌==◌, List, [], ◌∷◌, ◌++◌, flat_map, map, is_some, if◌then◌else◌, Option, Some, None, Result, Ok, Err}
use Rattle.std.specs.Option.{option_to_list}
use Rattle.serde_json.specs.Data.{Data}
use Rattle.serde_json.specs.Find.{get}
use Rattle.ref_paths.specs.Path.{Key, path_eq}
use Rattle.ref_definitions.specs.World.{Document, Layer, World}
use Rattle.ref_bundle.specs.Needed.{Seen, Further, sites_of_uris}
use Rattle.ref_bundle.specs.Embedding.{base_uri, obstacle}
use Rattle.ref_bundle.specs.Bundle.{Problem, KeyTaken, NotEmbedded, root_refusals, BundleRefusal, at_path, shared_uri, seen_problems}
use Rattle.ref_bundle.specs.inner.Seen.{own_uri_of}

abbrev pub first : {X : Type 0} → List X → Option X
first [] = None
first (x ∷ xs) = Some x

-- what the first of two checks found, or else what the second did
abbrev pub first_found : {X E : Type 0} → Result (Option X) E → Result (Option X) E
    → Result (Option X) E
first_found (Ok None) other = other
first_found (Ok (Some x)) other = Ok (Some x)
first_found (Err error) other = Err error

-- the URIs that a place has, where its document has this one
abbrev pub uris_seen : List ℕ → Seen → List (List ℕ)
uris_seen uri s = (if path_eq s.path [] then uri ∷ [] else []) ++ option_to_list (own_uri_of s)

-- the problems of the URIs that it has
abbrev pub shared_seen : Layer → List ℕ → Seen → List Problem
shared_seen layer uri s =
    flat_map (shared_uri (sites_of_uris layer) (s.document, s.path)) (uris_seen uri s)

-- the refusals of a place: of these, and of what it refers to
abbrev pub refusals_seen : Layer → Further → World → ℕ × Document → List ℕ → Seen
    → List BundleRefusal
refusals_seen layer further world top uri s =
    map (at_path s.document s.path)
    (shared_seen layer uri s ++ seen_problems layer further world top s)

-- a key that a value has already
abbrev pub taken_in : ℕ → List ℕ → Data → ℕ × Document → List BundleRefusal
taken_in top keyword value e =
    if is_some (get (base_uri e.1) value) then
    at_path top (Key keyword ∷ Key (base_uri e.1) ∷ []) (KeyTaken (base_uri e.1)) ∷ []
    else []

-- the refusals of a document as a whole
abbrev pub whole_refusals : ℕ × Document → List (ℕ × Document) → ℕ × Document → List BundleRefusal
whole_refusals top es e =
    if e.0 == top.0 then root_refusals top es
    else map (λ o. at_path e.0 [] (NotEmbedded o)) (option_to_list (obstacle top.1 e.1))
