-- What an own document of a registry refers to.
use Rattle.std.specs.Prelude.{ℕ, ◌==◌, Bool, List, codes, filter, Option, None, option_and_then, Result, Ok}
use Rattle.std.specs.List.{filter_map}
use Rattle.std.specs.Result.{result_ok}
use Rattle.referencing.specs.Schema.{text_under}
use Rattle.referencing.specs.Reference.{with_fragment}
use Rattle.referencing.specs.Targets.{Refusal, uri_against}
use Rattle.referencing.specs.Results.{◌>>=◌}
use Rattle.referencing.specs.World.{Layer}
use Rattle.referencing.specs.Listing.{Listed, local_places}

-- the URI that a reference at a base means, without its fragment
abbrev pub uri_of : Result (List ℕ) Refusal → List ℕ → Option (List ℕ)
uri_of base reference =
    result_ok (base >>= λ base. uri_against base reference >>= λ uri. Ok (with_fragment uri None))

-- the URI that the `$ref` of a listed place means, without its fragment, where it has one
abbrev pub refers_to : Listed → Option (List ℕ)
refers_to p = option_and_then (uri_of p.base) (text_under (codes "$ref") p.value)

-- whether a listed place is one of the document with this number
abbrev pub is_of : ℕ → Listed → Bool
is_of document p = p.document == document

-- those that the places of the document with this number refer to, in the order of the places
abbrev pub referred_by : Layer → ℕ → List (List ℕ)
referred_by layer document =
    filter_map refers_to (filter (is_of document) (local_places layer))
