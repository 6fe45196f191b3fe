-- Which file of which folder a URI means, where folders are under prefixes.
use Rattle.std.specs.Prelude.{◌≡◌, ℕ, ◌&&◌, Bool, not, is_some, if◌then◌else◌, nat_lt, List, length, string_bytes, Option, None, Some}
use Rattle.std.specs.List.{fold}
use Rattle.ref_uri.specs.Components.{scheme, query, fragment}
use Rattle.ref_uri.specs.Reference.{is_uri_reference}
use Rattle.ref_files.specs.Plain.{path_of}
use Rattle.ref_files.specs.Meant.{AreNames, decoded_segments, path_after}
use Rattle.ref_files.specs.declared.maps.Map.{Map}

-- a map, and what a URI has below its prefix
pub record Below : Type 0 where
  pub map : Map
  pub path : List ℕ

-- of two maps with a URI below their prefixes the one with the longer prefix, and of those that are as long the first
abbrev pub longer : Option Below → Map → Option (List ℕ) → Option Below
longer best map None = best
longer None map (Some path) = Some (record { map = map; path = path })
longer (Some best) map (Some path) =
    if nat_lt (length (string_bytes best.map.prefix)) (length (string_bytes map.prefix))
    then Some (record { map = map; path = path }) else Some best

-- the map that counts for a URI
abbrev pub best_of : List ℕ → List Map → Option Below
best_of uri maps =
    fold (λ (best : Option Below) (map : Map). longer best map (path_after (string_bytes map.prefix) uri)) None maps

-- a path is that of the names below the folder of the map that counts, each of which is plain
pub record IsMeantBy (below : Below) (path : List ℕ) : Type 0 where
  pub names : AreNames (decoded_segments below.path)
  pub is : path ≡ path_of (string_bytes below.map.folder) (decoded_segments below.path)

abbrev pub IsMeant : Option Below → List ℕ → Type 0
IsMeant None path = ⊥
IsMeant (Some below) path = IsMeantBy below path

-- whether documents can be under a URI: an absolute one without a query and a fragment (RFC 3986, 4.3)
abbrev pub is_base : List ℕ → Bool
is_base base =
    is_uri_reference base && (is_some (scheme base) && not (is_some (fragment base)) && not (is_some (query base)))
