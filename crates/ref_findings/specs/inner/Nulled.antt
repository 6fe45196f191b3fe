-- What is seen of the texts that keep a registry from being prepared.
use Rattle.std.specs.Prelude.{ℕ, Bool, List, [], ◌∷◌, ◌++◌, map, bytes_eq, option_map}
use Rattle.std.specs.List.{list_any}
use Rattle.std.specs.Option.{option_to_list}
use Rattle.ref_paths.specs.Path.{Part, Key}
use Rattle.ref_paths.specs.Segment.{part_of}
use Rattle.ref_findings.specs.declared.finding.Finding as rust

-- whether a URI is one of these
abbrev pub is_met : List (List ℕ) → List ℕ → Bool
is_met uris uri = list_any (λ known. bytes_eq known uri) uris

-- the path of the text that a finding of the program is about
abbrev pub said_path : rust.Finding → List (List Part)
said_path f =
    map (λ keyword. map part_of f.path.items ++ Key keyword ∷ [])
    (option_to_list (option_map (λ k. k.now) f.keyword))
