use Rattle.std.proofs.Common.{◌≡◌, ◌++◌, length, map, string_bytes}
use denote.Text.{Utf8}
use denote.Shadow.{shadow}
use Rattle.ref_files.specs.declared.name.Name.{Name}
use Rattle.ref_files.specs.Meant.{AreNames, decoded_segments}
use Rattle.ref_files.proofs.name.names_of.Given as goal

abbrev pub invariant-segments : goal.invariant-segments
invariant-segments l =
    (decoded_segments l.fn.path ≡ map (λ (name : Name). string_bytes name.text) l.names.items ++ decoded_segments l.rest)
    × AreNames (map (λ (name : Name). string_bytes name.text) l.names.items) × shadow (Utf8 l.rest)

abbrev pub decreases-segments : goal.decreases-segments
decreases-segments l = length l.rest
