use Rattle.std.proofs.Common.{◌≡◌, ◌++◌, map, drop}
use Rattle.serde_json.specs.View.{view}
use Rattle.ref_reach.specs.Views.{place_of}
use Rattle.ref_serve.specs.Surveys.{surveyed_object}
use Rattle.ref_serve.proofs.surveying.push_all.Given as goal

abbrev pub invariant-loop-place : goal.invariant-loop-place
invariant-loop-place l =
    map view l.list.items ++ map surveyed_object (map place_of (drop l.place-index l.places)) ≡ map view l.initial.list.items ++ map surveyed_object (map place_of l.places)
