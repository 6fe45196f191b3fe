-- What contracts see of a survey.
use Rattle.std.specs.Prelude.{List, map, ◌++◌}
use Rattle.ref_reach.specs.Places.{Place}
use Rattle.ref_reach.specs.Views.{place_of}
use Rattle.ref_reach.specs.Knowing.{known_of}
use Rattle.ref_further.specs.declared.survey.Survey as rust_survey

-- the places that it lists
abbrev pub surveyed : rust_survey.Survey → List Place
surveyed s =
    (known_of s.documents).own ++ map place_of s.described.items ++ map place_of s.led.items
