-- What contracts see of the crate's types.
use Rattle.std.specs.Prelude.{string_bytes}
use Rattle.ref_reach.specs.Views.{place_of}
use Rattle.ref_reach.specs.Knowing.{known_of}
use Rattle.ref_reach.specs.Leading.{Known}
use Rattle.ref_further.specs.declared.survey.Survey as rust_survey
use Rattle.ref_changes.specs.Views.{moves_in}
use Rattle.ref_comparison.specs.declared.difference.What as rust_what
use Rattle.ref_comparison.specs.declared.difference.What.TheVariants as whats
use Rattle.ref_comparison.specs.declared.difference.Difference as rust_difference
use Rattle.ref_comparison.specs.declared.sides.Sides as rust_sides
use Rattle.ref_comparison.specs.Further.{Sides, What, NoPlace, OtherBase, OtherReferences, OtherTarget, Difference}

-- what is known of the documents of a survey
abbrev pub known_in : rust_survey.Survey → Known
known_in s = known_of s.documents

abbrev pub sides_of : rust_sides.Sides → Sides
sides_of s =
    record {
      moves = moves_in s.moves.now;
      before = known_of s.before.now;
      after = known_of s.after.now;
    }

abbrev pub what_of : rust_what.What → What
what_of whats.NoPlace = NoPlace
what_of whats.OtherBase = OtherBase
what_of whats.OtherReferences = OtherReferences
what_of (whats.OtherTarget keyword before after) =
    OtherTarget (string_bytes keyword)
    (record { text = string_bytes before; now = string_bytes after })

abbrev pub difference_of : rust_difference.Difference → Difference
difference_of d = record { place = place_of d.place.now; what = what_of d.what }
