use Rattle.std.proofs.Common.{◌≡◌, ℕ, List, Option, None, Some, refl, ap, arith}
use Rattle.ref_paths.specs.Path.{Part}
use Rattle.ref_definitions.proofs.OnLiterals.{world_on_literals}
use Rattle.ref_definitions.specs.Lookup.{lookup}
use Rattle.ref_index.specs.Spots.{Spot}
use Rattle.ref_resolver.specs.Locations.{lookup_location}
use Rattle.referencing.specs.Rows.{spot}
use Rattle.referencing.proofs.laws.location_rows.Goals as goal

abbrev number : Option (ℕ × Spot) → ℕ
number None = 0
number (Some at) = at.1.document

same_document : (m n : ℕ) (path : List Part) → spot 0 m path ≡ spot 0 n path → m ≡ n
same_document m n path is = ap number is

pub returns : goal.returns
unfolding world_on_literals lookup_location lookup
returns c = record {
  rows = record {
    first_of_two = refl;
    second_of_two = refl;
    not_the_other = λ is. let same : 1 ≡ 0 = same_document 1 0 _ is in omega (arith, same);
    by_pointer = refl;
    last_identifier = refl;
    last_anchor = refl;
    own_anchor = refl;
    of_a_parent = refl;
    in_a_list = refl;
    identified_in_a_list = refl;
    outermost_of_the_scope = refl;
    not_the_base = λ is. let same : 1 ≡ 0 = same_document 1 0 _ is in omega (arith, same);
    without_a_scope = refl;
    nowhere = refl;
    not_marked = refl;
    last_marked = refl;
    up_to_one_not_marked = refl;
    base_not_marked = refl;
    where_the_last_marked_is = refl;
  };
}
