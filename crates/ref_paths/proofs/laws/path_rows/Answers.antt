use Rattle.std.proofs.Common.{refl, arith}
use Rattle.ref_paths.specs.Rows.{PathRows}
use Rattle.ref_paths.proofs.laws.path_rows.Goals as goal

pub returns : goal.returns
returns c = record { paths = paths; links = record { no_link = refl; last_link = λ link. refl } }
  where
    paths : PathRows
    paths = record {
      child_by_key = refl;
      child_by_index = refl;
      no_child_by_digits = refl;
      no_child_by_index = refl;
      at_root = refl;
      at_item = refl;
      past_the_end = refl;
      greatest_fits = (omega arith, tt);
      next_does_not = λ h. omega (arith, h.0);
      last_of_root = refl;
      last_of_two = refl;
      parent_of_root = refl;
      parent_of_one = refl;
      parent_of_two = refl;
      equal_keys = refl;
      other_keys = refl;
      equal_indexes = refl;
      other_indexes = refl;
      key_of_digits = refl;
      index_and_key = refl;
      equal_paths = refl;
      shorter_path = refl;
      other_path = refl;
      first_segment = refl;
      index_segment = refl;
      index_owns_nothing = tt;
      borrowed_key_owns_nothing = λ key. tt;
      owned_key_owns_its_text = λ key h. h;
    }
