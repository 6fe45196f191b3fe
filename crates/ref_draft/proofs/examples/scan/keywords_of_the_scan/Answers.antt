use Rattle.std.proofs.Common.{refl}
use Rattle.ref_draft.proofs.examples.scan.keywords_of_the_scan.Goals as goal

pub returns : goal.returns
returns c = record { value_keyword = refl; contains_in_4 = refl; const_in_4 = refl; defs_in_4 = refl; elements_keyword = refl; members_keyword = refl; no_child_keyword = refl }
