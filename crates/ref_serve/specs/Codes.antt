-- That open registries are plain data: the codes by which contracts see them as values.
use Rattle.std.specs.Prelude.{ℕ, List, Option}
use Rattle.std.specs.Coded.{Coded, coded×, coded_ℕ, coded_list, coded_option}
use Rattle.ref_definitions.specs.World.{World}
use Rattle.ref_index.specs.Codes.{world_code}

abbrev pub open_code : Coded (World × List ℕ)
open_code = coded× world_code (coded_list coded_ℕ)

abbrev pub slot_code : Coded ((World × List ℕ) × List (List (List ℕ)))
slot_code = coded× open_code (coded_list (coded_list (coded_list coded_ℕ)))

abbrev pub state_code : Coded (List (Option ((World × List ℕ) × List (List (List ℕ)))))
state_code = coded_list (coded_option slot_code)
