-- A builder above other registries.
use Rattle.ref_definitions.specs.World.{World}
use Rattle.referencing.specs.Builder.{Builder}

-- the builder with these layers as its parents
abbrev pub above_layers : {R : Type 0} → World → Builder R → Builder R
above_layers parents b = record b { parents = parents }
