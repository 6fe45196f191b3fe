use Rattle.std.proofs.Common.{◌≡◌, option_map, take}
use Rattle.ref_files.specs.Maps.{best_of}
use Rattle.ref_files.proofs.Left.{seen}
use Rattle.ref_files.proofs.maps.Maps.path_of.Given as goal

abbrev pub invariant-loop-map : goal.invariant-loop-map
invariant-loop-map l = option_map seen l.best ≡ best_of l.uri (take l.map-index l.self.maps.items)
