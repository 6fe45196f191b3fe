use Rattle.std.proofs.Common.{◌≡◌, false, map, take}
use Rattle.std.specs.List.{list_any}
use Rattle.ref_changes.specs.Changes.{is_texts}
use Rattle.ref_changes.specs.Views.{texts_of}
use Rattle.ref_changes.proofs.names.is_among.Given as goal

abbrev pub invariant-loop-other : goal.invariant-loop-other
invariant-loop-other l = list_any (is_texts (texts_of l.texts)) (map texts_of (take l.other-index l.all)) ≡ false
