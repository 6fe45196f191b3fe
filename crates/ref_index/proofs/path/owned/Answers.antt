use Rattle.std.proofs.Common.{◌≡◌, ◌∙◌, sym, ap, map, reverse, [], ◌++◌, None, rules}
use Rattle.std.specs.Option.{option_map_or}
use Rattle.ref_paths.specs.Segment.{part_of}
use Rattle.ref_index.proofs.Paths.{map-reverse}
use Rattle.ref_index.proofs.path.owned.Goals as goal

pub returns : goal.returns
returns c =
    let kept : c.args.path.now ≡ option_map_or (λ node. node.now) c.loop-rest.rest [] ++ reverse (map part_of c.loop-rest.parts.items) = c.loop-rest.invariant in
    let none : c.loop-rest.rest ≡ None = search rules in
    record { value = ap (map part_of) c.reverse.ensures.items ∙ map-reverse part_of c.loop-rest.parts.items ∙ sym (rw none at kept) }
