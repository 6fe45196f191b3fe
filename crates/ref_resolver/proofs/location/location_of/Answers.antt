use Rattle.std.proofs.Common.{◌≡◌, map, ap, ◌∙◌, rules}
use Rattle.ref_paths.specs.Segment.{part_of}
use Rattle.ref_resolver.proofs.Standing.{place_there}
use Rattle.ref_resolver.proofs.location.location_of.Goals as goal

pub returns-clause-there : goal.returns-clause-there
returns-clause-there c = λ w p at.
    let slice : c.as_slice.result.now ≡ c.args.found.place.entry.now.path.items = search rules in
    let path = at.there.path in
    record {
      layer = at.layer;
      in_world = at.numbered;
      document = path.document;
      in_layer = path.numbered;
      there = place_there at.layer c.args.found.place p (map part_of c.in_ok-path.path.items) at.there (c.in_ok-path.ensures ∙ ap (map part_of) slice);
    }

pub returns-clause-spot : goal.returns-clause-spot
returns-clause-spot c =
    let entry = c.args.found.place.entry.now in
    let slice : c.as_slice.result.now ≡ entry.path.items = search rules in
    ap (λ path. (c.args.found.layer, record { document = entry.document; path = path })) (c.in_ok-path.ensures ∙ ap (map part_of) slice)
