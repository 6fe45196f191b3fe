use Rattle.std.proofs.Common.{◌≡◌, ℕ, List, ◌∙◌, None, Some, map, slice_get, refl, rules}
use Rattle.serde_json.specs.View.{view}
use Rattle.ref_paths.specs.Path.{Part, value_at}
use Rattle.ref_paths.specs.Segment.{part_of}
use Rattle.ref_resolver.specs.Resolving.{found_of}
use Rattle.ref_resolver.specs.Locations.{location_view}
use Rattle.ref_reach.specs.Leading.{origin}
use Rattle.ref_reach.specs.Knowing.{known_of}
use Rattle.ref_reach.proofs.Found.{found_is}
use Rattle.ref_reach.proofs.Growing.{got, lent_item}
use Rattle.ref_reach.proofs.leading.found_at.Goals as goal

pub returns-in_default-2 : goal.returns-in_default-2
returns-in_default-2 c =
    let known = known_of c.args.documents.now in
    let found = found_of c.args.resolved in
    let at : ℕ × List Part = (c.in-Some.document, map part_of c.in-Some.path.items) in
    let tree = view c.in-Some-get.root.now.now in
    let path = map part_of c.in-Some.path.items in
    let from : Some at ≡ origin known (location_view c.args.location).1 = search rules in
    let root : slice_get c.args.documents.now.values.items c.in-Some.document ≡ Some c.in-Some-get.root.now = search (rules, lent_item c.deref.result.now c.in-Some.document c.in-Some-get.root c.in-Some-get.ensures.lookup) in
    let there : slice_get known.trees c.in-Some.document ≡ Some tree = got (λ v. view v.now) c.args.documents.now.values.items c.in-Some.document c.in-Some-get.root.now root in
    let none : None ≡ value_at tree path = search rules in
    found_is known found (location_view c.args.location).1 at tree path None from there refl none

pub returns : goal.returns
returns c =
    let known = known_of c.args.documents.now in
    let found = found_of c.args.resolved in
    let at : ℕ × List Part = (c.in-Some.document, map part_of c.in-Some.path.items) in
    let tree = view c.in-Some-get.root.now.now in
    let path = map part_of c.in-Some.path.items in
    let value = view c.in-Some-2.value.now in
    let from : Some at ≡ origin known (location_view c.args.location).1 = search rules in
    let root : slice_get c.args.documents.now.values.items c.in-Some.document ≡ Some c.in-Some-get.root.now = search (rules, lent_item c.deref.result.now c.in-Some.document c.in-Some-get.root c.in-Some-get.ensures.lookup) in
    let there : slice_get known.trees c.in-Some.document ≡ Some tree = got (λ v. view v.now) c.args.documents.now.values.items c.in-Some.document c.in-Some-get.root.now root in
    let is : Some value ≡ value_at tree path = search rules in
    (search rules) ∙ found_is known found (location_view c.args.location).1 at tree path (Some value) from there refl is
