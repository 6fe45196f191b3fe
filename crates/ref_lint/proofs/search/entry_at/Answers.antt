use Rattle.std.proofs.Common.{◌≡◌, [], map, codes, Some, refl, rules}
use Rattle.serde_json.specs.View.{view}
use Rattle.ref_draft.specs.Schema.{text_under}
use Rattle.ref_paths.specs.Segment.{part_of}
use Rattle.ref_definitions.specs.Lookup.{lookup}
use Rattle.ref_lint.specs.inner.Listed.{IsWhy}
use Rattle.ref_lint.proofs.Saying.{unresolvable_problem}
use Rattle.ref_lint.proofs.search.entry_at.Goals as goal

pub returns-clause-entry : goal.returns-clause-entry
returns-clause-entry c =
    let world = c.args.registry.now in
    let place = c.args.place in
    let path = map part_of place.path.items in
    let reference = c.in-Some.reference.now in
    let text : text_under (codes "$ref") (view place.value.now) ≡ Some reference = search rules in
    let why : IsWhy (lookup world (record { base = place.base.value; scope = [] }) reference) (Some c.in-Some-2.error) = search rules in (
      record { document = place.document; path = path; reference = reference; fault = why.0 },
      unresolvable_problem world place.document path place.base.value reference (text_under (codes "$ref") (view place.value.now)) why.0 text why.1,
      (refl, refl, refl, why.2),
    )
