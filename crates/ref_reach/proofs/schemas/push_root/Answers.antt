use Rattle.std.proofs.Common.{◌≡◌, Some, None, slice_get, rules}
use Rattle.serde_json.specs.View.{view}
use Rattle.ref_reach.specs.Knowing.{known_of}
use Rattle.ref_reach.proofs.Roots.{adds_without_uri, adds_without_tree, adds_root}
use Rattle.ref_reach.proofs.schemas.push_root.Goals as goal

pub returns-in_default : goal.returns-in_default
returns-in_default c =
    let none : slice_get (known_of c.args.documents.now).uris c.args.number ≡ None = search rules in
    adds_without_uri (known_of c.args.documents.now) c.args.draft c.args.number c.args.places.now.items none

pub returns-in_default-value_at : goal.returns-in_default-value_at
returns-in_default-value_at c =
    let there : slice_get (known_of c.args.documents.now).uris c.args.number ≡ Some c.in-Some.uri.now.value = search rules in
    let none : slice_get (known_of c.args.documents.now).trees c.args.number ≡ None = search rules in
    adds_without_tree (known_of c.args.documents.now) c.args.draft c.args.number c.in-Some.uri.now.value c.args.places.now.items there none

pub returns : goal.returns
returns c =
    let there : slice_get (known_of c.args.documents.now).uris c.args.number ≡ Some c.in-Some.uri.now.value = search rules in
    let is : slice_get (known_of c.args.documents.now).trees c.args.number ≡ Some (view c.in-Some-value_at.value.now) = search rules in
    adds_root (known_of c.args.documents.now) c.args.draft c.args.number c.in-Some.uri.now.value (view c.in-Some-value_at.value.now) c.args.places.now.items c.push.new.self.items c.in_ok-root.root there is c.in_ok-root.ensures.value c.in_ok-push.ensures.items
