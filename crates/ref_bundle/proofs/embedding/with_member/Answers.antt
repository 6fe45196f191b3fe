use Rattle.std.proofs.Common.{refl, ap, sym, ◌∙◌}
use Rattle.serde_json.specs.Data.{object}
use Rattle.serde_json.specs.View.{view}
use Rattle.serde_json.proofs.Views.{view-Object}
use Rattle.ref_bundle.specs.Embedding.{with_member}
use Rattle.ref_bundle.proofs.Trees.{inserted}
use Rattle.ref_bundle.proofs.embedding.with_member.Goals as goal

pub returns-in_ok-insert-in-Object : goal.returns-in_ok-insert-in-Object
returns-in_ok-insert-in-Object c =
    let key = c.args.key.now in
    let value = view c.args.value in
    let map = c.in-Object.map in
    view-Object c.insert.new.self
    ∙ ap object (inserted _ map.entries c.in_ok-from_str-in-Object.field-0 c.args.value key value c.in_ok-insert-in-Object.ensures.entries c.in_ok-from_str-in-Object.ensures.ok refl)
    ∙ ap (with_member key value) (sym (view-Object map) ∙ ap view (sym c.in-Object.is))
