use Rattle.std.proofs.Common.{◌≡◌, [], false, not, None, Some, option_map, map, ap, sym, ◌∙◌, rules}
use Rattle.std.specs.Option.{option_map_or}
use Rattle.ref_paths.specs.Segment.{part_of}
use Rattle.ref_parts.specs.Table.{last_value}
use Rattle.ref_bundle.specs.Needed.{Site}
use Rattle.ref_bundle.specs.Bundle.{is_site}
use Rattle.ref_bundle.specs.inner.Tables.{site_of}
use Rattle.ref_bundle.proofs.Bearing.{tabled_last}
use Rattle.ref_bundle.proofs.tables.is_other_in.Goals as goal

pub returns-in-Some : goal.returns-in-Some
returns-in-Some c =
    let at : Site = (c.args.document, map part_of c.args.path.now) in
    let found : last_value c.args.uri.now [] c.args.table.now ≡ Some c.in-Some.site.now = search rules in
    ap not c.is_at.ensures ∙ sym (ap (λ o. not (option_map_or (λ s. is_site s at) o false)) (tabled_last c.args.uri.now c.args.table.now ∙ ap (option_map site_of) found))

pub returns-in-None : goal.returns-in-None
returns-in-None c =
    let at : Site = (c.args.document, map part_of c.args.path.now) in
    let found : last_value c.args.uri.now [] c.args.table.now ≡ None = search rules in
    sym (ap (λ o. not (option_map_or (λ s. is_site s at) o false)) (tabled_last c.args.uri.now c.args.table.now ∙ ap (option_map site_of) found))
