use Rattle.std.proofs.Common.{◌≡◌, [], true, false, None, Some, option_map, map, filter, ap, sym, ◌∙◌, rules}
use Rattle.ref_paths.specs.Segment.{part_of}
use Rattle.ref_parts.specs.Table.{last_value}
use Rattle.ref_bundle.specs.Needed.{Site, sites_of_uris}
use Rattle.ref_bundle.specs.Bundle.{is_site}
use Rattle.ref_bundle.specs.inner.Tables.{site_of, is_other, entry_under}
use Rattle.ref_bundle.proofs.Bearing.{found, last_is_other, other_in_table, no_other, last_there, last_missing, copied_site}
use Rattle.ref_bundle.proofs.tables.Bearers.other.Goals as goal

pub returns-in_err-site : goal.returns-in_err-site
returns-in_err-site c =
    let uri = c.args.uri.now in
    let t = c.args.self.now in
    let none : last_value uri [] t.last ≡ None = search rules in
    let gives : c.from_residual.result ≡ None = search rules in
    record { value = λ layer are. ap (option_map (λ s. site_of s.now)) gives ∙ sym (no_other (sites_of_uris layer) uri (c.args.document, map part_of c.args.path.now) (last_missing uri t.last (sites_of_uris layer) are.last none)) }

pub returns-then-is_at : goal.returns-then-is_at
returns-then-is_at c =
    let uri = c.args.uri.now in
    let t = c.args.self.now in
    let at : Site = (c.args.document, map part_of c.args.path.now) in
    let some : last_value uri [] t.last ≡ Some c.in_ok-site.site.now = search rules in
    let same : is_site (site_of c.in_ok-site.site.now) at ≡ true = search rules in
    record {
      value = λ layer are.
          let bs = sites_of_uris layer in
          let e = last_there uri t.last bs c.in_ok-site.site.now are.last some in
          copied_site c.get-then-is_at.result.0
          ∙ ap (option_map site_of) c.get-then-is_at.ensures.value
          ∙ found uri t.others (filter (is_other (Some (map entry_under bs))) bs) are.others
          ∙ sym (other_in_table bs uri at e.0 e.1 (ap (λ s. is_site s at) e.2 ∙ same));
    }

pub returns : goal.returns
returns c =
    let uri = c.args.uri.now in
    let t = c.args.self.now in
    let at : Site = (c.args.document, map part_of c.args.path.now) in
    let some : last_value uri [] t.last ≡ Some c.in_ok-site.site.now = search rules in
    let differs : is_site (site_of c.in_ok-site.site.now) at ≡ false = search rules in
    record {
      value = λ layer are.
          let bs = sites_of_uris layer in
          let e = last_there uri t.last bs c.in_ok-site.site.now are.last some in
          ap (λ s. Some s) (sym e.2) ∙ sym (last_is_other bs uri at e.0 e.1 (ap (λ s. is_site s at) e.2 ∙ differs));
    }
