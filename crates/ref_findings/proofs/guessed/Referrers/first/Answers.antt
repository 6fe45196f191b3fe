use Rattle.std.proofs.Common.{◌≡◌, ◌∙◌, [], None, Some, ap, sym, map, option_map, option_copied, rules}
use Rattle.std.specs.Prelude.{slice_get, option_and_then}
use Rattle.std.proofs.lemmas.Option.{slice_get-map}
use Rattle.ref_index.proofs.Looking.{got}
use Rattle.ref_findings.specs.inner.Seen.{site_of}
use Rattle.ref_findings.proofs.Tables.{last_is_first, copied_map}
use Rattle.ref_findings.proofs.guessed.Referrers.first.Goals as goal

pub returns-in_default : goal.returns-in_default
returns-in_default c =
    let sites = map site_of c.args.self.now.sites.now in
    let none : option_copied c.get.result.0 ≡ None = search rules in
    let found = c.get.ensures.value ∙ last_is_first c.args.uri.now [] c.args.self.now.table.now in
    ap (option_and_then (slice_get sites)) (sym none ∙ found)

pub returns : goal.returns
returns c =
    let sites = c.args.self.now.sites.now in
    let n = c.in-Some.number.now in
    let some : option_copied c.get.result.0 ≡ Some n = search rules in
    let found = c.get.ensures.value ∙ last_is_first c.args.uri.now [] c.args.self.now.table.now in
    copied_map site_of c.get-2.result ∙ ap (option_map site_of) (got sites n c.get-2.result c.get-2.ensures.lookup) ∙ sym (slice_get-map site_of sites n)
    ∙ ap (option_and_then (slice_get (map site_of sites))) (sym some ∙ found)
