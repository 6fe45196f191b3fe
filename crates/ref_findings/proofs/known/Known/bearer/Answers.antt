use Rattle.std.proofs.Common.{◌≡◌, ◌∙◌, ◌==◌, false, Some, ap, sym, map, option_map, refl, rules}
use Rattle.std.specs.Prelude.{slice_get}
use Rattle.std.proofs.lemmas.Option.{slice_get-map}
use Rattle.std.specs.Option.{option_copied}
use Rattle.ref_findings.specs.Bearers.{other_bearer}
use Rattle.ref_findings.specs.inner.Seen.{site_of}
use Rattle.ref_index.proofs.Looking.{got}
use Rattle.ref_findings.proofs.Tables.{other_is}
use Rattle.ref_findings.proofs.known.Known.bearer.Goals as goal

pub returns : goal.returns
returns c =
    let sites = c.args.self.now.sites.now in
    let first = c.in-Some.first.now in
    let site = c.in-Some-get.site.now in
    let differ : (first == c.args.number) ≡ false = search rules in
    let there : slice_get sites first ≡ Some site = sym (got sites first c.get.result c.get.ensures.lookup) ∙ ap option_copied c.in-Some-get.is in (
      site_of site,
      ap (λ o. other_bearer (map site_of sites) c.args.number (option_copied o)) c.in-Some.is ∙ other_is (map site_of sites) c.args.number first (site_of site) differ (slice_get-map site_of sites first ∙ ap (option_map site_of) there),
      refl,
      c.in_ok-path.ensures.value,
    )
