use Rattle.std.proofs.Common.{◌≡◌, Err, sym, subst, map, rules}
use Rattle.std.specs.List.{AllZip}
use Rattle.ref_findings.specs.Entries.{source_of, SaysFindings}
use Rattle.ref_findings.specs.Unmet.{unmet}
use Rattle.ref_calls.specs.Given.{given_of}
use Rattle.ref_serve.specs.Mending.{unmet_above, mended_above}
use Rattle.ref_serve.specs.inner.Mended.{world_above, GivesInPlace}
use Rattle.ref_serve.proofs.MendedWhole.{made_in_place, none_in_place}
use Rattle.ref_serve.proofs.mending.in_place.Goals as goal

pub returns-in_err-sources : goal.returns-in_err-sources
returns-in_err-sources c =
    let parents = world_above c.args.above in
    let documents = map given_of c.args.documents.now in
    let stop = c.in_err-sources.field-0.0 in
    let same : c.from_residual.result ≡ Err stop = search rules in
    subst (GivesInPlace documents (mended_above parents c.args.draft documents)) (sym same) (none_in_place parents c.args.draft documents stop c.in_err-sources.ensures)

pub returns : goal.returns
returns c =
    let parents = world_above c.args.above in
    let draft = c.args.draft in
    let documents = map given_of c.args.documents.now in
    let sources = map source_of c.in_ok-sources.sources.items in
    let found = unmet draft sources in
    let above = map (unmet_above parents) found in
    let lent : c.as_slice.result.now ≡ c.in_ok-sources.sources.items = search rules in
    let says : AllZip SaysFindings c.in_ok-found.found.items found = subst (λ ss. AllZip SaysFindings c.in_ok-found.found.items (unmet draft (map source_of ss))) lent c.in_ok-found.ensures.value in
    let passed : AllZip SaysFindings c.in_ok-found-2.found.items above = c.in_ok-found-2.ensures found says in
    let lists : c.as_slice-2.result.now ≡ c.in_ok-found-2.found.items = search rules in
    made_in_place parents draft documents sources (record { trees = c.in_ok-trees.trees; faults = c.in_ok-faults.faults }) c.in_ok-sources.ensures (c.in_ok-trees.ensures above (subst (λ ls. AllZip SaysFindings ls above) (sym lists) passed)) (c.in_ok-faults.ensures above passed)
