use Rattle.std.proofs.Common.{◌≡◌, ◌∙◌, ◌++◌, Err, refl, ap, sym, subst, map, flat_map, codes, rules}
use Rattle.ref_error.specs.Retrieving.{trees_of}
use Rattle.ref_findings.specs.Held.{held_source}
use Rattle.ref_calls.specs.Given.{given_of}
use Rattle.ref_calls.specs.Outcome.{Stops}
use Rattle.ref_serve.specs.Faults.{sources_under}
use Rattle.ref_serve.specs.Mending.{document_of, IsMended}
use Rattle.ref_serve.specs.inner.Mended.{world_above, tree_maybe, with_trees, AreGathered, GivesMended}
use Rattle.ref_serve.proofs.MendedWhole.{mended_wholly, mended_nowhere, mended_in_none}
use Rattle.ref_serve.proofs.mending.mended.Goals as goal

pub returns-in_err-held : goal.returns-in_err-held
returns-in_err-held c =
    let parents = world_above c.args.above in
    let documents = map given_of c.args.documents.items in
    let remote = trees_of c.args.remote.now in
    let stop = c.in_err-held.field-0.0 in
    let lent : c.as_slice.result.now ≡ c.args.documents.items = search rules in
    let same : c.from_residual.result ≡ Err stop = search rules in
    subst (GivesMended (IsMended c.args.draft c.args.limit documents remote parents)) (sym same)
    (mended_nowhere c.args.draft c.args.limit documents remote parents stop (subst (λ ds. Stops stop (sources_under (codes "documents") (map given_of ds))) lent c.in_err-held.ensures))

pub returns-in_err-made : goal.returns-in_err-made
returns-in_err-made c =
    let parents = world_above c.args.above in
    let documents = map given_of c.args.documents.items in
    let remote = trees_of c.args.remote.now in
    let gathered = map held_source c.in_ok-held.held.items in
    let stop = c.in_err-made.field-0.0 in
    let lent : c.as_slice.result.now ≡ c.args.documents.items = search rules in
    let lent_all : c.as_slice-2.result.now ≡ c.add_held.new.documents.items = search rules in
    let whole : map given_of c.as_slice-2.result.now ≡ documents ++ flat_map document_of gathered = ap (map given_of) lent_all ∙ c.in_ok-add_held.ensures in
    let are = subst (λ ds. AreGathered c.args.draft c.args.limit remote (sources_under (codes "documents") (map given_of ds)) gathered) lent c.in_ok-held.ensures in
    let same : c.from_residual-in_err-made.result ≡ Err stop = search rules in
    subst (GivesMended (IsMended c.args.draft c.args.limit documents remote parents)) (sym same)
    (mended_in_none c.args.draft c.args.limit documents remote (map given_of c.as_slice-2.result.now) parents gathered stop are whole c.in_err-made.ensures)

pub returns : goal.returns
returns c =
    let parents = world_above c.args.above in
    let documents = map given_of c.args.documents.items in
    let remote = trees_of c.args.remote.now in
    let gathered = map held_source c.in_ok-held.held.items in
    let lent : c.as_slice.result.now ≡ c.args.documents.items = search rules in
    let lent_all : c.as_slice-2.result.now ≡ c.add_held.new.documents.items = search rules in
    let whole : map given_of c.as_slice-2.result.now ≡ documents ++ flat_map document_of gathered = ap (map given_of) lent_all ∙ c.in_ok-add_held.ensures in
    let are = subst (λ ds. AreGathered c.args.draft c.args.limit remote (sources_under (codes "documents") (map given_of ds)) gathered) lent c.in_ok-held.ensures in
    let made = c.in_ok-made.made in
    mended_wholly c.args.draft c.args.limit documents remote (map given_of c.as_slice-2.result.now) parents gathered
    made (record { documents = c.in_ok-documents.documents; faults = made.faults }) are whole c.in_ok-made.ensures
    (c.in_ok-documents.ensures ∙ ap (λ ds. with_trees (map given_of ds) (map tree_maybe made.trees.items)) (sym lent_all)) refl
