use Rattle.std.proofs.Common.{◌≡◌, ◌+◌, ◌∷◌, [], List, ap, sym, subst, ◌∙◌, map, drop, Some, None, rules, arith}
use Rattle.std.specs.Prelude.{slice_get, unwrap_or}
use Rattle.std.specs.List.{AllZip}
use Rattle.std.proofs.lemmas.List.{drop_all, map-append}
use Rattle.ref_index.proofs.Looking.{got}
use Rattle.ref_findings.specs.declared.finding.Finding as rust
use Rattle.ref_findings.specs.Findings.{Finding}
use Rattle.ref_findings.specs.Entries.{IsFindingOf, SaysFindings}
use Rattle.ref_calls.specs.Given.{given_of}
use Rattle.ref_serve.specs.Mending.{mended_tree}
use Rattle.ref_serve.specs.inner.Mended.{tree_maybe}
use Rattle.ref_serve.proofs.Passing.{AreMended, next_left, found_left, none_left, one_in_place, all_in_place, no_more_in_place}
use Rattle.ref_serve.proofs.mending.trees_in_place.Goals as goal

pub loop-number-init : goal.loop-number-init
loop-number-init c = λ fss zip.
    let documents = map given_of c.args.documents.now in
    subst (λ ts. AreMended documents documents (map tree_maybe ts) c.args.found.now fss) (sym c.in_ok-trees.ensures.items) (fss, zip, λ trees is. is)

pub returns-in_default : goal.returns-in_default
returns-in_default c = λ fss zip.
    let l = c.loop-number in
    let documents = map given_of c.args.documents.now in
    let others = map given_of (drop l.number c.args.documents.now) in
    let past : slice_get c.args.found.now l.number ≡ None = sym (got c.args.found.now l.number c.get.result c.get.ensures.lookup) ∙ search rules in
    no_more_in_place documents others (map tree_maybe l.trees.items) fss (subst (λ ls. AreMended documents others (map tree_maybe l.trees.items) ls fss) (none_left c.args.found.now l.number past) (l.invariant fss zip))

pub loop-number-preserved : goal.loop-number-preserved
loop-number-preserved c = λ fss zip.
    let l = c.loop-number in
    let i = l.number in
    let documents = map given_of c.args.documents.now in
    let done = map tree_maybe l.trees.items in
    let left = map given_of (drop (i + 1) c.args.documents.now) in
    let found = drop (i + 1) c.args.found.now in
    let d = c.index-documents-number.result in
    let list = c.in-Some.list.now in
    let tree = c.in_ok-tree.tree in
    let there : slice_get c.args.found.now i ≡ Some list = sym (got c.args.found.now i c.get.result c.get.ensures.lookup) ∙ search rules in
    let steps : drop i c.args.documents.now ≡ d ∷ drop (i + 1) c.args.documents.now = next_left c.args.documents.now i d (search rules) (search rules) in
    let lent : c.as_slice.result.now ≡ list.items = search rules in
    let of_list : (fs : List Finding) → SaysFindings list fs → unwrap_or (tree_maybe tree) (given_of d).1 ≡ mended_tree fs (given_of d).1 =
    λ fs says. c.in_ok-tree.ensures fs (subst (λ (ls : List rust.Finding). AllZip IsFindingOf ls fs) (sym lent) says) in
    let was = subst (λ ls. AreMended documents (given_of d ∷ left) done ls fss) (found_left c.args.found.now i list there)
    (subst (λ ds. AreMended documents (map given_of ds) done (drop i c.args.found.now) fss) steps (l.invariant fss zip)) in
    subst (λ ts. AreMended documents left ts found fss) (sym (ap (map tree_maybe) c.in_ok-push.ensures.items ∙ map-append tree_maybe l.trees.items (tree ∷ [])))
    (one_in_place documents (given_of d) left done (tree_maybe tree) list found fss was of_list)

pub returns : goal.returns
returns c = λ fss zip.
    let l = c.loop-number in
    let documents = map given_of c.args.documents.now in
    let none : drop l.number c.args.documents.now ≡ [] = drop_all l.number c.args.documents.now (omega arith) in
    all_in_place documents (map tree_maybe l.trees.items) (drop l.number c.args.found.now) fss
    (subst (λ ds. AreMended documents (map given_of ds) (map tree_maybe l.trees.items) (drop l.number c.args.found.now) fss) none (l.invariant fss zip))
