use Rattle.std.proofs.Common.{◌≡◌, ◌∙◌, ◌+◌, ◌∷◌, [], List, drop, true, false, refl, sym, subst, arith, rules}
use Rattle.std.proofs.lemmas.List.{drop_all}
use Rattle.ref_findings.specs.declared.finding.Finding as rust
use Rattle.ref_serve.proofs.Passing.{IsSought, next_left, one_not, one_is, none_is}
use Rattle.ref_serve.proofs.mending.root_identifier.Goals as goal

pub loop-finding-init : goal.loop-finding-init
loop-finding-init c = λ fs zip. (fs, zip, refl)

pub returns-then-is_of_root : goal.returns-then-is_of_root
returns-then-is_of_root c = λ fs zip.
    let l = c.loop-finding in
    let f = c.finding-item.result in
    let found = c.args.found.now in
    let left = drop (l.finding-index + 1) found in
    let steps : drop l.finding-index found ≡ f ∷ left = next_left found l.finding-index f c.loop-finding-test.true c.finding-item.is in
    let is : c.is_of_root.result ≡ true = search rules in
    one_is f left fs (subst (λ (fs' : List rust.Finding). IsSought fs' fs) steps (l.invariant fs zip)) (λ g says. sym is ∙ c.is_of_root.ensures g says)

pub loop-finding-preserved : goal.loop-finding-preserved
loop-finding-preserved c = λ fs zip.
    let l = c.loop-finding in
    let f = c.finding-item.result in
    let found = c.args.found.now in
    let left = drop (l.finding-index + 1) found in
    let steps : drop l.finding-index found ≡ f ∷ left = next_left found l.finding-index f c.loop-finding-test.true c.finding-item.is in
    let is : c.is_of_root.result ≡ false = search rules in
    one_not f left fs (subst (λ (fs' : List rust.Finding). IsSought fs' fs) steps (l.invariant fs zip)) (λ g says. sym is ∙ c.is_of_root.ensures g says)

pub returns : goal.returns
returns c = λ fs zip.
    let l = c.loop-finding in
    let found = c.args.found.now in
    let none : drop l.finding-index found ≡ [] = drop_all l.finding-index found (omega (arith, c.loop-finding-test.false)) in
    none_is fs (subst (λ (fs' : List rust.Finding). IsSought fs' fs) none (l.invariant fs zip))
