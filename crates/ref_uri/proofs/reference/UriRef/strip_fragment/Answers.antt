use Rattle.std.proofs.Common.{◌≡◌, ◌∙◌, Some, None, List, ℕ, sym, ap, subst, refl, arith}
use Rattle.ref_uri.specs.Components.{scheme, fragment}
use Rattle.ref_uri.specs.Reference.{with_fragment}
use Rattle.ref_uri.specs.inner.Lengths.{IsParsed}
use Rattle.ref_uri.proofs.FragmentLemmas.{fragment_fits, parsed-with_fragment, with_fragment-cut, with_fragment-none, scheme-with_fragment}
use Rattle.ref_uri.proofs.reference.UriRef.strip_fragment.Goals as goal

pub overflow_sub-self-inside : goal.overflow_sub-self-inside
overflow_sub-self-inside c =
    let is : fragment c.self.inside.text.now ≡ Some c.in-Some.fragment.now = ap fragment c.self.view_is ∙ sym c.in-Some.ensures.value in
    omega (arith, fragment_fits c.self.inside.text.now c.in-Some.fragment.now is)

pub overflow_sub-self-inside-in-Some : goal.overflow_sub-self-inside-in-Some
overflow_sub-self-inside-in-Some c =
    let is : fragment c.self.inside.text.now ≡ Some c.in-Some.fragment.now = ap fragment c.self.view_is ∙ sym c.in-Some.ensures.value in
    omega (arith, fragment_fits c.self.inside.text.now c.in-Some.fragment.now is)

pub invariant_of-t-4 : goal.invariant_of-t-4
invariant_of-t-4 c =
    let is : fragment c.self.inside.text.now ≡ Some c.in-Some.fragment.now = ap fragment c.self.view_is ∙ sym c.in-Some.ensures.value in
    let same = c.head.ensures ∙ with_fragment-cut c.self.inside.text.now c.in-Some.fragment.now is in
    subst (λ (t : List ℕ). IsParsed t c.self.inside.lengths) (sym same) (parsed-with_fragment c.self.inside.text.now c.self.inside.lengths None c.self.invariant refl)

pub returns-in-Some-clause-value : goal.returns-in-Some-clause-value
returns-in-Some-clause-value c =
    let is : fragment c.self.inside.text.now ≡ Some c.in-Some.fragment.now = ap fragment c.self.view_is ∙ sym c.in-Some.ensures.value in
    c.head.ensures ∙ with_fragment-cut c.self.inside.text.now c.in-Some.fragment.now is ∙ ap (λ t. with_fragment t None) c.self.view_is

pub returns-in-None-clause-value : goal.returns-in-None-clause-value
returns-in-None-clause-value c =
    let is : fragment c.self.inside.text.now ≡ None = ap fragment c.self.view_is ∙ sym c.in-None.ensures.value in
    with_fragment-none c.self.inside.text.now is ∙ ap (λ t. with_fragment t None) c.self.view_is

pub returns-in-Some-clause-scheme : goal.returns-in-Some-clause-scheme
returns-in-Some-clause-scheme c =
    let is : fragment c.self.inside.text.now ≡ Some c.in-Some.fragment.now = ap fragment c.self.view_is ∙ sym c.in-Some.ensures.value in
    ap scheme (c.head.ensures ∙ with_fragment-cut c.self.inside.text.now c.in-Some.fragment.now is) ∙ scheme-with_fragment c.self.inside.text.now None c.self.invariant.reference refl ∙ ap scheme c.self.view_is
