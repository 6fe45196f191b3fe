use Rattle.std.proofs.Common.{◌≡◌, ◌∙◌, sym, ap, subst, true, List, ℕ, is_some, option_map, length, Option, Some, None, refl}
use Rattle.std.proofs.Common.{arith}
use Rattle.std.proofs.lemmas.Grind.{common_steps}
use Rattle.ref_uri.specs.Components.{scheme}
use Rattle.ref_uri.specs.Reference.{is_uri_reference}
use Rattle.ref_uri.specs.declared.lengths.Lengths.{Lengths}
use Rattle.ref_uri.specs.inner.Lengths.{lengths_of, IsParsedUri}
use Rattle.ref_uri.proofs.AsciiLemmas.{reference_ascii}
use Rattle.ref_uri.proofs.uri.Uri.parse.Goals as goal

some_of_length : (o : Option (List ℕ)) → is_some (option_map length o) ≡ is_some o
some_of_length None = refl
some_of_length (Some x) = refl

pub invariant_of-result : goal.invariant_of-result
invariant_of-result c =
    let same = c.as_bytes.ensures.value in
    let reference : is_uri_reference c.args.text.now ≡ true = ap is_uri_reference (sym same) ∙ sym c.in_ok-lengths.ensures.accepted in
    let lengths = c.in_ok-lengths.ensures.lengths ∙ ap lengths_of same in
    let has_scheme : is_some (scheme c.args.text.now) ≡ true =
    sym (some_of_length (scheme c.args.text.now)) ∙ ap is_some (sym (ap (λ (l : Lengths). l.scheme) lengths)) ∙ grind (arith, common_steps) in
    subst (λ (t : List ℕ). IsParsedUri t c.in_ok-lengths.lengths) (sym c.in_ok-text.ensures.ok)
    (record { ascii = reference_ascii c.args.text.now reference; reference = reference; lengths_are = lengths }, has_scheme)
