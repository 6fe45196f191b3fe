use Rattle.std.proofs.Common.{◌≡◌, ◌∙◌, sym, ap, true}
use Rattle.ref_uri.specs.Reference.{is_uri_reference}
use Rattle.ref_uri.specs.inner.Lengths.{lengths_of}
use Rattle.ref_uri.proofs.AsciiLemmas.{reference_ascii}
use Rattle.ref_uri.proofs.reference.UriRef.parse.Goals as goal

pub invariant_of-result : goal.invariant_of-result
invariant_of-result c =
    let same = c.as_bytes.ensures.value in
    let reference : is_uri_reference c.args.text.now ≡ true = ap is_uri_reference (sym same) ∙ sym c.in_ok-lengths.ensures.accepted in
    record {
      ascii = reference_ascii c.args.text.now reference;
      reference = reference;
      lengths_are = c.in_ok-lengths.ensures.lengths ∙ ap lengths_of same;
    }
