use Rattle.std.proofs.Common.{◌≡◌, ap, ◌∙◌, rules}
use Rattle.percent_encoding.specs.Percent.{percent_decode}
use Rattle.percent_encoding.specs.Iter.{decoded_bytes}
use Rattle.ref_bundle.proofs.Keys.{is_pointer, not_decoded}
use Rattle.ref_bundle.proofs.fragment.decoded.Goals as goal

pub returns-in_ok-from_str-in-Ok : goal.returns-in_ok-from_str-in-Ok
returns-in_ok-from_str-in-Ok c =
    let bytes : decoded_bytes c.percent_decode.result ≡ percent_decode c.args.text.now = c.percent_decode.ensures.bytes ∙ ap percent_decode c.as_bytes.ensures.value in
    is_pointer c.args.text.now _ (search rules) (rw bytes at c.in-Ok.ensures.ok_only_if_utf8)

pub returns-in-Err-Utf8 : goal.returns-in-Err-Utf8
returns-in-Err-Utf8 c =
    let bytes : decoded_bytes c.percent_decode.result ≡ percent_decode c.args.text.now = c.percent_decode.ensures.bytes ∙ ap percent_decode c.as_bytes.ensures.value in
    not_decoded c.args.text.now (λ text. cc (c.in-Err-Utf8.ensures.utf8 (rw bytes text), c.in-Err-Utf8.field-0-is))
