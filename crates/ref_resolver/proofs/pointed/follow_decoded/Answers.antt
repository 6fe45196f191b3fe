use Rattle.std.proofs.Common.{◌≡◌, refl, ap, subst, ◌∙◌}
use Rattle.percent_encoding.specs.Percent.{percent_decode}
use Rattle.percent_encoding.specs.Iter.{decoded_bytes}
use Rattle.serde_json.specs.View.{view}
use Rattle.ref_parts.specs.Pointer.{tokens}
use Rattle.ref_definitions.specs.Fault.{InvalidPercentEncoding}
use Rattle.ref_error.specs.Errors.{Gives}
use Rattle.ref_draft.specs.declared.reached.Reached.TheVariants.{Schema}
use Rattle.ref_resolver.specs.inner.Walking.{Passed, along_of, pointed_to}
use Rattle.ref_error.proofs.Saying.{says_of}
use Rattle.ref_resolver.proofs.Pointing.{gives_leads, text_leads, bytes_lead_nowhere}
use Rattle.ref_resolver.proofs.pointed.follow_decoded.Goals as goal

pub returns-in-Ok : goal.returns-in-Ok
returns-in-Ok c = record {
  gives =
      let draft = c.args.walk.now.draft in
      let pointer = c.args.walk.now.pointer.now in
      let from : Passed = record { base = c.args.along.now.base.value; reached = Schema } in
      let d = view c.args.along.now.value.now in
      let on = c.walk_along.new.along in
      let bytes : decoded_bytes c.percent_decode.result ≡ percent_decode c.args.text.now = c.percent_decode.ensures.bytes ∙ ap percent_decode c.as_bytes.ensures.value in
      let same = text_leads draft pointer from.base c.args.text.now c.as_str.result.now d (c.as_str.ensures.value ∙ c.in-Ok.ensures.value ∙ bytes) (rw bytes at c.in-Ok.ensures.ok_only_if_utf8) in
      let leads = gives_leads draft pointer from.base d (tokens c.as_str.result.now) from (view on.value.now, along_of on) c.walk_along.result refl c.walk_along.ensures.gives in
      subst (λ a. Gives (λ _. (view on.value.now, on.base.value)) a c.walk_along.result) same leads;
}

pub returns-in-Err-Utf8 : goal.returns-in-Err-Utf8
returns-in-Err-Utf8 c =
    let bytes : decoded_bytes c.percent_decode.result ≡ percent_decode c.args.text.now = c.percent_decode.ensures.bytes ∙ ap percent_decode c.as_bytes.ensures.value in
    let d = view c.args.along.now.value.now in
    let is = bytes_lead_nowhere c.args.walk.now.draft c.args.walk.now.pointer.now c.args.along.now.base.value c.args.text.now d (λ text. cc (c.in-Err-Utf8.ensures.utf8 (rw bytes text), c.in-Err-Utf8.field-0-is)) in
    record { gives = says_of (pointed_to c.args.walk.now.draft c.args.walk.now.pointer.now c.args.along.now.base.value d c.args.text.now) (InvalidPercentEncoding c.args.walk.now.pointer.now) c.no_utf8.result is c.no_utf8.ensures }
