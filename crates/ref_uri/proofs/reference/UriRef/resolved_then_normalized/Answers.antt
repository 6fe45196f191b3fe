use Rattle.std.proofs.Common.{◌≡◌, ◌∙◌, List, ℕ, None, String, Global, ap, subst, sym, string_bytes, true, is_some, Result}
use Rattle.std.specs.Result.{IfOk}
use Rattle.std.specs.declared.alloc.AllocError.{AllocError}
use Rattle.std.proofs.lemmas.Result.{IfOk-weaker}
use Rattle.ref_uri.specs.Components.{Components, components, are_components, scheme, text_of}
use Rattle.ref_uri.specs.inner.Lengths.{IsParsedUri}
use Rattle.ref_uri.specs.declared.lengths.Lengths.{Lengths}
use Rattle.ref_uri.specs.Normal.{normal_form}
use Rattle.ref_uri.specs.Reference.{with_fragment}
use Rattle.ref_uri.specs.Resolution.{target_text, resolved_components}
use Rattle.ref_uri.specs.inner.Target.{components_of, written_components, lengths_of_components, LacksTriples}
use Rattle.ref_uri.specs.declared.written.Form.TheVariants.{Given, NormalTarget}
use Rattle.ref_uri.specs.declared.target.Target.{Target}
use Rattle.ref_uri.proofs.FragmentLemmas.{resolved_of_stripped}
use Rattle.ref_uri.proofs.WrittenAtOnce.{scheme_there, written_normal, normal_of_target, normal_target_uri}
use Rattle.ref_uri.proofs.WrittenUri.{both_if_ok}
use Rattle.ref_uri.proofs.reference.UriRef.resolved_then_normalized.Goals as goal

-- the text of a target in normal form, and that it is a URI
record Written (t : Target) (base reference : List ℕ) : Type 0 where
  text : text_of (written_components NormalTarget t) ≡ normal_form (target_text (with_fragment base None) reference)
  is_uri : (r : Result (String Global × Lengths) AllocError) → IfOk r (λ w. string_bytes w.0 ≡ text_of (written_components NormalTarget t)) → IfOk r (λ w. w.1 ≡ lengths_of_components (written_components NormalTarget t)) → IfOk r (λ w. IsParsedUri (string_bytes w.0) w.1)

are_written : (t : Target) (b r : Components) (base reference : List ℕ) → b ≡ components base → r ≡ components reference → are_components b ≡ true → are_components r ≡ true → is_some (scheme base) ≡ true → written_components Given t ≡ resolved_components b r → Written t base reference
are_written t b r base reference is are h k based given =
    let there = scheme_there b base is based in
    let settled = written_normal t b r there given in
    record {
      text = ap text_of settled ∙ normal_of_target b r base reference is are h k there ∙ ap normal_form (resolved_of_stripped b base reference is h);
      is_uri = λ result text long.
          IfOk-weaker result (λ w. (string_bytes w.0 ≡ text_of (written_components NormalTarget t)) × (w.1 ≡ lengths_of_components (written_components NormalTarget t))) (λ w. IsParsedUri (string_bytes w.0) w.1)
          (λ w both. normal_target_uri b r (string_bytes w.0) w.1 h k there (both.0 ∙ ap text_of settled) (both.1 ∙ ap lengths_of_components settled))
          (both_if_ok result (λ w. string_bytes w.0 ≡ text_of (written_components NormalTarget t)) (λ w. w.1 ≡ lengths_of_components (written_components NormalTarget t)) text long);
    }

pub write_plain-requires-clause-plain : goal.write_plain-requires-clause-plain
write_plain-requires-clause-plain c =
    c.resolved-target.ensures.plain (subst LacksTriples (sym c.parts.ensures.all) (c.lacks_triples.ensures c.if-lacks_triples.true)) (subst LacksTriples (sym c.parts-2.ensures.all) (c.lacks_triples-is_plain.ensures c.if-is_plain-2.true))

pub returns-then-lacks_triples-clause-text : goal.returns-then-lacks_triples-clause-text
returns-then-lacks_triples-clause-text c = IfOk-weaker c.write_plain.result _ (λ t. string_bytes t.0 ≡ normal_form (target_text (with_fragment c.args.base.now None) c.args.self.now)) (λ t is. is ∙ (are_written c.resolved-target.result (components_of c.parts.result) (components_of c.parts-2.result) c.args.base.now c.args.self.now c.parts.ensures.all c.parts-2.ensures.all c.parts.ensures.hold c.parts-2.ensures.hold c.requires c.resolved-target.ensures.value).text) c.write_plain.ensures.text

pub returns-then-lacks_triples-clause-parsed : goal.returns-then-lacks_triples-clause-parsed
returns-then-lacks_triples-clause-parsed c = (are_written c.resolved-target.result (components_of c.parts.result) (components_of c.parts-2.result) c.args.base.now c.args.self.now c.parts.ensures.all c.parts-2.ensures.all c.parts.ensures.hold c.parts-2.ensures.hold c.requires c.resolved-target.ensures.value).is_uri c.write_plain.result c.write_plain.ensures.text c.write_plain.ensures.lengths

pub returns-clause-text : goal.returns-clause-text
returns-clause-text c =
    IfOk-weaker c.write.result _ (λ t. string_bytes t.0 ≡ normal_form (target_text (with_fragment c.args.base.now None) c.args.self.now))
    (λ t is. is ∙ ap text_of c.normal_form-form.ensures ∙ (are_written c.resolved-target.result (components_of c.parts.result) (components_of c.parts-2.result) c.args.base.now c.args.self.now c.parts.ensures.all c.parts-2.ensures.all c.parts.ensures.hold c.parts-2.ensures.hold c.requires c.resolved-target.ensures.value).text) c.write.ensures.text

pub returns-clause-parsed : goal.returns-clause-parsed
returns-clause-parsed c =
    (are_written c.resolved-target.result (components_of c.parts.result) (components_of c.parts-2.result) c.args.base.now c.args.self.now c.parts.ensures.all c.parts-2.ensures.all c.parts.ensures.hold c.parts-2.ensures.hold c.requires c.resolved-target.ensures.value).is_uri c.write.result
    (IfOk-weaker c.write.result _ (λ t. string_bytes t.0 ≡ text_of (written_components NormalTarget c.resolved-target.result)) (λ t is. is ∙ ap text_of c.normal_form-form.ensures) c.write.ensures.text)
    (IfOk-weaker c.write.result _ (λ t. t.1 ≡ lengths_of_components (written_components NormalTarget c.resolved-target.result)) (λ t is. is ∙ ap lengths_of_components c.normal_form-form.ensures) c.write.ensures.lengths)
