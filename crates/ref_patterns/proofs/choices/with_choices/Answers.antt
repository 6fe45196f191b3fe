use Rattle.std.proofs.Common.{◌≡◌, ◌++◌, ◌≤◌, map, ap, sym, ◌∙◌, length, take, Vec, ℕ, List, arith}
use Rattle.std.specs.Prelude.{flat_map}
use Rattle.std.specs.declared.alloc.Global.{Global}
use Rattle.std.proofs.lemmas.List.{take_all}
use Rattle.ref_patterns.specs.Choices as spec
use Rattle.ref_patterns.proofs.Choosing.{each_choice, more_choices}
use Rattle.ref_patterns.proofs.choices.with_choices.Goals as goal

pub loop-text-preserved : goal.loop-text-preserved
loop-text-preserved c =
    let choices = map (λ (c' : Vec ℕ Global). c'.items) c.args.choices.now in
    let before = c.args.before.now in
    let all = spec.lists_of c.loop-text.all in
    let one = λ (t : List ℕ). map (λ choice. (t ++ before) ++ choice) choices in
    c.in_ok-push_choices.ensures.value
    ∙ ap (λ t. all ++ one t) c.as_slice.ensures.value
    ∙ ap (λ l. l ++ one c.text-item.result.items) c.loop-text.invariant
    ∙ sym (more_choices (λ (t : Vec ℕ Global). one t.items) c.args.texts.now c.loop-text.text-index c.text-item.result (omega arith) c.text-item.is)

pub returns : goal.returns
returns c =
    let choices = map (λ (c' : Vec ℕ Global). c'.items) c.args.choices.now in
    let before = c.args.before.now in
    let texts = c.args.texts.now in
    let end : length texts ≤ c.loop-text.text-index = omega arith in
    record {
      value = c.loop-text.invariant
          ∙ ap (flat_map (λ (t : Vec ℕ Global). map (λ choice. (t.items ++ before) ++ choice) choices)) (take_all c.loop-text.text-index texts end)
          ∙ each_choice texts before choices;
    }
