use Rattle.std.proofs.Common.{◌≡◌, ◌∙◌, ◌≤◌, ◌<◌, ◌++◌, ◌^◌, ap, sym, length, drop, arith, List}
use Rattle.std.proofs.lemmas.Bool.{eq-eqb}
use Rattle.std.proofs.lemmas.List.{append-nil}
use Rattle.ref_patterns.specs.declared.pattern.Part.{Part}
use Rattle.ref_patterns.specs.Patterns.{first_part, parts_after, parts_of}
use Rattle.ref_patterns.proofs.Read.{is_first_at, one_part, after_all, first_is, first_of_all, added}
use Rattle.ref_patterns.proofs.pattern.parts_of.Goals as goal
use Rattle.ref_patterns.proofs.pattern.parts_of.Goals.{then-index-eq0, else-index-eq0, else-loop-passed-test, then-loop-passed-test+then-index-bytes}

pub loop-passed-preserved : goal.loop-passed-preserved
loop-passed-preserved c =
    let s = c.args.bytes.now in
    let i = c.loop-passed.index in
    let first : c.if-index-eq0.is_first ≡ is_first_at s i = elim c.if-index-eq0.branch [ then-index-eq0 w ↦ w.is_first-is ∙ eq-eqb i 0 w.if-index-eq0.true ∙ first_of_all s i w.if-index-eq0.true | else-index-eq0 w ↦ w.is_first-is ∙ first_is s i (omega arith) ] in
    let read = c.part_at-part.ensures.value ∙ ap (λ b. first_part b (drop i s)) first in
    let few : length s < 2 ^ 64 = omega arith in
    let next = c.saturating_add-index.result in
    let turn = one_part s i c.part_at-part.result.1 next c.part_at-part.result.0 c.if-index-bytes.false c.part_at-part.ensures.some read c.saturating_add-index.ensures few in (
      (ap (λ (l : List Part). l ++ parts_after 0 (is_first_at s next) (drop next s)) c.in_ok-push_read.ensures.value
          ∙ added c.loop-passed.parts.items _ _ _ (parts_of s) c.loop-passed.invariant.0 turn),
      omega arith,
    )

pub returns : goal.returns
returns c =
    let s = c.args.bytes.now in
    let i = c.loop-passed.index in
    let all : length s ≤ i = elim c.loop-passed-test.branch [ else-loop-passed-test w ↦ omega arith | then-loop-passed-test+then-index-bytes w ↦ omega arith ] in
    record {
      value = sym (append-nil c.loop-passed.parts.items) ∙ ap (λ (l : List Part). c.loop-passed.parts.items ++ l) (sym (after_all s i all)) ∙ c.loop-passed.invariant.0;
    }
