use Rattle.std.proofs.Common.{refl, ◌≡◌, ◌+◌, ◌-◌, ◌∙◌, sym, ap, take, drop, length, arith, inl, inr}
use Rattle.std.specs.List.{prefix_len}
use Rattle.std.proofs.lemmas.Bool.{cases_lt}
use Rattle.ref_uri.specs.inner.Class.{allows}
use Rattle.ref_uri.proofs.RunLemmas.{run_on, run_is}
use Rattle.ref_uri.proofs.characters.long_run_len.Goals as goal
use Rattle.ref_uri.proofs.characters.long_run_len.Goals.{then-not-is_plain_block+else-len-lt-BLOCK, else-not-is_plain_block}

pub returns-then-len-lt-BLOCK-clause-value : goal.returns-then-len-lt-BLOCK-clause-value
returns-then-len-lt-BLOCK-clause-value c =
    let e : c.loop-at.at + 16 - c.loop-at.at ≡ 16 = omega arith in
    sym (run_is (allows c.args.class) c.args.bytes.now c.loop-at.at 16 c.short_run_len-len.result (omega arith) c.loop-at.invariant.1
    (c.short_run_len-len.ensures.value ∙ ap (λ n. prefix_len (allows c.args.class) (take n (drop c.loop-at.at c.args.bytes.now))) e)
    (inl (omega arith)))

pub loop-at-preserved : goal.loop-at-preserved
loop-at-preserved c =
    let at = c.loop-at.at in
    let e : at + 16 - at ≡ 16 = omega arith in (
      omega arith,
      λ k lt.
          elim c.if-not-is_plain_block.branch [
            | then-not-is_plain_block+else-len-lt-BLOCK w ↦
                run_on (allows c.args.class) c.args.bytes.now at 16 w.short_run_len-len.result (omega arith) c.loop-at.invariant.1
                (w.short_run_len-len.ensures.value ∙ ap (λ n. prefix_len (allows c.args.class) (take n (drop at c.args.bytes.now))) e) k (omega arith)
            | else-not-is_plain_block w ↦
                elim (cases_lt k at) [
                  | inl front ↦ c.loop-at.invariant.1 k front
                  | inr behind ↦ c.requires _ (w.if-not-is_plain_block.ensures refl k behind lt)
                ]
          ],
    )

pub returns-clause-value : goal.returns-clause-value
returns-clause-value c =
    let bytes = c.args.bytes.now in
    sym (run_is (allows c.args.class) bytes c.loop-at.at (length bytes - c.loop-at.at) c.short_run_len.result (omega arith) c.loop-at.invariant.1 c.short_run_len.ensures.value (inr (omega arith)))
