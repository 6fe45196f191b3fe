use Rattle.std.proofs.Common.{◌≡◌, ◌∙◌, ◌-◌, ◌+◌, sym, ap, Option, Bool, true, false, Some, length, unwrap_or, rules}
use Rattle.ref_patterns.specs.Ignoring.{said_by}
use Rattle.ref_patterns.proofs.Said.{said_left, said_by_all}
use Rattle.ref_patterns.proofs.ignoring.IgnoreList.is_ignored.Goals as goal

pub returns-in-Ignored : goal.returns-in-Ignored
returns-in-Ignored c =
    let files = c.args.self.now.list.items in
    let n = c.loop-number.number in
    let file = c.index-ignore.result.now in
    let says = said_by c.args.is_folder c.args.path.now in
    let speaks : says file ≡ Some true = sym (rw c.in-Ignored.is at c.in_ok-verdict.ensures.value) in
    record {
      value = sym (ap (λ (s : Option Bool). unwrap_or s false)
          (said_by_all says files (length files - (n + 1)) true (said_left says files n file (search rules) (search rules) c.loop-number.invariant ∙ speaks)));
    }

pub returns-in-TakenBack : goal.returns-in-TakenBack
returns-in-TakenBack c =
    let files = c.args.self.now.list.items in
    let n = c.loop-number.number in
    let file = c.index-ignore.result.now in
    let says = said_by c.args.is_folder c.args.path.now in
    let speaks : says file ≡ Some false = sym (rw c.in-TakenBack.is at c.in_ok-verdict.ensures.value) in
    record {
      value = sym (ap (λ (s : Option Bool). unwrap_or s false)
          (said_by_all says files (length files - (n + 1)) false (said_left says files n file (search rules) (search rules) c.loop-number.invariant ∙ speaks)));
    }
