use Rattle.std.proofs.Common.{◌≡◌, ◌∙◌, ◌-◌, ◌+◌, sym, ap, Bool, not, true, false, Some, length, arith, rules}
use Rattle.ref_patterns.specs.Ignoring.{said, said_by_line}
use Rattle.ref_patterns.proofs.Said.{said_below, said_elsewhere, said_left, said_by_all, said_line, none_left}
use Rattle.ref_patterns.proofs.ignoring.Ignore.verdict.Goals as goal
use Rattle.ref_patterns.proofs.ignoring.Ignore.verdict.Goals.{then-line, else-line}

pub returns-in_default : goal.returns-in_default
returns-in_default c = record {
  value = sym (said_elsewhere c.args.is_folder c.args.path.now c.args.self.now _ c.in_default.ensures.cases c.as_str.ensures.value);
}

pub returns-then-branch : goal.returns-then-branch
returns-then-branch c =
    let cut = c.in-Some.ensures.cases in
    let n = c.loop-number.number in
    let lines = c.args.self.now.lines.items in
    let line = c.index-line.result.now in
    let says = said_by_line c.args.is_folder c.in-Some.below.now in
    let speaks : says line ≡ Some (not line.is_taken_back) = said_line c.args.is_folder c.in-Some.below.now line (search rules) (search rules) in
    let verdict : said c.if-line.result ≡ Some (not line.is_taken_back) =
    elim c.if-line.branch [ then-line w ↦ ap said w.result-is ∙ ap (λ (b : Bool). Some (not b)) (sym w.if-line.true) | else-line w ↦ ap said w.result-is ∙ ap (λ (b : Bool). Some (not b)) (sym w.if-line.false) ] in
    record {
      value = verdict
          ∙ sym (said_by_all says lines (length lines - (n + 1)) (not line.is_taken_back) (said_left says lines n line (search rules) (search rules) c.loop-number.invariant ∙ speaks))
          ∙ sym (said_below c.args.is_folder c.args.path.now c.args.self.now _ c.in-Some.below.now cut.0 cut.1.1 cut.2 c.as_str.ensures.value);
    }

pub returns : goal.returns
returns c =
    let cut = c.in-Some.ensures.cases in
    let lines = c.args.self.now.lines.items in
    let says = said_by_line c.args.is_folder c.in-Some.below.now in
    let all : c.loop-number.number ≡ length lines = omega arith in
    record {
      value = sym c.loop-number.invariant ∙ none_left says lines c.loop-number.number all
          ∙ sym (said_below c.args.is_folder c.args.path.now c.args.self.now _ c.in-Some.below.now cut.0 cut.1.1 cut.2 c.as_str.ensures.value);
    }
