use Rattle.std.proofs.Common.{◌≡◌, ◌≤◌, ◌++◌, [], length, drop, flat_map, string_bytes, ap, sym, ◌∙◌, append-nil, arith}
use Rattle.std.proofs.lemmas.List.{drop_all}
use Rattle.ref_report.specs.inner.Lines.{entry_line}
use Rattle.ref_report.proofs.Lines.{lines_are}
use Rattle.ref_report.proofs.lint.push_dangling.Goals as goal

pub returns : goal.returns
returns c =
    let items = c.deref-entry-items.result.now in
    let text = string_bytes c.loop-entry.text in
    let old = string_bytes c.args.text.now in
    let gone : length items ≤ c.loop-entry.entry-index = omega (arith, c.loop-entry-test.false) in
    let none : flat_map entry_line (drop c.loop-entry.entry-index items) ≡ [] = ap (flat_map entry_line) (drop_all c.loop-entry.entry-index items gone) in
    sym (append-nil text) ∙ ap (λ l. text ++ l) (sym none) ∙ c.loop-entry.invariant
    ∙ ap (λ xs. old ++ flat_map entry_line xs) c.deref-entry-items.ensures.value
    ∙ ap (λ l. old ++ l) (lines_are c.errors_say_faults.ensures.law c.args.registry.now c.in-Ok.entries.items c.in-Ok.ensures.value)
