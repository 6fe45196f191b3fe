use Rattle.std.proofs.Common.{◌≡◌, ◌++◌, drop, flat_map, string_bytes}
use Rattle.ref_report.specs.inner.Lines.{entry_line}
use Rattle.ref_report.proofs.lint.push_dangling.Given as goal

abbrev pub invariant-loop-entry : goal.invariant-loop-entry
invariant-loop-entry l =
    string_bytes l.text ++ flat_map entry_line (drop l.entry-index l.entry-items) ≡ string_bytes l.initial.text ++ flat_map entry_line l.entry-items
