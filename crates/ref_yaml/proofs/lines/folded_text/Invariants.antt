use Rattle.std.proofs.Common.{◌≡◌, ◌≤◌, ◌++◌, if◌then◌else◌, true, [], ◌∷◌, drop, IsTrue}
use Rattle.ref_yaml.specs.Block.{folded_text, folded_lines, chomped, without_indent, is_ended}
use Rattle.ref_yaml.proofs.lines.folded_text.Given as goal

abbrev pub invariant-loop-byte : goal.invariant-loop-byte
invariant-loop-byte l = (l.breaks ≤ l.byte-index) × (IsTrue l.is_inside → IsTrue l.has_text)
    × (l.out.items ++ chomped l.chomping l.has_text 0 (folded_lines l.is_inside l.was_white l.breaks (without_indent l.indent (if l.is_inside then 0 else l.left) (drop l.byte-index l.body) ++ (if is_ended l.body then [] else 10 ∷ [])))
    ≡ folded_text l.chomping l.indent l.body)
