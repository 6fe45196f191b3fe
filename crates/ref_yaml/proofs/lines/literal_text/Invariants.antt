use Rattle.std.proofs.Common.{◌≡◌, ◌≤◌, ◌++◌, if◌then◌else◌, [], ◌∷◌, drop}
use Rattle.ref_yaml.specs.Block.{literal_text, chomped, without_indent, is_ended}
use Rattle.ref_yaml.proofs.lines.literal_text.Given as goal

abbrev pub invariant-loop-byte : goal.invariant-loop-byte
invariant-loop-byte l = (l.breaks ≤ l.byte-index) × (l.out.items ++ chomped l.chomping l.has_text l.breaks (without_indent l.indent l.left (drop l.byte-index l.body) ++ (if is_ended l.body then [] else 10 ∷ []))
    ≡ literal_text l.chomping l.indent l.body)
