use Rattle.std.proofs.Common.{◌≡◌, ◌++◌, ◌∷◌, string_bytes, OnOk, arith, subst}
use Rattle.std.proofs.lemmas.Grind.{common_steps}
use Rattle.ref_parts.specs.Pointer.{slash, escape, part_text}
use Rattle.ref_paths.specs.Segment.{part_of}
use Rattle.ref_parts.proofs.segments.push_segment.Goals as goal

pub returns-in-Key-clause-text : goal.returns-in-Key-clause-text
returns-in-Key-clause-text c =
    let written = c.write_escaped_str in
    let text : string_bytes c.push.new.self ++ escape c.as_str.result.now ≡ string_bytes c.args.pointer.now ++ slash ∷ part_text (part_of c.args.segment.now) = grind (arith, common_steps) in
    subst (λ l. OnOk written.result (string_bytes written.new.buffer ≡ l)) text written.ensures.ok
