use Rattle.std.proofs.Common.{◌≡◌, map, take, string_bytes}
use Rattle.ref_parts.specs.Pointer.{pointer_text}
use Rattle.ref_outline.specs.Steps.{part_of}
use Rattle.ref_outline.proofs.spans.pointer_of_steps.Given as goal

abbrev pub invariant-loop-step : goal.invariant-loop-step
invariant-loop-step l = string_bytes l.pointer ≡ pointer_text (map part_of (take l.step-index l.steps))
