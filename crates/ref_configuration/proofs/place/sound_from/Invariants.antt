use Rattle.std.proofs.Common.{◌≡◌, drop, false}
use Rattle.ref_configuration.specs.Places.{first_sound}
use Rattle.ref_configuration.proofs.place.sound_from.Given as goal

abbrev pub invariant-loop-at : goal.invariant-loop-at
invariant-loop-at l =
    first_sound l.is_comment l.at (drop l.at l.bytes) ≡ first_sound false l.begin (drop l.begin l.bytes)
