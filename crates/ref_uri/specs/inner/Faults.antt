-- What is said of a fault unless memory ran out.
use Rattle.std.specs.Prelude.{⊤}
use Rattle.ref_uri.specs.declared.error.UriFault.{UriFault}
use Rattle.ref_uri.specs.declared.error.UriFault.TheVariants.{Invalid, Memory}

-- P, unless memory ran out
abbrev pub IfInvalid : UriFault → Type 0 → Type 0
IfInvalid (Invalid error) P = P
IfInvalid (Memory error) P = ⊤
