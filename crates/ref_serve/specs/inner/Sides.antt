-- What is seen of a registry that is compared.
use Rattle.ref_serve.specs.declared.comparing.Side as rust_side
use Rattle.ref_serve.specs.Comparisons.{Side}

abbrev pub side_view : rust_side.Side → Side
side_view s = (s.number, s.open.now)
