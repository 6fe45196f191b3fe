-- What an item of a list of references may be.
use Rattle.std.specs.Prelude.{Result, Ok, Err}
use Rattle.serde_json.specs.Data.{Data}
use Rattle.ref_serve.specs.Results.{Question, IsListed}

-- one of a list of references, which is an item in any case and no error of the call
abbrev pub IsListedAs : Question → Result Data Data → Type 0
IsListedAs q (Ok d) = IsListed q d
IsListedAs q (Err e) = ⊥
