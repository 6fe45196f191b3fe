-- Literal calls for rows that compute, and what a row asks of an error.
use Prim.Native.String.{String as Literal}
use Rattle.std.specs.Prelude.{List, [], ◌∷◌, codes, Option, None, Result, Ok, Err}
use Rattle.serde_json.specs.Data.{Data}
use Rattle.serde_json.specs.Find.{get}
use Rattle.ref_definitions.specs.Rows.{text, one, two}

-- a call without further members, and one with one more, whose key comes after `call`
abbrev pub call : Literal → Data
call name = one "call" (text name)

abbrev pub call_with : Literal → Literal → Data → Data
call_with name key value = two "call" (text name) key value

-- a member of the error object that a definition gives
abbrev pub told : {X : Type 0} → Literal → Result X Data → Option Data
told key (Ok x) = None
told key (Err error) = get (codes key) error
