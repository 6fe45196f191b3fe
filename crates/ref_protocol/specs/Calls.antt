-- What a message is (JSON-RPC 2.0, 4 and 5).
use Rattle.std.specs.Prelude.{◌≡◌, ℕ, List, Bool, false, ◌&&◌, ◌||◌, Option, Some, None, is_some, is_none, option_and_then, String, string_bytes, codes, if◌then◌else◌}
use Rattle.std.specs.declared.alloc.Global.{Global}
use Rattle.serde_json.specs.Data.{Data}
use Rattle.serde_json.specs.Find.{get, as_str, as_number}
use Rattle.serde_json.specs.Written.{compact_text, has_float}
use Rattle.ref_protocol.specs.declared.call.Kind.{Kind}
use Rattle.ref_protocol.specs.declared.call.Kind.TheVariants.{Call, Answer, Other}
use Rattle.ref_protocol.specs.Methods.{method_named}

-- a number or a text
abbrev pub as_id : Data → Option Data
as_id d = if is_some (as_str d) || is_some (as_number d) then Some d else None

-- the id of a message
abbrev pub id_in : Data → Option Data
id_in d = option_and_then as_id (get (codes "id") d)

-- the text of an id without a fraction
abbrev pub IsIdText : Option Data → Option (String Global) → Type 0
IsIdText None None = Unit {0}
IsIdText None (Some text) = ⊥
IsIdText (Some id) None = ⊥
IsIdText (Some id) (Some text) = has_float id ≡ false → string_bytes text ≡ compact_text id

abbrev pub has_outcome : Data → Bool
has_outcome d = is_some (get (codes "result") d) || is_some (get (codes "error") d)

abbrev pub kind_of_call : Data → Bool → List ℕ → Kind
kind_of_call d has_id name =
    if has_id || is_none (get (codes "id") d) then Call (method_named name) else Other

abbrev pub kind_by : Data → Bool → Option (List ℕ) → Kind
kind_by d has_id (Some name) = kind_of_call d has_id name
kind_by d has_id None = if has_id && has_outcome d then Answer else Other

-- a message with a method is a call, unless it has an id that is neither a number nor a text; one without a method is an answer where it
-- has an id and a result or an error
unfoldable pub kind_of : Data → Kind
kind_of d = kind_by d (is_some (id_in d)) (option_and_then as_str (get (codes "method") d))
