-- What the program says that a text means.
use Rattle.std.specs.Prelude.{◌≡◌, ℕ, List, Option, None, Result, Ok, Err, option_map}
use Rattle.std.specs.Result.{result_ok}
use Rattle.std.specs.declared.alloc.Global.{Global}
use Rattle.std.specs.declared.rc.Rc.{Rc}
use Rattle.ref_uri.specs.Reference.{with_fragment}
use Rattle.ref_uri.specs.Targets.{Refusal, uri_of}
use Rattle.ref_uri.specs.Errors.{IsFaultOf}
use Rattle.ref_uri.specs.declared.error.UriFault.{UriFault}
use Rattle.ref_definitions.specs.Results.{◌>>=◌}

-- the URI that a text names a meta-schema by: its fragment takes no part
abbrev pub meta_schema_uri : List ℕ → Result (List ℕ) Refusal
meta_schema_uri text = uri_of text >>= λ uri. Ok (with_fragment uri None)

-- the result is the URI that is meant, or says the fault that is meant, or is out of memory
abbrev pub GivesUri : Result (List ℕ) Refusal → Result (Rc (List ℕ) Global) UriFault → Type 0
GivesUri meaning (Ok uri) = meaning ≡ Ok uri.value
GivesUri meaning (Err fault) = IsFaultOf meaning fault

-- for each meaning that a result gives, this is its URI, where it has one
abbrev pub IsMeantIn : Result (Rc (List ℕ) Global) UriFault → Option (Rc (List ℕ) Global) → Type 0
IsMeantIn given uri =
    (meaning : Result (List ℕ) Refusal) → GivesUri meaning given
    → option_map (λ u. u.value) uri ≡ result_ok meaning
