use Rattle.std.specs.Prelude.{⊤}
use Rattle.ref_definitions.proofs.OnLiterals.{world_on_literals}
use Rattle.ref_json.proofs.OnLiterals.{ref_json_on_literals}
use Rattle.ref_calls.specs.Why.{why}
use Rattle.ref_calls.specs.Calls.{call_of, keeps_faults, draft_of, schema_of, base_of, documents_of}
use Rattle.ref_calls.specs.Scopes.{scope_of}
use Rattle.ref_calls.specs.Errors.{not_json, not_yaml, field_error, fault_error}

-- what a proof unfolds to compute this crate's definitions on a literal
unfoldable pub ref_calls_on_literals : ⊤
unfolding world_on_literals ref_json_on_literals why call_of keeps_faults draft_of schema_of base_of scope_of documents_of not_json not_yaml field_error fault_error
ref_calls_on_literals = tt
