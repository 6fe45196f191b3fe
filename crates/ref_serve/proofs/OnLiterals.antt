use Rattle.std.specs.Prelude.{⊤}
use Rattle.ref_calls.proofs.OnLiterals.{ref_calls_on_literals}
use Rattle.ref_serve.specs.State.{registry_under}
use Rattle.ref_serve.specs.Results.{asked_of, start_of, enter_result, keeping_of}
use Rattle.ref_serve.specs.Where.{placed}
use Rattle.ref_serve.specs.About.{hello_result, uri_result, draft_result}

-- what a proof unfolds to compute this crate's definitions on a literal
unfoldable pub ref_serve_on_literals : ⊤
unfolding ref_calls_on_literals registry_under asked_of start_of enter_result keeping_of hello_result uri_result draft_result placed
ref_serve_on_literals = tt
