-- What a call gives, before the registries change.
use Rattle.std.specs.Prelude.{◌≡◌, ◌++◌, Result, Ok, Err}
use Rattle.serde_json.specs.Data.{Data}
use Rattle.serde_json.specs.View.{view}
use Rattle.serde_json.specs.declared.value.Value.{Value}
use Rattle.ref_json.specs.declared.stop.Stop.{Stop}
use Rattle.ref_json.specs.declared.stop.Stop.TheVariants.{Memory, Because}
use Rattle.ref_serve.specs.declared.answer.Reply.{Reply}
use Rattle.ref_serve.specs.declared.answer.Change.{Change}
use Rattle.ref_serve.specs.declared.answer.Change.TheVariants as change
use Rattle.ref_calls.specs.declared.call.Call.{Call}
use Rattle.ref_calls.specs.declared.call.Call.TheVariants.{Faults}
use Rattle.ref_serve.specs.Answering.{IsResult}
use Rattle.ref_serve.specs.State.{Registries, without_registry, with_scope}

-- the registries after a change
abbrev pub registries_after : Registries → Change → Registries
registries_after state change.Same = state
registries_after state (change.Opened opened) = state ++ opened.items
registries_after state (change.Closed number) = without_registry state number
registries_after state (change.Kept number uris) = with_scope state number uris

-- a reply that may be given, with what becomes of the registries
abbrev pub Replies : (Registries → Result Data Data → Type 0) → Registries
    → Result Reply (Stop Value) → Type 0
Replies may state (Ok reply) =
    may (registries_after state reply.change) (Ok (view reply.result))
Replies may state (Err Memory) = Unit {0}
Replies may state (Err (Because value)) = may state (Err (view value))

-- the result of a call that changes no registry and is only read: `faults` takes documents out
abbrev pub IsRead : Call → Registries → Data → Result Data Data → Type 0
IsRead Faults state d outcome = Unit {0}
IsRead call state d outcome = IsResult call state d outcome

-- the same, and the registries are as before
abbrev pub IsUnchanged : Call → Registries → Data → Registries → Result Data Data → Type 0
IsUnchanged call state d next outcome = IsRead call state d outcome × (next ≡ state)
