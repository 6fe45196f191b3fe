-- Errors of `open` with their place.
use Rattle.std.proofs.Common.{◌≡◌, ◌++◌, Option, Some, Result, Ok, Err, refl, sym, subst, ap, ◌∙◌}
use Rattle.serde_json.specs.Data.{Data}
use Rattle.serde_json.specs.View.{view}
use Rattle.serde_json.specs.declared.value.Value.{Value}
use Rattle.ref_json.specs.declared.stop.Stop.{Stop}
use Rattle.ref_json.specs.declared.stop.Stop.TheVariants.{Memory, Because}
use Rattle.ref_calls.specs.Yaml.{IsCallRead}
use Rattle.ref_calls.specs.declared.call.Call.TheVariants.{Open}
use Rattle.ref_serve.specs.declared.opening.Opened.{Opened}
use Rattle.ref_serve.specs.State.{Registries}
use Rattle.ref_serve.specs.Where.{placed}
use Rattle.ref_serve.specs.Answering.{IsOpening, IsOpen, IsPlaced, IsReply}
use Rattle.ref_serve.specs.inner.Openings.{GivesOpened}
use Rattle.ref_serve.specs.inner.Placing.{IsPlacedStop}
use Rattle.ref_serve.specs.inner.Replies.{Replies}

inner_same : (a b : Data) → Some a ≡ Some b → a ≡ b
inner_same a b is = cc

same_tree : (o : Option Data) (a b : Data) → o ≡ Some a → o ≡ Some b → a ≡ b
same_tree o a b first second = inner_same a b (sym first ∙ second)

pub placed_call : (o : Option Data) (tree d call error : Data) (after : Data) → o ≡ Some tree → o ≡ Some d → IsCallRead tree (Ok call) → after ≡ placed call error → IsPlaced d (Err error) (Err after)
placed_call o tree d call error after first second read is =
    (Ok call, subst (λ t. IsCallRead t (Ok call)) (same_tree o tree d first second) read, ap Err is)

pub unplaced_call : (o : Option Data) (tree d other error : Data) → o ≡ Some tree → o ≡ Some d → IsCallRead tree (Err other) → IsPlaced d (Err error) (Err error)
unplaced_call o tree d other error first second read =
    (Err other, subst (λ t. IsCallRead t (Err other)) (same_tree o tree d first second) read, refl)

-- ---- the reply

pub opened_placed : (state : Registries) (d : Data) (opened : Opened) → GivesOpened (IsOpening state d) state (Ok opened) → IsOpen state d (state ++ opened.registries.items) (Ok (view opened.result))
unfolding IsOpen
opened_placed state d opened given = (Ok (view opened.result), given, refl)

pub stopped_placed : (state : Registries) (d error : Data) (stop : Stop Value) → IsOpening state d state (Err error) → IsPlacedStop d error stop → Replies (IsReply Open state d) state (Err stop)
unfolding IsOpen
stopped_placed state d error Memory opening place = tt
stopped_placed state d error (Because value) opening place = (Err error, opening, place)
