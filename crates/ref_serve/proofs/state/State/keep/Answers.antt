use Rattle.std.proofs.Common.{◌≡◌, ◌≤◌, ◌<◌, ℕ, List, Option, Some, option_map, Result, Ok, Err, OnOk, length, slice_get, slice_set, refl, ap, ◌∙◌, rules}
use Rattle.std.proofs.lemmas.Option.{slice_get_read}
use Rattle.std.specs.declared.alloc.AllocError.{AllocError}
use Rattle.ref_serve.specs.State.{Slot, Registries, with_kept, with_scope}
use Rattle.ref_serve.proofs.Closing.{kept_past, kept_at}
use Rattle.ref_serve.proofs.state.State.keep.Goals as goal

pub returns-then-number-len-clause-kept : goal.returns-then-number-len-clause-kept
returns-then-number-len-clause-kept c =
    let past : length c.args.self.now ≤ c.args.number = search rules in
    kept_past c.args.self.now c.args.number c.args.uris past

kept_in : {A : Type 0} (result : Result A AllocError) (state whole : Registries) (number : ℕ) (uris : List (List ℕ)) (old new : Option Slot) → slice_get state number ≡ Some old → state ≡ whole
    → OnOk result (new ≡ option_map (with_kept uris) old) → OnOk result (slice_set state number new ≡ with_scope whole number uris)
kept_in (Ok done) state whole number uris old new is same kept =
    ap (slice_set state number) kept ∙ kept_at state number uris old is ∙ ap (λ s. with_scope s number uris) same
kept_in (Err e) state whole number uris old new is same kept = tt

pub returns-clause-kept : goal.returns-clause-kept
returns-clause-kept c =
    let slots = c.self.inside.slots.items in
    let n = c.args.number in
    let within : n < length slots = search rules in
    let there : slice_get slots n ≡ Some c.index_mut.result.now = slice_get_read slots (length slots) n c.index_mut.result.now refl within c.index_mut.ensures.value in
    kept_in c.keep_in.result slots c.args.self.now n c.args.uris c.index_mut.result.now c.keep_in.new.slot there c.self.view_is c.keep_in.ensures.kept
