use Rattle.std.proofs.Common.{◌≡◌, ◌∙◌, ◌+◌, ◌<◌, length, true, false, sym, ap, refl, bytes_eq, is_some, slice_get, option_map, Some, rules}
use Rattle.std.specs.HashMap.{get}
use Rattle.std.proofs.lemmas.Option.{slice_get-get_or, slice_get-map}
use Rattle.ref_findings.specs.declared.gathering.Wants.{Wants}
use Rattle.ref_findings.proofs.Retrieving.{going_passed, going_asked, if_ok_all, of_some}
use Rattle.ref_findings.proofs.gathering.retrieve.Goals as goal

pub returns-then-contains_key-clause-going : goal.returns-then-contains_key-clause-going
returns-then-contains_key-clause-going g c = λ sources gathered going.
    let w = c.args.wants.now in
    let uri = c.in_ok-uri.uri.value in
    let v : Wants = record { wanted = w.wanted; next = w.next + 1; met = w.met } in
    let within : w.next < length w.wanted.items = c.requires in
    let here : slice_get w.wanted.items w.next ≡ Some c.index.result.now = slice_get-get_or w.wanted.items w.next c.index.result.now within ∙ ap Some (sym c.index.ensures) in
    let copied : uri ≡ c.index.result.now.value = search rules in
    let known : is_some (get bytes_eq w.met uri) ≡ true = search rules in
    going_passed _ c.args.draft sources w v gathered uri going refl (λ uris are. are) refl
    (slice_get-map (λ u. u.value) w.wanted.items w.next ∙ ap (option_map (λ u. u.value)) here ∙ ap Some (sym copied)) known

pub returns-clause-going : goal.returns-clause-going
returns-clause-going g c = λ sources gathered going.
    let w = c.args.wants.now in
    let uri = c.deref-2.result.now in
    let v : Wants = record { wanted = w.wanted; next = w.next + 1; met = w.met } in
    let within : w.next < length w.wanted.items = c.requires in
    let here : slice_get w.wanted.items w.next ≡ Some c.index.result.now = slice_get-get_or w.wanted.items w.next c.index.result.now within ∙ ap Some (sym c.index.ensures) in
    let copied : uri ≡ c.index.result.now.value = search rules in
    let unknown : is_some (get bytes_eq w.met uri) ≡ false = search rules in
    if_ok_all c.ask.result _ _ _ _ c.ask.ensures.answer c.ask.ensures.uri c.ask.ensures.grows
    (λ held may named grows.
    going_asked _ c.args.draft sources w v gathered uri going refl (λ uris are. are) refl
    (slice_get-map (λ u. u.value) w.wanted.items w.next ∙ ap (option_map (λ u. u.value)) here ∙ ap Some (sym copied)) c.ask.new.wants held unknown may (of_some held _ named) grows)
