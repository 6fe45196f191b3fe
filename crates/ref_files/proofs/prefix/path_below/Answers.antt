use Rattle.std.proofs.Common.{◌≡◌, ◌∙◌, ◌∷◌, ◌++◌, [], ◌+◌, sym, ap, map, take, string_bytes}
use Rattle.std.proofs.lemmas.List.{take_more, map-append}
use Rattle.ref_files.specs.declared.name.Name.{Name}
use Rattle.ref_files.specs.Plain.{path_in, path_of}
use Rattle.ref_files.proofs.Below.{path_of_more}
use Rattle.ref_files.proofs.prefix.path_below.Goals as goal

pub loop-name-preserved : goal.loop-name-preserved
loop-name-preserved c =
    let names = c.args.names.now in
    let folder = c.args.folder.now in
    let i = c.loop-name.name-index in
    let item = c.name-item.result in
    let front = map (λ (name : Name). string_bytes name.text) (take i names) in
    let more : map (λ (name : Name). string_bytes name.text) (take (i + 1) names) ≡ front ++ string_bytes item.text ∷ [] =
    ap (map (λ (name : Name). string_bytes name.text)) (take_more names i item c.loop-name-test.true ∙ ap (λ s. take i names ++ s ∷ []) (sym c.name-item.is))
    ∙ map-append (λ (name : Name). string_bytes name.text) (take i names) (item ∷ []) in
    c.in_ok-push_name.ensures.value ∙ ap (path_in (string_bytes c.loop-name.path)) c.as_str.ensures.value
    ∙ ap (λ p. path_in p (string_bytes item.text)) c.loop-name.invariant
    ∙ sym (path_of_more folder front (string_bytes item.text)) ∙ ap (path_of folder) (sym more)
