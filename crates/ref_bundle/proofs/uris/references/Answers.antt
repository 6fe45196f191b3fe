use Rattle.std.proofs.Common.{◌≡◌, ◌++◌, [], List, map, codes, ap, ◌∙◌, rules}
use Rattle.std.specs.Option.{option_to_list}
use Rattle.serde_json.specs.View.{view}
use Rattle.ref_bundle.specs.Needed.{Reference, reference_under, meta_schema_of}
use Rattle.ref_bundle.specs.inner.Seen.{seen_reference}
use Rattle.ref_bundle.specs.declared.uris.Reference as rust
use Rattle.ref_bundle.proofs.Meanings.{uris_seen}
use Rattle.ref_bundle.proofs.uris.references.Goals as goal

pub returns : goal.returns
returns c =
    let base = c.args.spot.now.base.value in
    let value = view c.args.spot.now.value.now in
    let seen : List rust.Reference → List Reference = map seen_reference in
    let plain = reference_under (codes "$ref") base value in
    let dynamic = reference_under (codes "$dynamicRef") base value in
    let meta = meta_schema_of value in
    let none : seen c.new-references.result.items ≡ [] = search rules in
    let first : seen c.push.new.references.items ≡ seen c.new-references.result.items ++ option_to_list plain = search rules in
    let second : seen c.push-2.new.references.items ≡ seen c.push.new.references.items ++ option_to_list dynamic = search rules in
    let third : seen c.push-3.new.references.items ≡ seen c.push-2.new.references.items ++ option_to_list meta = search rules in
    let all : seen c.push-3.new.references.items ≡ (option_to_list plain ++ option_to_list dynamic) ++ option_to_list meta =
    third ∙ ap (λ l. l ++ option_to_list meta) (second ∙ ap (λ l. l ++ option_to_list dynamic) (first ∙ ap (λ l. l ++ option_to_list plain) none)) in
    record { value = all; uris = uris_seen c.push-3.new.references.items ∙ ap (map (λ (r : Reference). r.uri)) all }
