use Rattle.std.proofs.Common.{◌+◌, map, drop, subst}
use Rattle.std.proofs.lemmas.List.{drop_more}
use Rattle.serde_json.specs.View.{view}
use Rattle.ref_serve.proofs.KnownVocabularies.{IsLeft, one_known_more}
use Rattle.ref_serve.proofs.vocabularies.push_all_known.Goals as goal

pub loop-uri-preserved : goal.loop-uri-preserved
loop-uri-preserved c =
    let uris = c.args.uris.now in
    let i = c.loop-uri.uri-index in
    let set = c.args.set.now in
    let rest = drop (i + 1) uris in
    let before = map view c.loop-uri.list.items in
    let start = map view c.args.list.now.items in
    one_known_more set _ (map (λ t. t.now) rest) before (map view c.push_known.new.list.items) start
    (subst (λ us. IsLeft set (map (λ t. t.now) us) before start) (drop_more uris i _ c.loop-uri-test.true) c.loop-uri.invariant) c.in_ok-push_known.ensures
