use Rattle.std.proofs.Common.{drop, string_bytes, ap, ◌∙◌, arith}
use Rattle.std.proofs.lemmas.List.{drop_at}
use Rattle.ref_uri.specs.Characters.{has_whole_triples}
use Rattle.ref_uri.specs.inner.Target.{given_path}
use Rattle.ref_uri.proofs.WrittenAtOnce.{given_is_whole}
use Rattle.ref_uri.proofs.target.PathOf.push_normal_target.Goals as goal

pub normalize_end-requires-clause-triples : goal.normalize_end-requires-clause-triples
normalize_end-requires-clause-triples c =
    let buffer = string_bytes c.args.buffer.now in
    let path = given_path c.args.self in
    ap (λ t. has_whole_triples (drop c.len-start.result t)) c.in_ok-push_given.ensures.text ∙ ap has_whole_triples (drop_at buffer path c.len-start.result (omega (arith, c.args.buffer.now.bytes.ok.0))) ∙ given_is_whole c.args.self c.requires.parts
