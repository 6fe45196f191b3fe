use Rattle.std.proofs.Common.{◌≡◌, ◌+◌, ◌∙◌, sym, ap, true, drop}
use Rattle.std.specs.List.{prefix_len}
use Rattle.std.proofs.lemmas.List.{take_rest}
use Rattle.ref_uri.specs.inner.Scans.{begins_with_triple}
use Rattle.ref_uri.specs.inner.Class.{allows}
use Rattle.ref_uri.proofs.EncodedLemmas.{triple_more}
use Rattle.ref_uri.proofs.RunLemmas.{run_after}
use Rattle.ref_uri.proofs.characters.runs_and_triples_len.Goals as goal

pub triples-init : goal.triples-init
triples-init c =
    run_after c.args.class c.args.bytes.now c.args.read c.run_len.result c.requires.read_within c.requires.read_encoded
    (c.run_len.ensures.value ∙ ap (prefix_len (allows c.args.class)) (take_rest c.args.bytes.now c.args.read))

pub triples-preserved : goal.triples-preserved
triples-preserved c =
    let bytes = c.args.bytes.now in
    let at = c.triples.at in
    let triple : begins_with_triple (drop at bytes) ≡ true = ap begins_with_triple (sym (take_rest bytes at)) ∙ sym c.begins_with_triple.ensures ∙ c.triples-test.true in
    let more = triple_more c.args.class bytes at c.triples.invariant.within c.triples.invariant.encoded triple in
    run_after c.args.class bytes (at + 3) c.run_len-in-triples.result more.0 more.1
    (c.run_len-in-triples.ensures.value ∙ ap (prefix_len (allows c.args.class)) (take_rest bytes (at + 3)))
