use Rattle.std.proofs.Common.{◌≡◌, ◌++◌, ◌+◌, true, OnOk, take, drop, get_or, get_or-drop, string_bytes, subst, sym, ap, ◌∙◌, rules}
use Rattle.std.proofs.lemmas.Result.{on_ok_weaker}
use Rattle.ref_uri.specs.Characters.{has_whole_triples}
use Rattle.ref_uri.specs.Normal.{normal_text, normal_triple}
use Rattle.ref_uri.specs.inner.Written.{IsNormalUpTo}
use Rattle.ref_uri.proofs.NormalFront.{triple_turn, after_triple, normal_to_end}
use Rattle.ref_uri.proofs.written.push_normal_text.Goals as goal

pub normal_len-len-requires-in-triples : goal.normal_len-len-requires-in-triples
normal_len-len-requires-in-triples c =
    subst (λ t. has_whole_triples t ≡ true) (sym (c.as_bytes-in-triples.ensures.value ∙ c.tail-rest.ensures.value)) (after_triple c.triples.rest.now c.triples.len c.triples.invariant.1)

pub triples-preserved : goal.triples-preserved
triples-preserved c =
    let buffer = string_bytes c.triples.buffer in
    let rest = c.triples.rest.now in
    let len = c.triples.len in
    let left = c.as_bytes-triple.ensures.value ∙ c.tail.ensures.value in
    let run : string_bytes c.push_str.new.self ≡ buffer ++ take len rest = c.in_ok-push_str.ensures.bytes ∙ ap (λ t. buffer ++ t) c.head.ensures in
    let triple : string_bytes c.push_triple.new.buffer ≡ (buffer ++ take len rest) ++ normal_triple (λ x. x) (get_or rest (len + 1) 0) (get_or rest (len + 2) 0) =
    c.in_ok-push_triple.ensures ∙ ap (λ t. t ++ normal_triple (λ x. x) (get_or c.as_bytes-triple.result.now 1 0) (get_or c.as_bytes-triple.result.now 2 0)) run
    ∙ ap (λ t. (buffer ++ take len rest) ++ normal_triple (λ x. x) (get_or t 1 0) (get_or t 2 0)) left
    ∙ ap (λ h. (buffer ++ take len rest) ++ normal_triple (λ x. x) h (get_or (drop len rest) 2 0)) (get_or-drop len rest 1 0)
    ∙ ap (λ l. (buffer ++ take len rest) ++ normal_triple (λ x. x) (get_or rest (len + 1) 0) l) (get_or-drop len rest 2 0) in (
      ap (λ t. t ++ normal_text c.tail-rest.result.now) triple ∙ ap (λ t. ((buffer ++ take len rest) ++ normal_triple (λ x. x) (get_or rest (len + 1) 0) (get_or rest (len + 2) 0)) ++ normal_text t) c.tail-rest.ensures.value
          ∙ triple_turn buffer rest len c.triples.invariant.1 c.triples-test.true
          ∙ c.triples.invariant.0,
      subst (λ t. IsNormalUpTo t c.normal_len-len-in-triples.result) c.as_bytes-in-triples.ensures.value c.normal_len-len-in-triples.ensures,
      c.tail-rest.ensures.ascii,
      c.tail-rest.utf8,
    )

pub returns : goal.returns
returns c =
    let rest = c.triples.rest.now in
    let all = ap (λ t. string_bytes c.triples.buffer ++ t) (sym (normal_to_end rest c.triples.len c.triples.invariant.1 c.triples-test.false)) ∙ c.triples.invariant.0 in
    let more : OnOk c.push_str-2.result (string_bytes c.push_str-2.new.self ≡ string_bytes c.triples.buffer ++ rest) = search rules in
    on_ok_weaker c.push_str-2.result (λ e. e ∙ all) more
