use Rattle.std.proofs.Common.{◌≡◌, ℕ, List, [], ◌∷◌, append_assoc, ◌++◌, eqb, take, drop, string_bytes, ap, sym, ◌∙◌, arith, lit<}
use Rattle.std.specs.List.{before_first, after_first}
use Rattle.std.proofs.lemmas.Str.Pattern.{split_once_first}
use Rattle.ref_uri.specs.Authority.{host_len}
use Rattle.ref_uri.specs.Normal.{normal_text, normal_host, normal_port_part}
use Rattle.ref_uri.proofs.AuthorityParts.{with_userinfo, without_userinfo}
use Rattle.ref_uri.proofs.written.push_normal_authority.Goals as goal

pub push_encoded-requires-clause-triples : goal.push_encoded-requires-clause-triples
push_encoded-requires-clause-triples c =
    let cut = rw c.in-Some.is at (split_once_first 64 c.args.authority.now c.split_once.result c.split_once.ensures.cases (lit< tt)) in
    rw cut.1 (with_userinfo c.args.authority.now c.requires.authority cut.0).userinfo

pub push_host_and_port-requires-clause-host : goal.push_host_and_port-requires-clause-host
push_host_and_port-requires-clause-host c =
    let cut = rw c.in-Some.is at (split_once_first 64 c.args.authority.now c.split_once.result c.split_once.ensures.cases (lit< tt)) in
    rw cut.2 (with_userinfo c.args.authority.now c.requires.authority cut.0).host

pub push_host_and_port-requires-in-None-clause-host : goal.push_host_and_port-requires-in-None-clause-host
push_host_and_port-requires-in-None-clause-host c =
    let none = rw c.in-None.is at (split_once_first 64 c.args.authority.now c.split_once.result c.split_once.ensures.cases (lit< tt)) in
    (without_userinfo c.args.authority.now c.requires.authority (omega arith)).host

pub returns-in-None : goal.returns-in-None
returns-in-None c =
    let none = rw c.in-None.is at (split_once_first 64 c.args.authority.now c.split_once.result c.split_once.ensures.cases (lit< tt)) in
    rw (without_userinfo c.args.authority.now c.requires.authority (omega arith)).normal c.push_host_and_port-in-None.ensures

pub returns-in_ok-push_ascii-in-Some : goal.returns-in_ok-push_ascii-in-Some
returns-in_ok-push_ascii-in-Some c =
    let cut = rw c.in-Some.is at (split_once_first 64 c.args.authority.now c.split_once.result c.split_once.ensures.cases (lit< tt)) in
    let text = c.args.authority.now in
    let buffer = string_bytes c.args.buffer.now in
    let tail = λ (rest : List ℕ). normal_host (take (host_len rest) rest) ++ normal_port_part (drop (host_len rest) rest) in
    let front = normal_text (before_first (λ x. eqb x 64) text) ++ 64 ∷ [] in
    let normal = ap (λ t. buffer ++ t) (with_userinfo text c.requires.authority cut.0).normal in
    let same : string_bytes c.push_ascii.new.buffer ≡ buffer ++ front =
    c.in_ok-push_ascii-in-Some.ensures ∙ ap (λ t. t ++ 64 ∷ []) (c.in_ok-push_encoded-in-Some.ensures ∙ ap (λ t. buffer ++ normal_text t) cut.1)
    ∙ append_assoc buffer (normal_text (before_first (λ x. eqb x 64) text)) (64 ∷ []) in
    rw (normal ∙ sym (append_assoc buffer front (tail (after_first (λ x. eqb x 64) text))) ∙ ap (λ t. t ++ tail (after_first (λ x. eqb x 64) text)) (sym same) ∙ ap (λ t. string_bytes c.push_ascii.new.buffer ++ tail t) (sym cut.2)) c.push_host_and_port.ensures
