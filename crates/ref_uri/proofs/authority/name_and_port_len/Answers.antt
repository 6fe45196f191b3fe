use Rattle.std.proofs.Common.{◌≡◌, ◌∙◌, ℕ, ◌+◌, ◌≤◌, length-drop, true, take, length, List, ap, arith, subst}
use Rattle.std.specs.List.{before_first}
use Rattle.std.proofs.lemmas.List.{take_rest}
use Rattle.ref_uri.specs.Characters.{is_encoded, is_userinfo_character}
use Rattle.ref_uri.specs.Authority.{is_port_part}
use Rattle.ref_uri.specs.Components.{ends_authority}
use Rattle.ref_uri.specs.inner.Scans.{ends_authority_at}
use Rattle.ref_uri.proofs.HostLemmas.{name_accepted, name_is_userinfo, encoded_joined, encoded_inside, port_after}
use Rattle.ref_uri.proofs.authority.name_and_port_len.Goals as goal

within : (c : goal.After-port_len) → c.encoded_len-name.result + c.port_len.result ≤ length c.args.text.now
within c = omega (arith, ap length (take_rest c.args.text.now c.encoded_len-name.result), length-drop c.encoded_len-name.result c.args.text.now)

encoded : (c : goal.After-port_len) → is_encoded is_userinfo_character (take (c.encoded_len-name.result + c.port_len.result) c.args.text.now) ≡ true
encoded c =
    let text = c.args.text.now in
    let name = c.encoded_len-name.result in
    let port = subst (λ (l : List ℕ). is_encoded is_userinfo_character (take c.port_len.result l) ≡ true) (take_rest text name) c.port_len.ensures.encoded in
    encoded_joined text name c.port_len.result (name_is_userinfo (take name text) c.encoded_len-name.ensures.encoded) port

pub returns-clause-encoded : goal.returns-clause-encoded
returns-clause-encoded c = encoded c

pub returns-clause-accepted : goal.returns-clause-accepted
returns-clause-accepted c =
    let text = c.args.text.now in
    let name = c.encoded_len-name.result in
    let run = c.encoded_len-name.ensures in
    let port = subst (λ (l : List ℕ). ends_authority_at l c.port_len.result ≡ is_port_part (before_first ends_authority l)) (take_rest text name) c.port_len.ensures.accepted in
    port_after text name c.port_len.result run.within (encoded_inside text name run.within (name_is_userinfo (take name text) run.encoded)) port
    ∙ name_accepted text name c.requires run.within run.encoded run.longest

pub returns-clause-inside : goal.returns-clause-inside
returns-clause-inside c =
    encoded_inside c.args.text.now (c.encoded_len-name.result + c.port_len.result) (within c) (encoded c)
