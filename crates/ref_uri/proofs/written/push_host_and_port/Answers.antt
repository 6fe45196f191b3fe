use Rattle.std.proofs.Common.{◌≡◌, true, ◌++◌, string_bytes, subst, ap, sym, ◌∙◌, rules, OnOk}
use Rattle.std.specs.List.{list_all}
use Rattle.std.proofs.lemmas.Result.{on_ok_weaker}
use Rattle.ref_uri.specs.inner.Written.{is_plain_in_host}
use Rattle.ref_uri.proofs.PlainHost.{plain_host}
use Rattle.ref_uri.proofs.written.push_host_and_port.Goals as goal

pub returns-then-is_plain_host : goal.returns-then-is_plain_host
returns-then-is_plain_host c =
    let text = c.args.text.now in
    let plain : list_all is_plain_in_host text ≡ true = subst (λ t. list_all is_plain_in_host t ≡ true) c.as_bytes.ensures.value (c.is_plain_host.ensures c.if-is_plain_host.true) in
    let more : OnOk c.push_str.result (string_bytes c.push_str.new.self ≡ string_bytes c.args.buffer.now ++ text) = search rules in
    on_ok_weaker c.push_str.result (λ e. e ∙ ap (λ t. string_bytes c.args.buffer.now ++ t) (sym (plain_host text plain))) more
