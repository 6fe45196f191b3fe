use Rattle.std.proofs.Common.{◌≡◌, ◌≢◌, ◌∙◌, ◌+◌, get_or, drop, true, false, sym, ap, arith}
use Rattle.std.specs.List.{position_or_len, before_first}
use Rattle.std.proofs.lemmas.Bool.{eqb-true}
use Rattle.std.proofs.lemmas.List.{take_rest, get_or_past}
use Rattle.ref_uri.specs.Authority.{is_host_and_port}
use Rattle.ref_uri.specs.Components.{ends_authority}
use Rattle.ref_uri.proofs.PathLemmas.{refusal}
use Rattle.ref_uri.proofs.ScanLemmas.{ends_here, position-drop}
use Rattle.ref_uri.proofs.UserinfoLemmas.{host_alone, bracket_alone, first_stays, userinfo_refused, userinfo_inside, userinfo_taken}
use Rattle.ref_uri.proofs.authority.authority_len.Goals as goal
use Rattle.ref_uri.proofs.authority.authority_len.Goals.{then-userinfo-text-via-then-userinfo-text, then-userinfo-text-via-else-userinfo-text+then-text-userinfo-ne64}

pub returns-then-begins_with_bracket-clause-accepted : goal.returns-then-begins_with_bracket-clause-accepted
returns-then-begins_with_bracket-clause-accepted c =
    let mark : get_or c.args.text.now 0 0 ≡ 91 = eqb-true (get_or c.args.text.now 0 0) 91 (sym c.begins_with_bracket.ensures ∙ c.if-begins_with_bracket.true) in
    c.host_and_port_len.ensures.accepted ∙ sym (bracket_alone (before_first ends_authority c.args.text.now) (first_stays c.args.text.now mark))

pub returns-then-is_end-clause-accepted : goal.returns-then-is_end-clause-accepted
returns-then-is_end-clause-accepted c =
    sym (host_alone (before_first ends_authority c.args.text.now) (sym c.name_and_port_len-read.ensures.accepted ∙ sym c.is_end.ensures ∙ c.if-is_end.true))

pub returns-then-is_end-clause-len : goal.returns-then-is_end-clause-len
returns-then-is_end-clause-len c =
    sym (ends_here c.args.text.now c.name_and_port_len-read.result c.name_and_port_len-read.ensures.inside (sym c.is_end.ensures ∙ c.if-is_end.true))

pub returns-then-userinfo-text-clause-accepted : goal.returns-then-userinfo-text-clause-accepted
returns-then-userinfo-text-clause-accepted c =
    let text = c.args.text.now in
    let run = c.encoded_len-userinfo in
    let other : get_or text run.result 0 ≢ 64 =
    elim c.then-userinfo-text.branch [
      | then-userinfo-text-via-then-userinfo-text w ↦ λ e. absurd (omega (arith, e, get_or_past text run.result 0 (omega arith)))
      | then-userinfo-text-via-else-userinfo-text+then-text-userinfo-ne64 w ↦ w.if-text-userinfo-ne64.true
    ] in
    sym (userinfo_refused text run.result run.ensures.within run.ensures.encoded run.ensures.longest other (sym c.name_and_port_len-read.ensures.accepted ∙ sym c.is_end.ensures ∙ c.if-is_end.false))

pub returns-in_err-host-clause-accepted : goal.returns-in_err-host-clause-accepted
returns-in_err-host-clause-accepted c =
    let text = c.args.text.now in
    let run = c.encoded_len-userinfo in
    let none : is_host_and_port (before_first ends_authority (drop (run.result + 1) text)) ≡ false =
    ap (λ l. is_host_and_port (before_first ends_authority l)) (sym (take_rest text (run.result + 1))) ∙ sym c.in_err-host.ensures.accepted in
    refusal _ _ c.from_residual.ensures.0 (userinfo_taken text run.result (omega arith) run.ensures.encoded c.if-text-userinfo-ne64.false ∙ none)

pub returns-clause-accepted : goal.returns-clause-accepted
returns-clause-accepted c =
    let text = c.args.text.now in
    let run = c.encoded_len-userinfo in
    let there : is_host_and_port (before_first ends_authority (drop (run.result + 1) text)) ≡ true =
    ap (λ l. is_host_and_port (before_first ends_authority l)) (sym (take_rest text (run.result + 1))) ∙ sym c.in_ok-host.ensures.accepted in
    sym (userinfo_taken text run.result (omega arith) run.ensures.encoded c.if-text-userinfo-ne64.false ∙ there)

pub returns-clause-len : goal.returns-clause-len
returns-clause-len c =
    let text = c.args.text.now in
    let run = c.encoded_len-userinfo in
    let rest : c.in_ok-host.host ≡ position_or_len ends_authority (drop (run.result + 1) text) =
    c.in_ok-host.ensures.len ∙ ap (position_or_len ends_authority) (take_rest text (run.result + 1)) in
    omega (arith, rest, position-drop ends_authority text (run.result + 1) (userinfo_inside text run.result (omega arith) run.ensures.encoded c.if-text-userinfo-ne64.false))
