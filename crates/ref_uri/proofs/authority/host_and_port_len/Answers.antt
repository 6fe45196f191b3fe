use Rattle.std.proofs.Common.{◌≡◌, ◌∙◌, ◌≤◌, ℕ, Option, Some, sym, ap, subst, arith}
use Rattle.std.specs.List.{position_or_len}
use Rattle.std.specs.Option.{IfSome}
use Rattle.ref_uri.specs.Components.{ends_authority}
use Rattle.ref_uri.proofs.ScanLemmas.{ends_here}
use Rattle.ref_uri.proofs.authority.host_and_port_len.Goals as goal
use Rattle.ref_uri.proofs.authority.host_and_port_len.Goals.{then-begins_with_bracket+in_ok-len, else-begins_with_bracket}

inside : (c : goal.Else-not-is_end) → c.if-begins_with_bracket.len ≤ position_or_len ends_authority c.args.text.now
inside c =
    elim c.if-begins_with_bracket.branch [
      | then-begins_with_bracket+in_ok-len w ↦
          let some : w.brackets_and_port_len.result ≡ Some c.if-begins_with_bracket.len = w.in_ok-len.ensures.ok_part ∙ ap (λ (n : ℕ). Some n) (sym w.len-is) in
          subst (λ (o : Option ℕ). IfSome o (λ n. n ≤ position_or_len ends_authority c.args.text.now)) some w.brackets_and_port_len.ensures.inside
      | else-begins_with_bracket w ↦ omega arith
    ]

pub returns-clause-len : goal.returns-clause-len
returns-clause-len c =
    sym (ends_here c.args.text.now c.if-begins_with_bracket.len (inside c) (sym c.is_end.ensures ∙ c.if-not-is_end.false))
