use Rattle.std.proofs.Common.{◌≡◌, true, List, ℕ, subst, ap, Some}
use Rattle.std.specs.List.{list_all}
use Rattle.ref_uri.specs.Normal.{normal_authority}
use Rattle.ref_uri.specs.inner.Written.{is_plain_in_host}
use Rattle.ref_uri.proofs.PlainHost.{plain_authority}
use Rattle.ref_uri.proofs.target.is_plain_authority.Goals as goal

pub returns-in-Some : goal.returns-in-Some
returns-in-Some c = λ plain.
    let text = c.in-Some.authority.now in
    let all : list_all is_plain_in_host text ≡ true = subst (λ (t : List ℕ). list_all is_plain_in_host t ≡ true) c.as_bytes.ensures.value (c.is_plain_host.ensures plain) in
    let same : normal_authority text ≡ text = plain_authority text all in
    rw c.in-Some.is (ap (λ t. Some t) same)
