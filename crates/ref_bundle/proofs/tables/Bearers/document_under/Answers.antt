use Rattle.std.proofs.Common.{◌≡◌, None, Some, option_map, ap, sym, ◌∙◌, rules}
use Rattle.ref_bundle.specs.Needed.{Site}
use Rattle.ref_bundle.specs.inner.Tables.{site_of}
use Rattle.ref_bundle.proofs.tables.Bearers.document_under.Goals as goal

pub returns-in_err-site : goal.returns-in_err-site
returns-in_err-site c =
    let none : option_map (λ s. site_of s.now) c.site_under.result ≡ None = search rules in
    let gives : c.from_residual.result ≡ None = search rules in
    record { value = λ layer are. gives ∙ ap (option_map (λ (s : Site). s.0)) (sym none ∙ c.site_under.ensures.value layer are) }

pub returns : goal.returns
returns c =
    let some : option_map (λ s. site_of s.now) c.site_under.result ≡ Some (site_of c.in_ok-site.site.now) = search rules in
    record { value = λ layer are. ap (option_map (λ (s : Site). s.0)) (sym some ∙ c.site_under.ensures.value layer are) }
