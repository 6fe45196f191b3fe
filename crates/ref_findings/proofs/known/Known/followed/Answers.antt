use Rattle.std.proofs.Common.{◌≡◌, ◌∙◌, [], false, None, Some, ap, sym, subst, rules}
use Rattle.std.specs.Prelude.{if◌then◌else◌}
use Rattle.ref_definitions.specs.Lookup.{lookup}
use Rattle.ref_findings.specs.Findings.{is_among, world_at, by_answer}
use Rattle.ref_resolver.specs.Layered.{world_in}
use Rattle.ref_findings.specs.Places.{nearest_base}
use Rattle.ref_findings.specs.inner.Meanings.{IsMaybe, IsWhy}
use Rattle.ref_findings.specs.inner.Seen.{site_of, known_in}
use Rattle.ref_findings.proofs.known.Known.followed.Goals as goal

pub returns-in-Some : goal.returns-in-Some
returns-in-Some c =
    let k = known_in c.args.self.now in
    let uri = c.args.uri.value in
    let site = site_of c.args.site.now in
    let base = c.base.result.now.value in
    let reference = c.args.reference.now in
    let answer = lookup (world_at k site uri) (record { base = nearest_base site.1; scope = [] }) reference in
    let sound : is_among uri k.unread ≡ false = search rules in
    let text : c.as_str-2.result.now ≡ uri = search rules in
    let there : world_in c.layers_at-layers.result ≡ world_at k site uri = c.layers_at-layers.ensures ∙ ap (world_at k site) text in
    let found : IsWhy (lookup (world_in c.layers_at-layers.result) (record { base = base; scope = [] }) reference) (Some c.in-Some.error) = search rules in
    let why : IsWhy answer (Some c.in-Some.error) =
    subst (λ b. IsWhy (lookup (world_at k site uri) (record { base = b; scope = [] }) reference) (Some c.in-Some.error)) c.base.ensures.value
    (subst (λ w. IsWhy (lookup w (record { base = base; scope = [] }) reference) (Some c.in-Some.error)) there found) in
    let is = ap (λ b. if b then None else by_answer uri reference answer) sound ∙ ap (by_answer uri reference) why.1 in
    subst (λ o. IsMaybe o c.unresolvable_problem.result) (sym is) (c.unresolvable_problem.ensures why.0 why.2)
