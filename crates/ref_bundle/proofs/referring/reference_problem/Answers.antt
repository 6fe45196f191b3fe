use Rattle.std.proofs.Common.{◌≡◌, ◌==◌, ℕ, List, Option, true, false, refl, None, Some, IfOk, slice_get, option_map, map, ap, sym, subst, ◌∙◌, rules}
use Rattle.ref_paths.specs.Segment.{part_of}
use Rattle.ref_definitions.specs.World.{Layer}
use Rattle.ref_bundle.proofs.Lists.{got}
use Rattle.ref_bundle.specs.Needed.{Site, site_under}
use Rattle.ref_bundle.specs.Bundle.{root_problems, embedded_problems}
use Rattle.ref_bundle.specs.Saying.{further_of, problem_said}
use Rattle.ref_bundle.specs.inner.Seen.{document_in, layer_in, numbered_part, seen_reference}
use Rattle.ref_bundle.specs.inner.Tables.{site_of}
use Rattle.ref_bundle.specs.inner.First.{first}
use Rattle.ref_bundle.proofs.Gathering.{document_at}
use Rattle.ref_bundle.proofs.Firsts.{of_top, embedded_is, embedded_not}
use Rattle.ref_bundle.proofs.referring.reference_problem.Goals as goal

-- the site that the URI of a reference means
under_is : {A : Type 0} (found : Option A) (a : A) (f : A → Site) (layer : Layer) (text uri : List ℕ) → option_map f found ≡ site_under layer text → text ≡ uri → found ≡ Some a → site_under layer uri ≡ Some (f a)
under_is found a f layer text uri meant same is = ap (site_under layer) (sym same) ∙ sym meant ∙ ap (option_map f) is

pub returns-then-site-among : goal.returns-then-site-among
returns-then-site-among c =
    let r = seen_reference c.args.reference.now in
    let under = under_is c.site_under.result c.in-Some.site (λ s. site_of s.now) (layer_in c.args.among.now.owns.now) c.as_str.result.now r.uri (c.site_under.ensures.value (layer_in c.args.among.now.owns.now) c.requires.tables) (search rules) (search rules) in
    let layer = layer_in c.args.among.now.owns.now in
    let site = c.in-Some.site.now in
    let same : (site.document == c.args.among.now.top.now.number) ≡ true = search rules in
    let path : map part_of c.as_slice-path.result.now ≡ map part_of site.path.items = search rules in
    subst (λ t. IfOk c.root_problem.result (λ o. option_map problem_said o ≡ t))
    (ap (λ p. first (root_problems layer (further_of c.args.among.now.further.now) (numbered_part c.args.among.now.top.now) r p)) path ∙ ap first (of_top layer (further_of c.args.among.now.further.now) c.args.among.now.bearers.now.registry.now (numbered_part c.args.among.now.top.now) r (site_of site) under same)) c.root_problem.ensures

pub returns-in-Some-get : goal.returns-in-Some-get
returns-in-Some-get c =
    let r = seen_reference c.args.reference.now in
    let under = under_is c.site_under.result c.in-Some.site (λ s. site_of s.now) (layer_in c.args.among.now.owns.now) c.as_str.result.now r.uri (c.site_under.ensures.value (layer_in c.args.among.now.owns.now) c.requires.tables) (search rules) (search rules) in
    let owns = c.args.among.now.owns.now in
    let n = c.in-Some.site.now.document in
    let path : map part_of c.as_slice-path.result.now ≡ map part_of c.in-Some.site.now.path.items = search rules in
    let other : (n == c.args.among.now.top.now.number) ≡ false = search rules in
    let there : slice_get owns n ≡ Some c.in-Some-get.own.now = sym (got owns n c.get.result c.get.ensures.lookup) ∙ search rules in
    let at = document_at document_in owns (layer_in owns) n (Some c.in-Some-get.own.now) refl there in
    let d = document_in c.in-Some-get.own.now in
    subst (λ t. IfOk c.embedded_problem.result (λ o. option_map problem_said o ≡ t))
    (ap (λ p. first (embedded_problems c.args.among.now.top.now.draft r p d)) path ∙ ap first (embedded_is (layer_in owns) (further_of c.args.among.now.further.now) c.args.among.now.bearers.now.registry.now (numbered_part c.args.among.now.top.now) r (site_of c.in-Some.site.now) d under other at)) c.embedded_problem.ensures

pub returns-in-None : goal.returns-in-None
returns-in-None c =
    let r = seen_reference c.args.reference.now in
    let under = under_is c.site_under.result c.in-Some.site (λ s. site_of s.now) (layer_in c.args.among.now.owns.now) c.as_str.result.now r.uri (c.site_under.ensures.value (layer_in c.args.among.now.owns.now) c.requires.tables) (search rules) (search rules) in
    let owns = c.args.among.now.owns.now in
    let n = c.in-Some.site.now.document in
    let there : slice_get owns n ≡ None = sym (got owns n c.get.result c.get.ensures.lookup) ∙ search rules in
    let other : (n == c.args.among.now.top.now.number) ≡ false = search rules in
    let at = document_at document_in owns (layer_in owns) n None refl there in
    ap first (embedded_not (layer_in owns) (further_of c.args.among.now.further.now) c.args.among.now.bearers.now.registry.now (numbered_part c.args.among.now.top.now) r (site_of c.in-Some.site.now) under other at)
