use Rattle.std.proofs.Common.{◌≡◌, ◌∙◌, List, map, reverse, refl, ap, rules}
use Rattle.ref_definitions.specs.World.{Layer}
use Rattle.ref_resolver.specs.Layered.{world_in}
use Rattle.ref_findings.specs.declared.site.Site.{Site}
use Rattle.ref_findings.specs.inner.Seen.{site_of}
use Rattle.ref_findings.proofs.Knowing.{known_with, same_known}
use Rattle.ref_findings.proofs.list.known_of.Goals as goal

pub returns : goal.returns
returns c =
    let b = c.args.bearers.now in
    let world = world_in c.args.layers in
    let own : c.as_slice-2.result.now ≡ c.args.indexes.now.own.items = search rules in
    let sites : c.as_slice.result.now ≡ b.sites.items = search rules in
    ap (λ (o : List Layer). known_with world o b.unread (map site_of c.as_slice.result.now) (reverse b.uris.firsts) (reverse b.names)) own
    ∙ ap (λ (l : List Site). known_with world c.args.indexes.now.own.items b.unread (map site_of l) (reverse b.uris.firsts) (reverse b.names)) sites
    ∙ same_known world c.args.indexes.now.own.items b.unread (map site_of b.sites.items) b.uris.firsts b.names world refl c.requires.tables.firsts c.requires.tables.names
