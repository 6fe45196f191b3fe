use Rattle.std.proofs.Common.{◌≡◌, option_copied, ap, ◌∙◌}
use Rattle.ref_uri.specs.Components.{components, are_components, scheme, authority, query, fragment}
use Rattle.ref_uri.specs.inner.Target.{components_of}
use Rattle.ref_uri.proofs.TargetLemmas.{each_same, front_kept, rest_kept}
use Rattle.ref_uri.proofs.WrittenUri.{components_hold}
use Rattle.ref_uri.proofs.reference.UriRef.parts.Goals as goal

same : (c : goal.After-parts) → components_of c.parts.result ≡ components c.self.inside.text.now
same c =
    each_same (components_of c.parts.result) (components c.self.inside.text.now) c.parts.ensures.scheme c.parts.ensures.authority c.parts.ensures.path c.parts.ensures.query c.parts.ensures.fragment

pub returns-clause-all : goal.returns-clause-all
returns-clause-all c = same c ∙ ap components c.self.view_is

pub returns-clause-hold : goal.returns-clause-hold
returns-clause-hold c = ap are_components (same c) ∙ components_hold c.self.inside.text.now c.self.invariant.reference

pub returns-clause-framed : goal.returns-clause-framed
returns-clause-framed c =
    let text = c.self.inside.text.now in
    record {
      front = c.parts.ensures.front ∙ front_kept (scheme text) (authority text) (option_copied c.parts.result.scheme) (option_copied c.parts.result.authority) c.parts.ensures.scheme c.parts.ensures.authority;
      ascii = c.parts.ensures.ascii;
      rest = c.parts.ensures.rest ∙ rest_kept (query text) (fragment text) (option_copied c.parts.result.query) (option_copied c.parts.result.fragment) c.parts.ensures.query c.parts.ensures.fragment;
    }
