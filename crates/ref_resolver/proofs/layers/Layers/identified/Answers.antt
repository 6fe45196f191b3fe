use Rattle.std.proofs.Common.{◌≡◌, ℕ, List, Option, Some, None, IfSome, Ok, true, is_some, sym, ap, subst, ◌∙◌, rules}
use Rattle.std.specs.Borrow.{Bor}
use Rattle.ref_uri.specs.Components.{scheme}
use Rattle.ref_uri.specs.Targets.{uri_against}
use Rattle.ref_definitions.specs.World.{Layer}
use Rattle.ref_definitions.specs.Resources.{last_under, resources}
use Rattle.ref_index.specs.declared.entry.Entry.{Entry}
use Rattle.ref_index.specs.Entries.{IsFoundAt}
use Rattle.ref_resolver.proofs.layers.Layers.identified.Goals as goal

-- a URI that means itself against any base means the entry's base
itself_there : (o : Option (Bor Entry)) (base uri : List ℕ) → is_some (scheme base) ≡ true → IfSome o (λ e. e.now.base.value ≡ uri) → IfSome o (λ e. (b : List ℕ) → is_some (scheme b) ≡ true → uri_against b uri ≡ Ok uri)
    → IfSome o (λ e. uri_against base uri ≡ Ok e.now.base.value)
itself_there None base uri has is itself = tt
itself_there (Some e) base uri has is itself = itself base has ∙ ap Ok (sym is)

-- and the entry is found under its base
found_there : (layer : Layer) (o : Option (Bor Entry)) (uri : List ℕ) → IfSome o (λ e. e.now.base.value ≡ uri) → IfSome o (λ e. IsFoundAt layer e.now (last_under uri (resources layer)))
    → IfSome o (λ e. IsFoundAt layer e.now (last_under e.now.base.value (resources layer)))
found_there layer None uri is at = tt
found_there layer (Some e) uri is at = subst (λ u. IsFoundAt layer e.now (last_under u (resources layer))) (sym is) at

pub returns-clause-uri : goal.returns-clause-uri
returns-clause-uri c = itself_there c.identified.result c.args.base.now c.args.uri.now (search rules) c.identified.ensures.base c.identified.ensures.itself

pub returns-clause-place : goal.returns-clause-place
returns-clause-place c = found_there c.args.self.now.own.now c.identified.result c.args.uri.now c.identified.ensures.base c.identified.ensures.value
