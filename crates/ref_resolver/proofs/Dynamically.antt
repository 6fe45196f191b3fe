-- What a dynamic anchor leads to, by the dynamic scope of a resolver.
use Rattle.std.proofs.Common.{◌≡◌, ℕ, List, Some, Ok, sym, ap, subst, ◌∙◌}
use Rattle.std.specs.Result.{result_ok}
use Rattle.serde_json.specs.View.{view}
use Rattle.ref_draft.specs.Anchors.{Dynamic}
use Rattle.ref_definitions.specs.Anchors.{Named, anchor}
use Rattle.ref_definitions.specs.Lookup.{moved_resolver, named_found, by_scope, in_scope}
use Rattle.ref_error.specs.declared.error.Error.{Error}
use Rattle.ref_error.specs.Errors.{IsFaultOf}
use Rattle.ref_resolver.specs.declared.located.Located.{Located}
use Rattle.ref_resolver.specs.declared.resolver.Resolver.{Resolver}
use Rattle.ref_resolver.specs.inner.Located.{IsLocated}
use Rattle.ref_resolver.specs.inner.Scoped.{IsOutermost}
use Rattle.ref_resolver.specs.Resolving.{resolver_of, world_of}
use Rattle.ref_resolver.specs.inner.Leading.{under_uri}
use Rattle.ref_resolver.proofs.Fragments.{dynamic_scope}
use Rattle.ref_resolver.proofs.Naming.{only_one}
use Rattle.ref_resolver.proofs.Scoping.{found_under}

-- an entry is a dynamic anchor of a name
abbrev pub IsDynamicOf : List ℕ → Named → Type 0
IsDynamicOf name n = (n.name ≡ name) × (n.kind ≡ Dynamic)

asked : (self : Resolver) (name : List ℕ) (n : Named) → IsDynamicOf name n
    → named_found (world_of self) (resolver_of self) n n.kind ≡ by_scope (resolver_of self) n (in_scope (world_of self) name (resolver_of self).scope)
asked self name n (called, dynamic) = dynamic_scope (world_of self) (resolver_of self) n name called dynamic

-- a fault of the scope
pub scope_refused : (self : Resolver) (name : List ℕ) (n : Named) (e : Error) → IsDynamicOf name n
    → IsFaultOf (by_scope (resolver_of self) n (in_scope (world_of self) name (resolver_of self).scope)) e → IsFaultOf (named_found (world_of self) (resolver_of self) n n.kind) e
scope_refused self name n e of says = subst (λ a. IsFaultOf a e) (sym (asked self name n of)) says

-- the place that was found outermost
pub scope_leads : (self : Resolver) (name : List ℕ) (n : Named) (outer : List ℕ) (l : Located) → IsDynamicOf name n → IsOutermost (world_of self) (resolver_of self) n name outer l
    → named_found (world_of self) (resolver_of self) n n.kind ≡ under_uri (resolver_of self) outer l.entry.now.draft (view l.value.now)
scope_leads self name n outer l of (m, leads, is_at_path, named, last) = asked self name n of ∙ leads ∙ found_under (resolver_of self) outer m l is_at_path

-- under the URI of that place the name means the anchor there
pub scope_means : {l : Located} (self : Resolver) (name : List ℕ) (n : Named) (outer text : List ℕ) → anchor (world_of self) (resolver_of self).base name ≡ Ok n → text ≡ outer → IsOutermost (world_of self) (resolver_of self) n name outer l
    → (m : Named) × (anchor (world_of self) text name ≡ Ok m)
scope_means self name n outer text means is (m, leads, is_at_path, named, last) = (m, ap (λ u. anchor (world_of self) u name) is ∙ named means)

-- and leads to any place of that anchor
pub scope_leads_there : {first : Located} (self : Resolver) (name : List ℕ) (n k : Named) (outer text : List ℕ) (l : Located) → IsDynamicOf name n → anchor (world_of self) (resolver_of self).base name ≡ Ok n → text ≡ outer
    → IsOutermost (world_of self) (resolver_of self) n name outer first → result_ok (anchor (world_of self) text name) ≡ Some k → IsLocated l k.place
    → named_found (world_of self) (resolver_of self) n n.kind ≡ under_uri (resolver_of self) outer l.entry.now.draft (view l.value.now)
scope_leads_there self name n k outer text l of means is (m, leads, is_at_path, named, last) found there =
    let here : anchor (world_of self) text name ≡ Ok m = ap (λ u. anchor (world_of self) u name) is ∙ named means in
    let one : k ≡ m = only_one (anchor (world_of self) text name) k m found here in
    scope_leads self name n outer l of (m, leads, subst (λ (x : Named). IsLocated l x.place) one there, named, last)

-- what a name leads to from a resolver that moved to a URI
pub named_moved : (self there : Resolver) (uri : List ℕ) (n : Named) → world_of there ≡ world_of self → resolver_of there ≡ moved_resolver (resolver_of self) uri
    → named_found (world_of self) (moved_resolver (resolver_of self) uri) n n.kind ≡ named_found (world_of there) (resolver_of there) n n.kind
named_moved self there uri n world moved = ap (λ r. named_found (world_of self) r n n.kind) (sym moved) ∙ ap (λ w. named_found w (resolver_of there) n n.kind) (sym world)
