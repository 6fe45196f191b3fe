-- What a fragment means, by its first character.
use Rattle.std.proofs.Common.{◌≡◌, ℕ, Bool, true, false, eqb, List, [], ◌∷◌, Ok, refl, sym, ap, ◌∙◌}
use Rattle.std.specs.Prelude.{not}
use Rattle.std.proofs.lemmas.Bool.Decides.{Decides-eqb}
use Rattle.serde_json.specs.View.{view}
use Rattle.ref_draft.specs.Anchors.{Plain, Dynamic}
use Rattle.ref_definitions.specs.World.{World}
use Rattle.ref_definitions.specs.Places.{Place}
use Rattle.ref_definitions.specs.Anchors.{Named}
use Rattle.ref_definitions.specs.Lookup.{Resolver, at_fragment, named_found, dynamically, by_scope, in_scope}
use Rattle.ref_resolver.specs.declared.located.Located.{Located}
use Rattle.ref_resolver.specs.inner.Located.{IsLocated}
use Rattle.ref_resolver.specs.inner.Names.{is_name}
use Rattle.ref_resolver.specs.inner.Leading.{at_pointer}

-- one that begins with `/` is a pointer
pub pointer_there : (w : World) (r : Resolver) (p : Place) (l : Located) (fragment text : List ℕ) → IsLocated l p → fragment ≡ 47 ∷ text
    → at_fragment w r p fragment ≡ at_pointer r l.entry.now.draft fragment (view l.value.now) text
pointer_there w r p l fragment text at is =
    ap (at_fragment w r p) is
    ∙ ap (λ f. at_pointer r p.draft f p.value text) (sym is)
    ∙ ap (λ d. at_pointer r d fragment p.value text) (sym at.draft)
    ∙ ap (λ v. at_pointer r l.entry.now.draft fragment v text) (sym at.value)

pub no_name : (c : ℕ) (text : List ℕ) (t : Bool) → eqb c 47 ≡ t → not t ≡ false → ((rest : List ℕ) → c ∷ text ≡ 47 ∷ rest → ⊥) → ⊥
no_name c text true is name none = none text (ap (λ x. x ∷ text) ((Decides-eqb c 47).0 is))
no_name c text false is name none = cc

-- one that neither is a name nor begins with `/` is empty, and means the resource
pub whole_there : (w : World) (r : Resolver) (p : Place) (l : Located) (fragment : List ℕ) → IsLocated l p → is_name fragment ≡ false → ((rest : List ℕ) → fragment ≡ 47 ∷ rest → ⊥)
    → at_fragment w r p fragment ≡ Ok (record { value = view l.value.now; draft = l.entry.now.draft; resolver = r })
whole_there w r p l [] at name none =
    ap (λ v. Ok (record { value = v; draft = p.draft; resolver = r })) (sym at.value) ∙ ap (λ d. Ok (record { value = view l.value.now; draft = d; resolver = r })) (sym at.draft)
whole_there w r p l (c ∷ text) at name none = absurd (no_name c text (eqb c 47) refl name none)

pub dynamic_there : (w : World) (r : Resolver) (n : Named) → Dynamic ≡ n.kind → named_found w r n n.kind ≡ dynamically w r n
dynamic_there w r n is = ap (named_found w r n) (sym is)

-- the same by the scope
pub dynamic_scope : (w : World) (r : Resolver) (n : Named) (name : List ℕ) → n.name ≡ name → n.kind ≡ Dynamic → named_found w r n n.kind ≡ by_scope r n (in_scope w name r.scope)
dynamic_scope w r n name called is = dynamic_there w r n (sym is) ∙ ap (λ text. by_scope r n (in_scope w text r.scope)) called

pub plain_there : (w : World) (r : Resolver) (n : Named) → n.kind ≡ Plain → named_found w r n n.kind ≡ Ok (record { value = n.place.value; draft = n.place.draft; resolver = r })
plain_there w r n is = ap (named_found w r n) is

-- the same by what a call has of its place
pub plain_located : (w : World) (r : Resolver) (n : Named) (l : Located) → n.kind ≡ Plain → IsLocated l n.place → named_found w r n n.kind ≡ Ok (record { value = view l.value.now; draft = l.entry.now.draft; resolver = r })
plain_located w r n l is at =
    plain_there w r n is
    ∙ ap (λ v. Ok (record { value = v; draft = n.place.draft; resolver = r })) (sym at.value)
    ∙ ap (λ d. Ok (record { value = view l.value.now; draft = d; resolver = r })) (sym at.draft)
