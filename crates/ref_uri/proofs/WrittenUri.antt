-- A text that is written from components with a scheme is a URI whose components are so long.
use Rattle.std.proofs.Common.{◌≡◌, ℕ, true, List, map, Option, Some, None, is_some, option_map, Result, Ok, Err, refl, ap, sym, ◌∙◌}
use Rattle.ref_uri.specs.declared.lengths.Lengths.{Lengths}
use Rattle.ref_uri.specs.Components.{Components, components, are_components, text_of, scheme}
use Rattle.ref_uri.specs.inner.Lengths.{IsParsed, IsParsedUri}
use Rattle.ref_uri.specs.Reference.{is_uri_reference}
use Rattle.ref_uri.specs.Normal.{normal_components, normal_form}
use Rattle.std.specs.Option.{option_or}
use Rattle.ref_uri.specs.Resolution.{target_text, resolved_components}
use Rattle.ref_uri.proofs.TargetLemmas.{some_there}
use Rattle.ref_uri.specs.inner.Target.{lengths_of_components}
use Rattle.std.specs.Result.{IfOk}
use Rattle.std.specs.Char.{to_ascii_lowercase}
use Rattle.ref_uri.proofs.ValidTargets.{resolved_is_valid, normal_is_valid}
use Rattle.ref_uri.proofs.AsciiLemmas.{reference_ascii}
use Rattle.ref_uri.proofs.UniqueLemmas.{components-text_of}

written_reference : (c : Components) → are_components c ≡ true → is_uri_reference (text_of c) ≡ true
unfolding is_uri_reference
written_reference c h = ap are_components (components-text_of c h) ∙ h

-- a text that is written from components that hold what they may
pub written_parsed : (c : Components) (text : List ℕ) (lengths : Lengths) → are_components c ≡ true → text ≡ text_of c → lengths ≡ lengths_of_components c → IsParsed text lengths
written_parsed c text lengths h is long =
    let reference : is_uri_reference text ≡ true = ap is_uri_reference is ∙ written_reference c h in
    let found : components text ≡ c = ap components is ∙ components-text_of c h in
    record { ascii = reference_ascii text reference; reference = reference; lengths_are = long ∙ ap lengths_of_components (sym found) }

-- the scheme of a text that is written
pub written_scheme_is : (c : Components) (text : List ℕ) → are_components c ≡ true → text ≡ text_of c → scheme text ≡ c.scheme
written_scheme_is c text h is = ap (λ (d : Components). d.scheme) (ap components is ∙ components-text_of c h)

pub written_uri : (c : Components) (text : List ℕ) (lengths : Lengths) → are_components c ≡ true → is_some c.scheme ≡ true → text ≡ text_of c → lengths ≡ lengths_of_components c → IsParsedUri text lengths
written_uri c text lengths h there is long = (written_parsed c text lengths h is long, ap is_some (written_scheme_is c text h is) ∙ there)

-- a reference's components hold what they may
pub components_hold : (text : List ℕ) → is_uri_reference text ≡ true → are_components (components text) ≡ true
unfolding is_uri_reference
components_hold text h = h

-- the text of the normal form
pub normal_text_of : (c : Components) (text : List ℕ) → c ≡ components text → text_of (normal_components c) ≡ normal_form text
unfolding normal_form
normal_text_of c text is = ap (λ d. text_of (normal_components d)) is

-- the text of the target
pub resolved_text_of : (b r : Components) (base reference : List ℕ) → b ≡ components base → r ≡ components reference → text_of (resolved_components b r) ≡ target_text base reference
unfolding target_text
resolved_text_of b r base reference is are = ap (λ d. text_of (resolved_components d r)) is ∙ ap (λ d. text_of (resolved_components (components base) d)) are

-- a target has a scheme
pub target_has_scheme : (base reference : Components) → is_some base.scheme ≡ true → is_some (resolved_components base reference).scheme ≡ true
target_has_scheme base reference h = by_scheme reference.scheme
  where
    by_scheme : (o : Option (List ℕ)) → is_some (option_or o base.scheme) ≡ true
    by_scheme (Some x) = refl
    by_scheme None = h

-- the target of a reference, written, is a URI
pub resolved_uri : (base reference : Components) (text : List ℕ) (lengths : Lengths) → is_some base.scheme ≡ true → are_components base ≡ true → are_components reference ≡ true → text ≡ text_of (resolved_components base reference) → lengths ≡ lengths_of_components (resolved_components base reference) → IsParsedUri text lengths
resolved_uri base reference text lengths scheme h k is long =
    let there = some_there base.scheme scheme in
    written_uri (resolved_components base reference) text lengths (resolved_is_valid base reference there.0 there.1 h k) (target_has_scheme base reference scheme) is long

-- a normal form, written
pub normal_parsed : (c : Components) (text : List ℕ) (lengths : Lengths) → are_components c ≡ true → text ≡ text_of (normal_components c) → lengths ≡ lengths_of_components (normal_components c) → IsParsed text lengths
normal_parsed c text lengths h is long = written_parsed (normal_components c) text lengths (normal_is_valid c h) is long

-- a normal form has a scheme where what it is of has one
pub normal_scheme : (c : Components) (text : List ℕ) → are_components c ≡ true → text ≡ text_of (normal_components c) → is_some (scheme text) ≡ is_some c.scheme
normal_scheme c text h is = ap is_some (written_scheme_is (normal_components c) text (normal_is_valid c h) is) ∙ mapped c.scheme
  where
    mapped : (o : Option (List ℕ)) → is_some (option_map (map to_ascii_lowercase) o) ≡ is_some o
    mapped None = refl
    mapped (Some x) = refl

-- two facts on what a call returns
pub both_if_ok : {X E : Type 0} (r : Result X E) (P Q : X → Type 0) → IfOk r P → IfOk r Q → IfOk r (λ x. P x × Q x)
both_if_ok (Ok x) P Q h k = (h, k)
both_if_ok (Err e) P Q h k = tt
