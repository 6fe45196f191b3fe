-- A reference with another fragment.
use Rattle.std.proofs.Common.{◌≡◌, ℕ, suc, ◌+◌, ◌-◌, ◌≤◌, true, ◌&&◌, List, [], ◌∷◌, ◌++◌, length, length-append, take, codes, Option, Some, None, option_map, refl, sym, ap, ◌∙◌, arith, append-nil, append_assoc, is_some}
use Rattle.std.proofs.lemmas.Bool.{and_from}
use Rattle.std.proofs.lemmas.List.{take_at}
use Rattle.ref_uri.specs.Components.{Components, components, text_of, framed_component, are_components, if_there, is_scheme, is_path, is_query, is_path_after, scheme, authority, path, query, fragment}
use Rattle.ref_uri.specs.Authority.{is_authority}
use Rattle.ref_uri.specs.Resolution.{target_text, resolved_components}
use Rattle.ref_uri.specs.Reference.{is_uri_reference, with_fragment}
use Rattle.ref_uri.specs.declared.lengths.Lengths.{Lengths}
use Rattle.ref_uri.specs.inner.Lengths.{IsParsed, IsParsedUri, lengths_of, the_lengths}
use Rattle.ref_uri.proofs.StructureLemmas.{text_of-components}
use Rattle.ref_uri.proofs.UniqueLemmas.{components-text_of, tested}
use Rattle.ref_uri.proofs.AsciiLemmas.{reference_ascii}

-- components with another fragment that is one hold what they may
with_fragment_tested : (c : Components) (f : Option (List ℕ)) → are_components c ≡ true → if_there is_query f ≡ true → are_components (record c { fragment = f }) ≡ true
unfolding are_components
with_fragment_tested c f h k =
    let t = tested c h in
    let two = and_from (if_there is_scheme c.scheme) (if_there is_authority c.authority) t.scheme_test t.authority_test in
    let three = and_from (if_there is_scheme c.scheme && if_there is_authority c.authority) (is_path c.path) two t.path_test in
    let four = and_from (if_there is_scheme c.scheme && if_there is_authority c.authority && is_path c.path) (if_there is_query c.query) three t.query_test in
    let five = and_from (if_there is_scheme c.scheme && if_there is_authority c.authority && is_path c.path && if_there is_query c.query) (if_there is_query f) four k in
    and_from (if_there is_scheme c.scheme && if_there is_authority c.authority && is_path c.path && if_there is_query c.query && if_there is_query f) (is_path_after c.scheme c.authority c.path) five t.place_test

-- a reference's text has its components, with another fragment
pub components-with_fragment : (text : List ℕ) (f : Option (List ℕ)) → is_uri_reference text ≡ true → if_there is_query f ≡ true → components (with_fragment text f) ≡ record (components text) { fragment = f }
unfolding is_uri_reference
components-with_fragment text f h k = components-text_of (record (components text) { fragment = f }) (with_fragment_tested (components text) f h k)

pub reference-with_fragment : (text : List ℕ) (f : Option (List ℕ)) → is_uri_reference text ≡ true → if_there is_query f ≡ true → is_uri_reference (with_fragment text f) ≡ true
unfolding is_uri_reference
reference-with_fragment text f h k = ap are_components (components-text_of (record (components text) { fragment = f }) (with_fragment_tested (components text) f h k)) ∙ with_fragment_tested (components text) f h k

-- its lengths stay
pub parsed-with_fragment : (text : List ℕ) (l : Lengths) (f : Option (List ℕ)) → IsParsed text l → if_there is_query f ≡ true → IsParsed (with_fragment text f) l
parsed-with_fragment text l f parsed k =
    let reference = reference-with_fragment text f parsed.reference k in
    let same : (c : Components) → components (with_fragment text f) ≡ c → lengths_of (with_fragment text f) ≡ the_lengths (option_map length c.scheme) (option_map length c.authority) (length c.path) (option_map length c.query) = λ c e. ap (λ (x : Components). the_lengths (option_map length x.scheme) (option_map length x.authority) (length x.path) (option_map length x.query)) e in
    record {
      ascii = reference_ascii (with_fragment text f) reference;
      reference = reference;
      lengths_are = parsed.lengths_are ∙ sym (same (record (components text) { fragment = f }) (components-with_fragment text f parsed.reference k));
    }

-- what is before the fragment
abbrev pub before_fragment : List ℕ → List ℕ
before_fragment text = framed_component [] (scheme text) (codes ":") ++ framed_component (codes "//") (authority text) [] ++ path text ++ framed_component (codes "?") (query text) []

-- a text with the fragment cut off
pub with_fragment-cut : (text f : List ℕ) → fragment text ≡ Some f → take (length text - length f - 1) text ≡ with_fragment text None
with_fragment-cut text f is =
    let front = before_fragment text in
    let whole : text ≡ front ++ (35 ∷ f) = sym (text_of-components text) ∙ ap (λ o. front ++ framed_component (codes "#") o []) is ∙ ap (λ t. front ++ (35 ∷ t)) (append-nil f) in
    let len : length text ≡ length front + (length f + 1) = ap length whole ∙ length-append front (35 ∷ f) ∙ counted (length front) (length f) in
    let at : length text - length f - 1 ≡ length front = omega arith in
    ap (λ n. take n text) at ∙ ap (λ t. take (length front) t) whole ∙ take_at front (35 ∷ f) (length front) refl ∙ sym (append-nil front)
  where
    counted : (a b : ℕ) → a + suc b ≡ a + (b + 1)
    counted a b = omega arith

-- a text with no fragment
pub with_fragment-none : (text : List ℕ) → fragment text ≡ None → text ≡ with_fragment text None
with_fragment-none text is = sym (text_of-components text) ∙ ap (λ o. before_fragment text ++ framed_component (codes "#") o []) is

-- a fragment is shorter than the text that ends in it
pub fragment_fits : (text f : List ℕ) → fragment text ≡ Some f → length f + 1 ≤ length text
fragment_fits text f is =
    let front = before_fragment text in
    let whole : text ≡ front ++ (35 ∷ f) = sym (text_of-components text) ∙ ap (λ o. front ++ framed_component (codes "#") o []) is ∙ ap (λ t. front ++ (35 ∷ t)) (append-nil f) in
    omega (arith, simp length-append at (ap length whole))

-- the text up to the fragment
pub with_fragment-dropped : (text : List ℕ) → take (length (with_fragment text None)) text ≡ with_fragment text None
with_fragment-dropped text =
    let front = before_fragment text in
    let rest = framed_component (codes "#") (fragment text) [] in
    ap (λ t. take (length t) text) (append-nil front) ∙ ap (λ t. take (length front) t) (sym (text_of-components text)) ∙ take_at front rest (length front) refl ∙ sym (append-nil front)

-- the text up to the fragment, and another fragment
pub with_fragment-put : (text f : List ℕ) → take (length (with_fragment text None)) text ++ (35 ∷ []) ++ f ≡ with_fragment text (Some f)
with_fragment-put text f =
    let front = before_fragment text in
    ap (λ t. t ++ (35 ∷ []) ++ f) (with_fragment-dropped text ∙ append-nil front) ∙ append_assoc front (35 ∷ []) f ∙ ap (λ t. front ++ (35 ∷ t)) (sym (append-nil f))

pub scheme-with_fragment : (text : List ℕ) (f : Option (List ℕ)) → is_uri_reference text ≡ true → if_there is_query f ≡ true → scheme (with_fragment text f) ≡ scheme text
scheme-with_fragment text f h k = ap (λ (c : Components). c.scheme) (components-with_fragment text f h k)

-- a URI with another fragment is a URI, and its lengths stay
pub parsed_uri-with_fragment : (text : List ℕ) (l : Lengths) (f : Option (List ℕ)) → IsParsedUri text l → if_there is_query f ≡ true → IsParsedUri (with_fragment text f) l
parsed_uri-with_fragment text l f parsed k =
    (parsed-with_fragment text l f parsed.0 k, ap is_some (scheme-with_fragment text f parsed.0.reference k) ∙ parsed.1)

-- a base's fragment takes no part in a target
pub resolved_of_stripped : (b : Components) (base reference : List ℕ) → b ≡ components base → are_components b ≡ true → target_text base reference ≡ target_text (with_fragment base None) reference
unfolding target_text is_uri_reference
resolved_of_stripped b base reference is h =
    ap (λ (d : Components). text_of (resolved_components d (components reference))) (sym (components-with_fragment base None (ap are_components (sym is) ∙ h) refl))
