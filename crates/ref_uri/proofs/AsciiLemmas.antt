-- A URI reference holds ASCII alone.
use Rattle.std.proofs.Common.{◌≡◌, ℕ, Bool, true, ◌||◌, List, [], ◌∷◌, ◌++◌, length, get_or, eqb, refl, ap, ◌∙◌, subst, arith, inl, inr, Option, Some, None, codes}
use Rattle.std.specs.Char.{is_ascii, is_ascii_alphabetic}
use Rattle.std.specs.Str.{IsAscii}
use Rattle.std.specs.List.{list_all}
use Rattle.std.proofs.lemmas.Bool.{and_parts, and_from, or_cases, eqb-true, ltb-true}
use Rattle.std.proofs.lemmas.Bool.Decides.{nat_tests}
use Rattle.std.proofs.lemmas.List.Folds.{list_all-append}
use Rattle.std.proofs.lemmas.List.Sums.{AllPass-from_list_all}
use Rattle.std.proofs.lemmas.Str.Ascii.{IsAscii-from_reads}
use Rattle.ref_uri.specs.Characters.{is_encoded, is_scheme_character, is_path_character, is_query_character}
use Rattle.ref_uri.specs.Authority.{is_authority}
use Rattle.ref_uri.specs.Components.{Components, components, text_of, framed_component, is_scheme, is_query, if_there, are_components}
use Rattle.ref_uri.specs.Reference.{is_uri_reference}
use Rattle.ref_uri.proofs.AuthorityCharacters.{is_authority_character, authority_characters, list_all-wider}
use Rattle.ref_uri.proofs.StructureLemmas.{text_of-components}

-- each character is ASCII
abbrev pub all_ascii : List ℕ → Bool
all_ascii text = list_all is_ascii text

pub ascii-append : (a b : List ℕ) → all_ascii a ≡ true → all_ascii b ≡ true → all_ascii (a ++ b) ≡ true
ascii-append a b h k = list_all-append is_ascii a b ∙ and_from (all_ascii a) (all_ascii b) h k

pub encoded_ascii : (allowed : ℕ → Bool) → ((c : ℕ) → allowed c ≡ true → is_ascii c ≡ true) → (text : List ℕ) → is_encoded allowed text ≡ true → all_ascii text ≡ true
encoded_ascii allowed inside text h =
    list_all-wider (λ c. allowed c || eqb c 37) is_ascii (λ c k. elim (or_cases (allowed c) (eqb c 37) k) [ inl a ↦ inside c a | inr percent ↦ ap is_ascii (eqb-true c 37 percent) ]) text (and_parts _ _ h).0

pub authority_ascii : (text : List ℕ) → is_authority text ≡ true → all_ascii text ≡ true
authority_ascii text h = list_all-wider is_authority_character is_ascii (λ c k. grind (arith, nat_tests)) text (authority_characters text h)

pub scheme_ascii : (text : List ℕ) → is_scheme text ≡ true → all_ascii text ≡ true
scheme_ascii [] h = refl
scheme_ascii (c ∷ rest) h =
    let both = and_parts (is_ascii_alphabetic c) (list_all is_scheme_character rest) h in
    let letter : is_ascii_alphabetic c ≡ true = both.0 in
    let first : is_ascii c ≡ true = grind (arith, nat_tests) in
    and_from (is_ascii c) (all_ascii rest) first (list_all-wider is_scheme_character is_ascii (λ d k. grind (arith, nat_tests)) rest both.1)

-- a component that may be absent, in its marks
framed_ascii : (before : List ℕ) (component : Option (List ℕ)) (after : List ℕ) (test : List ℕ → Bool) → all_ascii before ≡ true → all_ascii after ≡ true → ((text : List ℕ) → test text ≡ true → all_ascii text ≡ true) → if_there test component ≡ true → all_ascii (framed_component before component after) ≡ true
framed_ascii before None after test b a ascii h = refl
framed_ascii before (Some text) after test b a ascii h = ascii-append (before ++ text) after (ascii-append before text b (ascii text h)) a

pub components_ascii : (c : Components) → are_components c ≡ true → all_ascii (text_of c) ≡ true
unfolding are_components
components_ascii c h =
    let six = and_parts _ _ h in
    let five = and_parts _ _ six.0 in
    let four = and_parts _ _ five.0 in
    let three = and_parts _ _ four.0 in
    let two = and_parts _ _ three.0 in
    let s = framed_component [] c.scheme (codes ":") in
    let a = framed_component (codes "//") c.authority [] in
    let q = framed_component (codes "?") c.query [] in
    let f = framed_component (codes "#") c.fragment [] in
    ascii-append (s ++ a ++ c.path ++ q) f (ascii-append (s ++ a ++ c.path) q (ascii-append (s ++ a) c.path (ascii-append s a
    (framed_ascii [] c.scheme (codes ":") is_scheme refl refl scheme_ascii two.0)
    (framed_ascii (codes "//") c.authority [] is_authority refl refl authority_ascii two.1))
    (encoded_ascii is_path_character (λ d k. grind (arith, nat_tests)) c.path three.1))
    (framed_ascii (codes "?") c.query [] is_query refl refl (encoded_ascii is_query_character (λ d k. grind (arith, nat_tests))) four.1))
    (framed_ascii (codes "#") c.fragment [] is_query refl refl (encoded_ascii is_query_character (λ d k. grind (arith, nat_tests))) five.1)

pub IsAscii-from_all_ascii : (text : List ℕ) → all_ascii text ≡ true → IsAscii text
IsAscii-from_all_ascii text h =
    IsAscii-from_reads text (length text) (omega arith) (λ k lt. ltb-true (get_or text k 0) 128 (AllPass-from_list_all is_ascii text h k 0 lt))

-- a URI reference holds ASCII alone
pub reference_ascii : (text : List ℕ) → is_uri_reference text ≡ true → IsAscii text
unfolding is_uri_reference
reference_ascii text h =
    IsAscii-from_all_ascii text (subst (λ (t : List ℕ). all_ascii t ≡ true) (text_of-components text) (components_ascii (components text) h))
