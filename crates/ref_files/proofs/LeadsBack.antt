-- A path as a URI has it has no query and no fragment, and its segments are decoded to what the path has between its slashes.
use Rattle.std.proofs.Common.{◌≡◌, ◌≢◌, ℕ, ◌<◌, Bool, true, false, ◌||◌, if◌then◌else◌, List, [], ◌∷◌, ◌++◌, map, All, Some, None, nat_eq, ne_eqb, refl, ap, sym, subst, ◌∙◌, arith, rules}
use Rattle.std.specs.List.{slice_split, onto_first}
use Rattle.std.proofs.lemmas.List.Elements.{All-nil, All-cons, All-head, All-tail, All-append, All-weaker}
use Rattle.std.proofs.lemmas.List.Folds.{list_any_none}
use Rattle.std.proofs.lemmas.List.Splits.{slice_split-cons_yes, slice_split-cons_no}
use lib.Dec.{eqb}
use Rattle.percent_encoding.specs.Percent.{percent_decode, percent_encode_byte}
use Rattle.percent_encoding.proofs.PercentLemmas.{IsEscapeByte, All-percent_encode_byte, percent_decode-nil, percent_decode_not_percent, percent_decode-percent_encode_byte}
use Rattle.ref_files.specs.Uris.{is_kept, path_text}
use Rattle.ref_files.specs.Meant.{ends_path, path_after, uri_after, decoded_segments}
use Rattle.ref_files.proofs.After.{has_path}

abbrev encoded : ℕ → Bool → List ℕ
encoded b kept = if kept then b ∷ [] else percent_encode_byte b

-- a byte that is kept is none of those that aren't
not_kept : (b c : ℕ) → is_kept b ≡ true → is_kept c ≡ false → b ≢ c
not_kept b c kept other same = let no : true ≡ false = sym kept ∙ ap is_kept same ∙ other in cc

-- ---- no query and no fragment

no_end : (b : ℕ) → b ≢ 63 → b ≢ 35 → ends_path b ≡ false
no_end b query fragment = ap (λ x. x || nat_eq b 35) (ne_eqb b 63 query) ∙ ne_eqb b 35 fragment

escape_is : (b c : ℕ) → IsEscapeByte b → b ≡ c → IsEscapeByte c
escape_is b c h e = subst IsEscapeByte e h

no_end_escape : (b : ℕ) → IsEscapeByte b → ends_path b ≡ false
no_end_escape b h = no_end b (λ e. grind (arith, h, e)) (λ e. grind (arith, h, e))

no_end_encoded : (b : ℕ) (kept : Bool) → is_kept b ≡ kept → All (λ c. ends_path c ≡ false) (encoded b kept)
no_end_encoded b true is = All-cons (λ c. ends_path c ≡ false) b [] (no_end b (not_kept b 63 is refl) (not_kept b 35 is refl)) (All-nil (λ c. ends_path c ≡ false))
no_end_encoded b false is = All-weaker IsEscapeByte (λ c. ends_path c ≡ false) no_end_escape (percent_encode_byte b) (All-percent_encode_byte b)

no_end_path : (path : List ℕ) → All (λ c. ends_path c ≡ false) (path_text path)
no_end_path [] = All-nil (λ c. ends_path c ≡ false)
no_end_path (b ∷ path) = All-append (λ c. ends_path c ≡ false) (encoded b (is_kept b)) (path_text path) (no_end_encoded b (is_kept b) refl) (no_end_path path)

pub uri_leads_back : (base path : List ℕ) → path_after base (uri_after base path) ≡ Some (path_text path)
uri_leads_back base path =
    has_path base (uri_after base path) (47 ∷ path_text path) (path_text path) refl refl
    ∙ ap (λ (b : Bool). if b then None else Some (path_text path)) (list_any_none ends_path (path_text path) (no_end_path path))

-- ---- segments

abbrev cut : List ℕ → List (List ℕ)
cut text = slice_split (λ b. eqb b 47) text

-- a text has a first segment
record First (text : List ℕ) : Type 0 where
  first : List ℕ
  more : List (List ℕ)
  is : cut text ≡ first ∷ more

first_after : (b : ℕ) (text : List ℕ) (slash : Bool) → eqb b 47 ≡ slash → First text → First (b ∷ text)
first_after b text true e f = record { first = []; more = cut text; is = slice_split-cons_yes (λ b. eqb b 47) b text e }
first_after b text false e f = record { first = b ∷ f.first; more = f.more; is = slice_split-cons_no (λ b. eqb b 47) b text e ∙ ap (onto_first b) f.is }

first_of : (text : List ℕ) → First text
first_of [] = record { first = []; more = []; is = refl }
first_of (b ∷ text) = first_after b text (eqb b 47) refl (first_of text)

-- bytes without a slash are before the first segment of what follows
before_first_segment : (front text first : List ℕ) (more : List (List ℕ)) → All (λ b. eqb b 47 ≡ false) front → cut text ≡ first ∷ more → cut (front ++ text) ≡ (front ++ first) ∷ more
before_first_segment [] text first more plain is = is
before_first_segment (b ∷ front) text first more plain is =
    slice_split-cons_no (λ b. eqb b 47) b (front ++ text) (All-head (λ b. eqb b 47 ≡ false) b front plain)
    ∙ ap (onto_first b) (before_first_segment front text first more (All-tail (λ b. eqb b 47 ≡ false) b front plain) is)

no_slash_escape : (b : ℕ) → IsEscapeByte b → eqb b 47 ≡ false
no_slash_escape b h = ne_eqb b 47 (λ e. grind (arith, h, e))

no_slash_encoded : (b : ℕ) (kept : Bool) → is_kept b ≡ kept → eqb b 47 ≡ false → All (λ c. eqb c 47 ≡ false) (encoded b kept)
no_slash_encoded b true is other = All-cons (λ c. eqb c 47 ≡ false) b [] other (All-nil (λ c. eqb c 47 ≡ false))
no_slash_encoded b false is other = All-weaker IsEscapeByte (λ c. eqb c 47 ≡ false) no_slash_escape (percent_encode_byte b) (All-percent_encode_byte b)

decoded : (b : ℕ) (rest : List ℕ) (kept : Bool) → is_kept b ≡ kept → b < 256 → percent_decode (encoded b kept ++ rest) ≡ b ∷ percent_decode rest
decoded b rest true is small = percent_decode_not_percent b rest (not_kept b 37 is refl)
decoded b rest false is small = percent_decode-percent_encode_byte b rest small

-- a byte before a path whose segments lead back
one_more : (b : ℕ) (path : List ℕ) (slash : Bool) → eqb b 47 ≡ slash → b < 256 → decoded_segments (path_text path) ≡ cut path → decoded_segments (path_text (b ∷ path)) ≡ cut (b ∷ path)
one_more b path true e small back =
    let same : b ≡ 47 = search (rules, e) in
    ap (λ c. decoded_segments (path_text (c ∷ path))) same
    ∙ ap (map percent_decode) (slice_split-cons_yes (λ b. eqb b 47) 47 (path_text path) refl)
    ∙ ap (λ text. text ∷ decoded_segments (path_text path)) percent_decode-nil
    ∙ ap (λ more. [] ∷ more) back
    ∙ sym (slice_split-cons_yes (λ b. eqb b 47) b path e)
one_more b path false e small back =
    let f = first_of (path_text path) in
    ap (map percent_decode) (before_first_segment (encoded b (is_kept b)) (path_text path) f.first f.more (no_slash_encoded b (is_kept b) refl e) f.is)
    ∙ ap (λ text. text ∷ map percent_decode f.more) (decoded b f.first (is_kept b) refl small)
    ∙ ap (λ parts. onto_first b (map percent_decode parts)) (sym f.is)
    ∙ ap (onto_first b) back
    ∙ sym (slice_split-cons_no (λ b. eqb b 47) b path e)

pub segments_lead_back : (path : List ℕ) → All (λ b. b < 256) path → decoded_segments (path_text path) ≡ cut path
segments_lead_back [] small = ap (λ text. text ∷ []) percent_decode-nil
segments_lead_back (b ∷ path) small =
    one_more b path (eqb b 47) refl (All-head (λ b. b < 256) b path small) (segments_lead_back path (All-tail (λ b. b < 256) b path small))
