-- What escaped text keeps as it grows.
use Rattle.std.proofs.Common.{◌≡◌, ℕ, ◌<◌, Bool, true, false, cond, not, List, [], ◌∷◌, ◌++◌, All, IsUtf8, OnOk, OnErr, Result, Ok, Err, sym, refl, ap, ◌∙◌, subst}
use Rattle.std.proofs.lemmas.Bool.{agree_below_at}
use Rattle.std.proofs.lemmas.List.Concat.{flat_map-append}
use Rattle.std.proofs.lemmas.List.Elements.{All-nil, All-head, All-tail, All-append}
use Rattle.std.proofs.lemmas.Str.{IsUtf8-nil, IsUtf8-append}
use Rattle.percent_encoding.specs.AsciiSet.{should_percent_encode}
use Rattle.percent_encoding.specs.Percent.{percent_encode, percent_encode_byte, percent_decode}
use Rattle.percent_encoding.proofs.PercentLemmas.{round_trip}
use Rattle.ref_parts.specs.declared.encoded.TheConstants.{ESCAPED}
use Rattle.ref_parts.specs.Encoded.{is_fragment_byte, encoded_byte, encoded_text, IsEncoded}

abbrev pub IsByte : ℕ → Type 0
IsByte b = b < 256

-- the set has just the bytes that a fragment doesn't hold
escapes : (b : ℕ) → b < 256 → should_percent_encode ESCAPED b ≡ not (is_fragment_byte b)
unfolding should_percent_encode
escapes b small = agree_below_at (should_percent_encode ESCAPED) (λ x. not (is_fragment_byte x)) 256 b refl small

turned : {X : Type 0} (b : Bool) (x y : X) → cond (not b) x y ≡ cond b y x
turned true x y = refl
turned false x y = refl

-- the set escapes as the definition says
pub encoded_is : (bs : List ℕ) → All IsByte bs → percent_encode ESCAPED bs ≡ encoded_text bs
unfolding percent_encode
encoded_is [] small = refl
encoded_is (b ∷ bs) small =
    ap (λ x. cond x (percent_encode_byte b) (b ∷ []) ++ percent_encode ESCAPED bs) (escapes b (All-head IsByte b bs small))
    ∙ ap (λ x. x ++ percent_encode ESCAPED bs) (turned (is_fragment_byte b) (percent_encode_byte b) (b ∷ []))
    ∙ ap (λ x. encoded_byte b ++ x) (encoded_is bs (All-tail IsByte b bs small))

-- escaped text is read back
pub decoded_is : (bs : List ℕ) → All IsByte bs → percent_decode (encoded_text bs) ≡ bs
decoded_is bs small = ap percent_decode (sym (encoded_is bs small)) ∙ round_trip ESCAPED bs refl small

pub IsEncoded-encoded : (bs : List ℕ) → All IsByte bs → IsUtf8 bs → IsEncoded (encoded_text bs)
IsEncoded-encoded bs small utf8 =
    let back = sym (decoded_is bs small) in
    record { same = ap encoded_text (sym back); utf8 = subst IsUtf8 back utf8; bytes = subst (All IsByte) back small }

pub IsEncoded-nil : IsEncoded []
IsEncoded-nil = IsEncoded-encoded [] (All-nil IsByte) IsUtf8-nil

-- one more text after it
grown : (text new more : List ℕ) → IsEncoded text → All IsByte more → IsUtf8 more → new ≡ text ++ percent_encode ESCAPED more → new ≡ encoded_text (percent_decode text ++ more)
grown text new more is small utf8 e =
    e ∙ ap (λ x. x ++ percent_encode ESCAPED more) (sym is.same) ∙ ap (λ x. encoded_text (percent_decode text) ++ x) (encoded_is more small)
    ∙ sym (flat_map-append encoded_byte (percent_decode text) more)

pub IsEncoded-grown : (text new more : List ℕ) → IsEncoded text → All IsByte more → IsUtf8 more → new ≡ text ++ percent_encode ESCAPED more → IsEncoded new
IsEncoded-grown text new more is small utf8 e =
    let bytes = All-append IsByte (percent_decode text) more is.bytes small in
    subst IsEncoded (sym (grown text new more is small utf8 e)) (IsEncoded-encoded _ bytes (IsUtf8-append _ _ is.utf8 utf8))

pub decoded-grown : (text new more : List ℕ) → IsEncoded text → All IsByte more → IsUtf8 more → new ≡ text ++ percent_encode ESCAPED more → percent_decode new ≡ percent_decode text ++ more
decoded-grown text new more is small utf8 e =
    ap percent_decode (grown text new more is small utf8 e) ∙ decoded_is _ (All-append IsByte (percent_decode text) more is.bytes small)

-- the same of a call that may have been refused
pub IsEncoded-after : {T E : Type 0} (r : Result T E) (text new more : List ℕ) → IsEncoded text → All IsByte more → IsUtf8 more → OnOk r (new ≡ text ++ percent_encode ESCAPED more) → OnErr r (new ≡ text) → IsEncoded new
IsEncoded-after (Ok x) text new more is small utf8 ok err = IsEncoded-grown text new more is small utf8 ok
IsEncoded-after (Err x) text new more is small utf8 ok err = subst IsEncoded (sym err) is

pub decoded-after : {T E : Type 0} (r : Result T E) (text new more : List ℕ) → IsEncoded text → All IsByte more → IsUtf8 more → OnOk r (new ≡ text ++ percent_encode ESCAPED more) → OnOk r (percent_decode new ≡ percent_decode text ++ more)
decoded-after (Ok x) text new more is small utf8 ok = decoded-grown text new more is small utf8 ok
decoded-after (Err x) text new more is small utf8 ok = tt
