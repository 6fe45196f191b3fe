use Rattle.std.proofs.Common.{◌<◌, [], ◌∷◌, ◌++◌, length, get_or, refl, ap, arith}
use Rattle.std.proofs.lemmas.List.Elements.{All-cons}
use Rattle.std.proofs.lemmas.Str.{encode_ascii}
use Rattle.percent_encoding.proofs.OnLiterals.{percent_encoding_on_literals}
use Rattle.ref_parts.proofs.laws.fragment_rows.Goals as goal

pub returns : goal.returns
unfolding percent_encoding_on_literals
returns c = record {
  rows = record {
    hyphen = refl;
    unreserved_tilde = refl;
    slash_is_reserved = refl;
    equals = refl;
    colon_is_gen_delim = refl;
    colon = refl;
    question = refl;
    hash = refl;
    bracket = refl;
    slash_stays = refl;
    percent_byte = refl;
    two_digits = refl;
    fragment_percent = refl;
    fragment_caret = refl;
    fragment_bar = refl;
    fragment_backslash = refl;
    fragment_quote = refl;
    fragment_space = refl;
    fragment_tilde = refl;
    fragment_slash = refl;
    read_back = record { same = refl; utf8 = (37 ∷ [], (refl, ap (λ x. x ++ []) (encode_ascii 37 (omega arith)))); bytes = All-cons (λ b. b < 256) 37 [] (omega arith) (λ k d less. absurd (omega (arith, less))) };
    letter_encoded = λ e. omega (arith, ap length e.same);
    lower_case = λ e. omega (arith, ap (λ bs. get_or bs 2 0) e.same);
  };
}
