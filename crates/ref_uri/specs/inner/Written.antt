-- The text that stands for a component: the component itself, or its normal form.
use Rattle.std.specs.Prelude.{ℕ, List, [], codes, Option, ◌≡◌, ◌≤◌, ◌<◌, ◌++◌, true, take, drop, length, map, Bool, ◌||◌, not, ◌==◌}
use Rattle.std.specs.List.{list_all}
use Rattle.std.specs.Char.{is_ascii_uppercase, to_ascii_lowercase}
use Rattle.ref_uri.specs.Characters.{has_whole_triples}
use Rattle.ref_uri.specs.Components.{framed_component}
use Rattle.ref_uri.specs.Normal.{normal_text, normal_authority}
use Rattle.ref_uri.specs.inner.Scans.{begins_with_triple}
use Rattle.ref_uri.specs.declared.written.Case.{Case}
use Rattle.ref_uri.specs.declared.written.Case.TheVariants.{AsItIs, Lower}
use Rattle.ref_uri.specs.declared.written.Form.{Form}
use Rattle.ref_uri.specs.declared.written.Form.TheVariants.{Given, Normal, NormalTarget}
use Rattle.ref_uri.specs.Bytes.{percent, colon, at_sign, opening_bracket}

-- what a character becomes
abbrev pub in_case : Case → ℕ → ℕ
in_case AsItIs = λ c. c
in_case Lower = to_ascii_lowercase

-- a path, a query or a fragment
abbrev pub written_text : Form → List ℕ → List ℕ
written_text Given = λ text. text
written_text Normal = normal_text
written_text NormalTarget = normal_text

-- a scheme
abbrev pub written_scheme : Form → List ℕ → List ℕ
written_scheme Given = λ scheme. scheme
written_scheme Normal = map to_ascii_lowercase
written_scheme NormalTarget = map to_ascii_lowercase

-- an authority
abbrev pub written_authority : Form → List ℕ → List ℕ
written_authority Given = λ authority. authority
written_authority Normal = normal_authority
written_authority NormalTarget = normal_authority

-- no letter in upper case, `%`, `:`, `@` or `[`
abbrev pub is_plain_in_host : ℕ → Bool
is_plain_in_host c =
    not (is_ascii_uppercase c || (c == percent) || (c == colon) || (c == at_sign)
    || (c == opening_bracket))

-- what is before the path
abbrev pub the_front : Option (List ℕ) → Option (List ℕ) → List ℕ
the_front scheme authority =
    framed_component [] scheme (codes ":") ++ framed_component (codes "//") authority []

-- what is after it
abbrev pub the_rest : Option (List ℕ) → Option (List ℕ) → List ℕ
the_rest query fragment =
    framed_component (codes "?") query [] ++ framed_component (codes "#") fragment []

-- no `%` is in the text
abbrev pub is_plain : List ℕ → Bool
is_plain text = list_all (λ c. not (c == percent)) text

-- The text is in normal form up to this place, where it ends or where a triple begins.
pub record IsNormalUpTo (text : List ℕ) (at : ℕ) : Type 0 where
  pub within : at ≤ length text
  pub front : normal_text text ≡ take at text ++ normal_text (drop at text)
  pub behind : has_whole_triples (drop at text) ≡ true
  pub triple : at < length text → begins_with_triple (drop at text) ≡ true
