-- The texts of examples of YAML 1.2.2, and events.
use Rattle.std.specs.Prelude.{ℕ, List, [], ◌∷◌, codes, true, false}
use Rattle.ref_yaml.specs.declared.event.Event.{Event}
use Rattle.ref_yaml.specs.declared.event.Kind.{Kind}
use Rattle.ref_yaml.specs.declared.event.Kind.TheVariants.{BeginArray, EndArray, BeginObject, EndObject, Plain, SingleQuoted}
use Rattle.ref_yaml.specs.declared.event.Tag.{Tag}
use Rattle.ref_yaml.specs.declared.event.Tag.TheVariants.{None}

-- 7.12
abbrev pub plain_lines : List ℕ
plain_lines = codes "1st non-empty\n\n 2nd non-empty \n\t3rd non-empty"

abbrev pub plain_lines_text : List ℕ
plain_lines_text = codes "1st non-empty\n2nd non-empty 3rd non-empty"

-- 7.9
abbrev pub single_lines : List ℕ
single_lines = codes " 1st non-empty\n\n 2nd non-empty \n\t3rd non-empty "

abbrev pub single_lines_text : List ℕ
single_lines_text = codes " 1st non-empty\n2nd non-empty 3rd non-empty "

-- 7.7
abbrev pub single_quotes : List ℕ
single_quotes = codes "here''s to \"quotes\""

abbrev pub single_quotes_text : List ℕ
single_quotes_text = codes "here's to \"quotes\""

-- 7.5
abbrev pub double_lines : List ℕ
double_lines = codes "folded \nto a space,\t\n \nto a line feed, or \t\\\n \\ \tnon-content"

abbrev pub double_lines_text : List ℕ
double_lines_text = codes "folded to a space,\nto a line feed, or \t \tnon-content"

-- 5.13
abbrev pub escapes : List ℕ
escapes = codes "\\n \\r \\t \\  \\x41 \\u0041 \\U00000041"

abbrev pub escapes_text : List ℕ
escapes_text = codes "\n \r \t   A A A"

-- 8.5
abbrev pub one_line : List ℕ
one_line = codes "  # text\n\n"

abbrev pub stripped : List ℕ
stripped = codes "# text"

abbrev pub clipped : List ℕ
clipped = codes "# text\n"

abbrev pub kept : List ℕ
kept = codes "# text\n\n"

-- 8.7
abbrev pub literal : List ℕ
literal = codes " literal\n \ttext\n\n\n"

abbrev pub literal_text : List ℕ
literal_text = codes "literal\n\ttext\n"

-- 8.1, each from its indicator on
abbrev pub no_indicator : List ℕ
no_indicator = codes "| # Empty header\n literal\n"

abbrev pub no_indicator_text : List ℕ
no_indicator_text = codes "literal\n"

abbrev pub with_digit : List ℕ
with_digit = codes ">1 # Indentation indicator\n  folded\n"

abbrev pub with_digit_text : List ℕ
with_digit_text = codes " folded\n"

abbrev pub with_plus_sign : List ℕ
with_plus_sign = codes "|+ # Chomping indicator\n keep\n\n"

abbrev pub with_plus_sign_text : List ℕ
with_plus_sign_text = codes "keep\n\n"

abbrev pub with_both : List ℕ
with_both = codes ">1- # Both indicators\n  strip\n"

abbrev pub with_both_text : List ℕ
with_both_text = codes " strip"

-- 8.10
abbrev pub folded_lines : List ℕ
folded_lines = codes "\n folded\n line\n\n next\n line\n   * bullet\n\n   * list\n   * lines\n\n last\n line\n\n"

abbrev pub folded_lines_text : List ℕ
folded_lines_text = codes "\nfolded line\nnext line\n  * bullet\n\n  * list\n  * lines\n\nlast line\n"

-- 10.9, and others by 10.3.2
abbrev pub octal : List ℕ
octal = codes "0o17"

abbrev pub hexadecimal : List ℕ
hexadecimal = codes "0x3A"

abbrev pub negative : List ℕ
negative = codes "-19"

abbrev pub with_plus : List ℕ
with_plus = codes "+12"

abbrev pub with_zeros : List ℕ
with_zeros = codes "012"

abbrev pub point_last : List ℕ
point_last = codes "5."

abbrev pub point_last_json : List ℕ
point_last_json = codes "5.0"

abbrev pub point_first : List ℕ
point_first = codes "-.5"

abbrev pub point_first_json : List ℕ
point_first_json = codes "-0.5"

abbrev pub with_exponent : List ℕ
with_exponent = codes "+12e03"

abbrev pub with_exponent_json : List ℕ
with_exponent_json = codes "12e03"

abbrev pub infinite : List ℕ
infinite = codes "-.Inf"

abbrev pub no_number : List ℕ
no_number = codes ".NAN"

abbrev pub no_octal : List ℕ
no_octal = codes "0o18"

abbrev pub no_decimal : List ℕ
no_decimal = codes "1_000"

abbrev pub date : List ℕ
date = codes "2020-01-01"

abbrev pub off : List ℕ
off = codes "off"

-- escapes that there aren't (5.7), in double quotes: a letter, half of a pair of surrogates, and too few digits
abbrev pub no_escape : List ℕ
no_escape = codes "\\q"

abbrev pub half : List ℕ
half = codes "\\ud83d"

abbrev pub few_digits : List ℕ
few_digits = codes "\\x4"

-- and a backslash that is the last character
abbrev pub last_backslash : List ℕ
last_backslash = codes "a\\"

-- line breaks of all kinds (5.4), and as line feeds
abbrev pub returns : List ℕ
returns = 97 ∷ 13 ∷ 10 ∷ 98 ∷ 13 ∷ 13 ∷ 99 ∷ 10 ∷ []

abbrev pub returns_feeds : List ℕ
returns_feeds = 97 ∷ 10 ∷ 98 ∷ 10 ∷ 10 ∷ 99 ∷ 10 ∷ []

-- an event without an anchor and a tag: a key or a value from one offset to another
abbrev pub key : Kind → ℕ → ℕ → Event
key kind start end = record { kind = kind; is_key = true; tag = None; start = start; end = end; link = 0; anchor = 0 }

abbrev pub event : Kind → ℕ → ℕ → Event
event kind start end = record { kind = kind; is_key = false; tag = None; start = start; end = end; link = 0; anchor = 0 }

-- with a tag
abbrev pub tagged : Tag → Kind → ℕ → ℕ → Event
tagged tag kind start end = record { kind = kind; is_key = false; tag = tag; start = start; end = end; link = 0; anchor = 0 }

-- texts, each with its events
abbrev pub quoted : List ℕ
quoted = codes "'it''s'"

abbrev pub quoted_event : Event
quoted_event = event SingleQuoted 0 7

abbrev pub listed : List ℕ
listed = codes "['a', 'b']"

abbrev pub listed_events : List Event
listed_events = event BeginArray 0 0 ∷ event SingleQuoted 1 4 ∷ event SingleQuoted 6 9 ∷ event EndArray 9 10 ∷ []

abbrev pub named : List ℕ
named = codes "{a: 'b'}"

abbrev pub named_events : List Event
named_events = event BeginObject 0 0 ∷ key Plain 1 2 ∷ event SingleQuoted 4 7 ∷ event EndObject 7 8 ∷ []

abbrev pub twice : List ℕ
twice = codes "{a: 'b', a: 'c'}"

abbrev pub twice_events : List Event
twice_events = event BeginObject 0 0 ∷ key Plain 1 2 ∷ event SingleQuoted 4 7 ∷ key Plain 9 10 ∷ event SingleQuoted 12 15 ∷ event EndObject 15 16 ∷ []

-- events that overlap, and an empty one within another
abbrev pub overlapping : List Event
overlapping = event Plain 0 2 ∷ event Plain 1 3 ∷ []

abbrev pub within_another : List Event
within_another = event Plain 0 2 ∷ event Plain 1 1 ∷ []
