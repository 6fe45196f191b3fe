-- The bytes that divide a URI (RFC 3986, 2.2 to 3.5), by name.
use Rattle.std.specs.Prelude.{ℕ}

-- `#`, before a fragment
abbrev pub hash : ℕ
hash = 35

-- `%`, before the two hex digits of a triple
abbrev pub percent : ℕ
percent = 37

-- `.`
abbrev pub dot : ℕ
dot = 46

-- `/`, between segments
abbrev pub slash : ℕ
slash = 47

-- `:`, after a scheme and before a port
abbrev pub colon : ℕ
colon = 58

-- `?`, before a query
abbrev pub question_mark : ℕ
question_mark = 63

-- `@`, after userinfo
abbrev pub at_sign : ℕ
at_sign = 64

-- `[` and `]`, around an IP literal
abbrev pub opening_bracket : ℕ
opening_bracket = 91

abbrev pub closing_bracket : ℕ
closing_bracket = 93
