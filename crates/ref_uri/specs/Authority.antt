-- The parts of an authority, `[userinfo "@"] host [":" port]` (RFC 3986, 3.2).
use Rattle.std.specs.Prelude.{ℕ, ◌+◌, min, Bool, true, false, ◌||◌, ◌&&◌, List, [], ◌∷◌, length, take, drop, codes, Option, Some, None, ◌==◌, nat_lt, if◌then◌else◌, slice_index}
use Rattle.std.specs.List.{list_any, list_all, position_or_len, before_first, after_first}
use Rattle.std.specs.Option.{option_map_or}
use Rattle.std.specs.Char.{is_ascii_digit, is_ascii_hexdigit}
use Rattle.ref_uri.specs.Characters.{is_one_of, is_encoded, is_name_character, is_userinfo_character}
use Rattle.ref_uri.specs.Bytes.{dot, colon, at_sign, opening_bracket, closing_bracket}

-- what is before the first such character, where there is one
abbrev pub part_before : ℕ → List ℕ → Option (List ℕ)
part_before c text =
    if list_any (λ x. x == c) text then Some (before_first (λ x. x == c) text) else None

-- what follows the first such character, or all where there is none
abbrev pub part_after : ℕ → List ℕ → List ℕ
part_after c text = if list_any (λ x. x == c) text then after_first (λ x. x == c) text else text

-- what is before the `@` (3.2.1)
abbrev pub userinfo : List ℕ → Option (List ℕ)
userinfo authority = part_before at_sign authority

-- the host and the port
abbrev pub host_and_port : List ℕ → List ℕ
host_and_port authority = part_after at_sign authority

-- how long the host is: through `]` where it begins with `[`, else up to `:`
abbrev pub host_len : List ℕ → ℕ
host_len text =
    if slice_index text 0 == opening_bracket then
    min (position_or_len (λ c. c == closing_bracket) text + 1) (length text)
    else position_or_len (λ c. c == colon) text

-- a name or an address, in its brackets where it has any (3.2.2)
abbrev pub host : List ℕ → List ℕ
host authority = take (host_len (host_and_port authority)) (host_and_port authority)

-- nothing, or `:` and the port (3.2.3)
abbrev pub port_part : List ℕ → List ℕ
port_part authority = drop (host_len (host_and_port authority)) (host_and_port authority)

-- a hex digit, `:` or `.`
abbrev pub is_address_character : ℕ → Bool
is_address_character c = is_ascii_hexdigit c || is_one_of (codes ":.") c

-- a run of them that isn't empty: which of them are IPv6 addresses is not said (3.2.2)
abbrev pub is_address : List ℕ → Bool
is_address text = nat_lt 0 (length text) && list_all is_address_character text

-- hex digits, `.`, and unreserved, sub-delims or `:`, each at least once (IPvFuture after its `v`, 3.2.2)
abbrev pub is_version_and_address : List ℕ → Bool
is_version_and_address text =
    nat_lt 0 (length (before_first (λ c. c == dot) text))
    && nat_lt 0 (length (after_first (λ c. c == dot) text))
    && list_all is_ascii_hexdigit (before_first (λ c. c == dot) text)
    && list_all is_userinfo_character (after_first (λ c. c == dot) text)

-- an address of a later version begins with `v`
abbrev pub is_future_address : List ℕ → Bool
is_future_address [] = false
is_future_address (v ∷ rest) = ((v == 118) || (v == 86)) && is_version_and_address rest

-- an address of either kind
abbrev pub is_either_address : List ℕ → Bool
is_either_address text = is_address text || is_future_address text

-- The first `]` ends the text, and an address is before it.
abbrev pub is_address_and_bracket : List ℕ → Bool
is_address_and_bracket text =
    (position_or_len (λ c. c == closing_bracket) text + 1 == length text)
    && is_either_address (before_first (λ c. c == closing_bracket) text)

-- `[`, an address, `]` (IP-literal, 3.2.2)
abbrev pub is_bracketed : List ℕ → Bool
is_bracketed [] = false
is_bracketed (first ∷ rest) = (first == opening_bracket) && is_address_and_bracket rest

-- an address in brackets, or a name that may be empty
abbrev pub is_host : List ℕ → Bool
is_host text = is_bracketed text || is_encoded is_name_character text

-- nothing, or `:` and digits, of which there may be none
abbrev pub is_port_part : List ℕ → Bool
is_port_part [] = true
is_port_part (c ∷ digits) = (c == colon) && list_all is_ascii_digit digits

-- a host and a port
abbrev pub is_host_and_port : List ℕ → Bool
is_host_and_port text =
    is_host (take (host_len text) text) && is_port_part (drop (host_len text) text)

-- userinfo that holds what it may, where there is any, and a host and a port
abbrev pub is_authority : List ℕ → Bool
is_authority text =
    option_map_or (is_encoded is_userinfo_character) (userinfo text) true
    && is_host_and_port (host_and_port text)
