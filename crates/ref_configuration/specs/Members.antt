-- The kinds of members that a configuration has: what a value of TOML says as one, or what is wrong with it.
use Rattle.std.specs.Prelude.{ℕ, ◌+◌, ℤ, pos, negsuc, List, [], ◌∷◌, ◌++◌, Bool, codes, Option, Some, None, option_and_then, Result, Ok, Err, ok_or, if◌then◌else◌}
use Rattle.toml.specs.Data.{Data, Items, no_items, item, Members, no_members, member, get_member, as_str, as_bool, as_integer, as_array, as_table}
use Rattle.ref_configuration.specs.Results.{◌>>=◌}
use Rattle.ref_configuration.specs.Names.{is_among, listed, rule_level_names, override_names}

-- where a table is: the keys that lead to it, and which item of a list of tables on the way is meant, from 0
pub record Where : Type 0 where
  pub above : List (List ℕ)
  pub item : ℕ

-- what is wrong: with the member of this name in a table, and what is said of it
pub record Fault : Type 0 where
  pub place : Where
  pub name : List ℕ
  pub text : List ℕ

-- the levels of rules for some files
pub record FileRules : Type 0 where
  pub files : List (List ℕ)
  pub rules : List (List ℕ × List ℕ)

abbrev pub at_keys : List (List ℕ) → ℕ → Where
at_keys above n = record { above = above; item = n }

abbrev pub fault_at : Where → List ℕ → List ℕ → Fault
fault_at place name text = record { place = place; name = name; text = text }

-- the whole; the tables [map] and [rules]; an item of [[override]], and its rules
abbrev pub whole : Where
whole = at_keys [] 0

abbrev pub in_map : Where
in_map = at_keys (codes "map" ∷ []) 0

abbrev pub in_rules : Where
in_rules = at_keys (codes "rules" ∷ []) 0

abbrev pub in_override : ℕ → Where
in_override n = at_keys (codes "override" ∷ []) n

abbrev pub in_override_rules : ℕ → Where
in_override_rules n = at_keys (codes "override" ∷ codes "rules" ∷ []) n

-- ---- members that are there, and those that aren't

-- what a member says, which says this where it is missing
abbrev pub or_missing : {A : Type 0} → A → (Data → Result A Fault) → Option Data → Result A Fault
or_missing missing says None = Ok missing
or_missing missing says (Some d) = says d

-- what a member says, where it is there
abbrev pub if_there : {A : Type 0} → (Data → Result A Fault) → Option Data → Result (Option A) Fault
if_there says None = Ok None
if_there says (Some d) = says d >>= λ x. Ok (Some x)

-- the first name, in the order of bytes, that is none of these
abbrev pub unknown_in : List (List ℕ) → Members → Option (List ℕ)
unknown_in names no_members = None
unknown_in names (member k d ms) = if is_among names k then unknown_in names ms else Some k

abbrev pub no_name_text : List (List ℕ) → List ℕ → List ℕ
no_name_text names name =
    codes "there is no '" ++ name ++ codes "' here; it may be " ++ listed names

abbrev pub no_name : List (List ℕ) → Where → List ℕ → Fault
no_name names place name = fault_at place name (no_name_text names name)

abbrev pub unless_unknown : List (List ℕ) → Where → Members → Option (List ℕ)
    → Result Members Fault
unless_unknown names place t None = Ok t
unless_unknown names place t (Some name) = Err (no_name names place name)

-- a table, which has no other names than these
abbrev pub with_names : List (List ℕ) → Where → Members → Result Members Fault
with_names names place t = unless_unknown names place t (unknown_in names t)

-- ---- lists of texts

abbrev pub texts_of : Where → List ℕ → Items → Result (List (List ℕ)) Fault
texts_of place name no_items = Ok []
texts_of place name (item d ds) = do
  text ← ok_or (as_str d) (fault_at place name (codes "each item of this list is to be a text"))
  more ← texts_of place name ds
  Ok (text ∷ more)

abbrev pub texts_in : Where → List ℕ → Data → Result (List (List ℕ)) Fault
texts_in place name d =
    ok_or (as_array d) (fault_at place name (codes "a list of texts is to be here"))
    >>= texts_of place name

-- ---- flags, numbers and texts

abbrev pub flag_in : List ℕ → Data → Result Bool Fault
flag_in name d = ok_or (as_bool d) (fault_at whole name (codes "true or false is to be here"))

-- a number that isn't below zero
abbrev pub from_zero : ℤ → Option ℕ
from_zero (pos n) = Some n
from_zero (negsuc n) = None

abbrev pub number_in : List ℕ → Data → Result ℕ Fault
number_in name d =
    ok_or (option_and_then from_zero (as_integer d))
    (fault_at whole name (codes "a whole number from 0 on is to be here"))

abbrev pub text_in : List ℕ → Data → Result (List ℕ) Fault
text_in name d = ok_or (as_str d) (fault_at whole name (codes "a text is to be here"))

abbrev pub not_among_text : List (List ℕ) → List ℕ → List ℕ
not_among_text names s = codes "'" ++ s ++ codes "' is not " ++ listed names

abbrev pub not_among : List (List ℕ) → List ℕ → List ℕ → Fault
not_among names name s = fault_at whole name (not_among_text names s)

abbrev pub if_among : List (List ℕ) → List ℕ → List ℕ → Result (List ℕ) Fault
if_among names name s = if is_among names s then Ok s else Err (not_among names name s)

-- a text that is one of some names
abbrev pub name_in : List (List ℕ) → List ℕ → Data → Result (List ℕ) Fault
name_in names name d = text_in name d >>= if_among names name

-- ---- prefixes of URIs and their folders

abbrev pub maps_of : Members → Result (List (List ℕ × List ℕ)) Fault
maps_of no_members = Ok []
maps_of (member prefix d ms) = do
  folder ← ok_or (as_str d)
      (fault_at in_map prefix (codes "a text, the path of a folder, is to be here"))
  more ← maps_of ms
  Ok ((prefix, folder) ∷ more)

abbrev pub maps_in : Data → Result (List (List ℕ × List ℕ)) Fault
maps_in d =
    ok_or (as_table d)
    (fault_at whole (codes "map") (codes "a table of prefixes of URIs and folders is to be here"))
    >>= maps_of

-- ---- rules and their levels

-- the level that a text names, and the one that a value does
abbrev pub level_named : List ℕ → Option (List ℕ)
level_named s = if is_among rule_level_names s then Some s else None

abbrev pub level_in : Data → Option (List ℕ)
level_in d = option_and_then level_named (as_str d)

abbrev pub no_level : List ℕ → List ℕ
no_level rule = codes "the level of '" ++ rule ++ codes "' is to be " ++ listed rule_level_names

-- those in a table that is at this place
abbrev pub rules_of : Where → Members → Result (List (List ℕ × List ℕ)) Fault
rules_of place no_members = Ok []
rules_of place (member rule d ms) = do
  level ← ok_or (level_in d) (fault_at place rule (no_level rule))
  more ← rules_of place ms
  Ok ((rule, level) ∷ more)

-- those that the member `rules` is of a table, which are at the second place
abbrev pub rules_in : Where → Where → Data → Result (List (List ℕ × List ℕ)) Fault
rules_in table place d =
    ok_or (as_table d)
    (fault_at table (codes "rules") (codes "a table of rules and levels is to be here"))
    >>= rules_of place

-- ---- overrides

abbrev pub wrong_override : ℕ → List ℕ → Fault
wrong_override n text = fault_at (at_keys [] n) (codes "override") text

-- its files, which it is to have
abbrev pub files_of : Where → ℕ → Option Data → Result (List (List ℕ)) Fault
files_of place n None =
    Err (wrong_override n (codes "an override is to have files, a list of paths and patterns"))
files_of place n (Some d) = texts_in place (codes "files") d

-- the override with a number: its names are told first, then that it has files
abbrev pub override_in : ℕ → Data → Result FileRules Fault
override_in n d = do
  table ← ok_or (as_table d) (wrong_override n (codes "each override is to be a table"))
  known ← with_names override_names (in_override n) table
  files ← files_of (in_override n) n (get_member (codes "files") known)
  rules ← or_missing [] (rules_in (in_override n) (in_override_rules n))
      (get_member (codes "rules") known)
  Ok (record { files = files; rules = rules })

-- those from a number on
abbrev pub overrides_of : ℕ → Items → Result (List FileRules) Fault
overrides_of n no_items = Ok []
overrides_of n (item d ds) = do
  first ← override_in n d
  more ← overrides_of (n + 1) ds
  Ok (first ∷ more)

abbrev pub overrides_in : Data → Result (List FileRules) Fault
overrides_in d =
    ok_or (as_array d)
    (wrong_override 0 (codes "a list of tables, each as [[override]], is to be here"))
    >>= overrides_of 0
