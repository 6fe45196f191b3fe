-- The dynamic scope of a call: URIs, the innermost first, at whose end may be one that is kept for the registry, by its number.
use Rattle.std.specs.Prelude.{ℕ, ◌-◌, List, [], ◌∷◌, ◌++◌, map, take, length, slice_get, codes, is_some, if◌then◌else◌, Option, None, Some, option_map, ok_or, Result, Ok}
use Rattle.serde_json.specs.Data.{Data, string, Items, no_items, item}
use Rattle.serde_json.specs.Find.{get, as_number}
use Rattle.ref_definitions.specs.Results.{◌>>=◌}
use Rattle.ref_calls.specs.declared.fault.Wrong.TheVariants.{UnknownScope}
use Rattle.ref_calls.specs.Objects.{list_of, texts, whole}
use Rattle.ref_calls.specs.Errors.{field_error, at_index}
use Rattle.ref_calls.specs.Calls.{number_in, items_in, uri_at, each_item}

-- ---- in calls

-- what a call gives: its URIs, and where they end with a kept scope, the number of that and its URIs
pub record GivenScope : Type 0 where
  pub uris : List (List ℕ)
  pub kept : Option (ℕ × List (List ℕ))

-- URIs alone
abbrev pub own_scope : List (List ℕ) → GivenScope
own_scope uris = record { uris = uris; kept = None }

-- the kept scope with a number
abbrev pub kept_at : List (List (List ℕ)) → ℕ → Result GivenScope Data
kept_at scopes number =
    ok_or
    (option_map (λ uris. record { uris = uris; kept = Some (number, uris) })
    (slice_get scopes number))
    (field_error UnknownScope (codes "scope"))

abbrev pub kept_scope : List (List (List ℕ)) → Data → Result GivenScope Data
kept_scope scopes d = number_in (codes "scope") d >>= kept_at scopes

-- items without a number at their end
abbrev pub front_items : Items → Items
front_items no_items = no_items
front_items (item d no_items) = if is_some (as_number d) then no_items else item d no_items
front_items (item d (item e ds)) = item d (front_items (item e ds))

-- that number
abbrev pub last_number : Items → Option Data
last_number no_items = None
last_number (item d no_items) = if is_some (as_number d) then Some d else None
last_number (item d (item e ds)) = last_number (item e ds)

-- the URI that an item means
abbrev pub scope_uri : ℕ → Data → Result (List ℕ) Data
scope_uri n d = at_index n (uri_at (codes "scope") d)

-- what is behind the first n items
abbrev pub scope_end : List (List (List ℕ)) → ℕ → Option Data → Result GivenScope Data
scope_end scopes n None = Ok (own_scope [])
scope_end scopes n (Some d) = at_index n (kept_scope scopes d)

-- a scope with URIs in front of it
abbrev pub with_front : List (List ℕ) → GivenScope → GivenScope
with_front uris end = record end { uris = uris ++ end.uris }

abbrev pub scope_items : List (List (List ℕ)) → Items → Result GivenScope Data
scope_items scopes items = do
  uris ← each_item scope_uri 0 (front_items items)
  end ← scope_end scopes (length uris) (last_number items)
  Ok (with_front uris end)

-- a list of URIs, at whose end the number of a kept scope may be; or that number alone
abbrev pub scope_in : List (List (List ℕ)) → Data → Result GivenScope Data
scope_in scopes d =
    if is_some (as_number d) then kept_scope scopes d
    else items_in (codes "scope") d >>= scope_items scopes

-- the dynamic scope under `scope`, or else the empty one
abbrev pub scope_at : List (List (List ℕ)) → Option Data → Result GivenScope Data
scope_at scopes None = Ok (own_scope [])
scope_at scopes (Some d) = scope_in scopes d

unfoldable pub scope_of : List (List (List ℕ)) → Data → Result GivenScope Data
scope_of scopes d = scope_at scopes (get (codes "scope") d)

-- ---- in answers

-- a scope in the answer to a call: its URIs; where that of the call ends with a kept scope, those in front of it, and its number
abbrev pub scope_answered : Option (ℕ × List (List ℕ)) → List (List ℕ) → Data
scope_answered None uris = texts uris
scope_answered (Some (number, kept)) uris =
    list_of
    (map (λ t. string t) (take (length uris - length kept) uris) ++ whole number ∷ [])
