-- References that mean a URI from another base.
use Rattle.std.specs.Prelude.{◌≡◌, ℕ, List, Ok}
use Rattle.ref_uri.specs.Targets.{uri_against, uri_part, fragment_part}

-- a text in place of a reference: what is before its `#` means this URI against the base, and what is after it stays (RFC 3986, 5.2)
pub record IsRebased (base target reference text : List ℕ) : Type 0 where
  pub means : uri_against base (uri_part text) ≡ Ok target
  pub fragment : fragment_part text ≡ fragment_part reference
