-- URIs in normal form, each of which means itself against any base.
use Rattle.std.specs.Prelude.{◌≡◌, ℕ, List, true, is_some}
use Rattle.std.specs.List.{AllByRecursion}
use Rattle.ref_uri.specs.Components.{scheme}
use Rattle.ref_uri.specs.Normal.{normal_form}
use Rattle.ref_uri.specs.Reference.{is_uri_reference}
use Rattle.ref_definitions.specs.World.{Document, Layer}

-- a URI with a scheme, in normal form
pub record IsNormalUri (uri : List ℕ) : Type 0 where
  pub valid : is_uri_reference uri ≡ true
  pub begins : is_some (scheme uri) ≡ true
  pub normal : normal_form uri ≡ uri

-- the document's URI is one
abbrev pub HasNormalUri : Document → Type 0
HasNormalUri d = IsNormalUri d.uri

-- the URI of each document is one
abbrev pub HaveNormalUris : Layer → Type 0
HaveNormalUris layer = AllByRecursion HasNormalUri layer
