-- What one listed place refers to.
use Rattle.std.specs.Prelude.{ℕ, List, if◌then◌else◌, Option, None}
use Rattle.referencing.specs.Listing.{Listed}
use Rattle.uses.specs.Bundling.{refers_to, is_of}

-- the URI that a listed place refers to, where it is one of the document with this number
abbrev pub refers_from : ℕ → Listed → Option (List ℕ)
refers_from document p = if is_of document p then refers_to p else None
