use Rattle.std.proofs.Common.{refl}
use Rattle.ref_draft.proofs.examples.schemas.drafts_of_uris.Goals as goal

pub returns : goal.returns
returns c = record { six = refl; after_the_scheme = refl; with_http = refl; with_https = refl; with_another_scheme = refl; exact = refl; not_exact = refl; of_the_newest = refl; trailing_hashes = refl; no_such_version = refl; trimmed_twice = refl; trimmed_at_the_end = refl; trimmed_to_nothing = refl; trimmed_whole = refl; trimmed_empty = refl }
