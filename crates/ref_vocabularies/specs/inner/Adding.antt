-- What one member of `$vocabulary` adds to a set.
use Rattle.std.specs.Prelude.{◌≡◌, ℕ, List, Ok}
use Rattle.serde_json.specs.Data.{Data}
use Rattle.ref_definitions.specs.Results.{◌>>=◌}
use Rattle.ref_vocabularies.specs.Vocabularies.{VocabularySet, from_text, with_member}

-- the new set is the old one with what the member declares, and its key names a vocabulary
abbrev pub AddsMember : VocabularySet → List ℕ → Data → VocabularySet → Type 0
AddsMember old key value new = (from_text key >>= λ v. Ok (with_member old value v)) ≡ Ok new
