-- Clones of the entries of the map of pending documents.
use Rattle.std.proofs.Common.{◌≡◌, refl, ℕ, List, [], ◌∷◌, map}
use Rattle.std.specs.List.{AllZip}
use Rattle.ref_index.specs.Contents.{tree_of}
use Rattle.referencing.specs.declared.input.PendingResource.{PendingResource}
use Rattle.referencing.specs.Builder.{pending_under}

abbrev Entries : Type 0
Entries = List (List ℕ × PendingResource)

-- an entry and its clone
abbrev pub IsCopy : List ℕ × PendingResource → List ℕ × PendingResource → Type 0
IsCopy e f = (f.0 ≡ e.0) × ((tree_of f.1.contents ≡ tree_of e.1.contents) × (f.1.draft ≡ e.1.draft))

same_entry : (e f : List ℕ × PendingResource) → IsCopy e f → pending_under f ≡ pending_under e
same_entry e f (uri, same) = rw (uri, same.0, same.1) refl

pub entries_copied : (es fs : Entries) → AllZip IsCopy es fs → map pending_under fs ≡ map pending_under es
entries_copied [] [] all = refl
entries_copied [] (f ∷ fs) all = absurd all
entries_copied (e ∷ es) [] all = absurd all
entries_copied (e ∷ es) (f ∷ fs) all = rw (same_entry e f all.0, entries_copied es fs all.1) refl
