-- Bytes that are written in several writes.
use Rattle.std.proofs.Common.{◌≡◌, ℕ, List, [], ◌++◌, Option, Some, None, take, drop, sym, ap, ◌∙◌, append_assoc, append-nil, subst, refl, take-append-drop}
use Rattle.std.proofs.KnownBytes.{Appends-trans, Appends-kept}
use Rattle.std.specs.Io.KnownBytes.{Appends, Keeps}
use Rattle.ref_streams.specs.Bytes.{AppendsFront}

-- what was written of bytes, of which some are left
abbrev pub IsWritten : Option (List ℕ) → Option (List ℕ) → List ℕ → List ℕ → Type 0
IsWritten old new bytes rest = (front : List ℕ) × (bytes ≡ front ++ rest) × Appends old new front

-- so many more of the bytes that are left
pub written_more : (old mid new : Option (List ℕ)) (bytes rest : List ℕ) (n : ℕ) → IsWritten old mid bytes rest → Appends mid new (take n rest) → IsWritten old new bytes (drop n rest)
written_more old mid new bytes rest n (front, is, written) more =
    (front ++ take n rest, is ∙ ap (λ ys. front ++ ys) (sym (take-append-drop n rest)) ∙ sym (append_assoc front (take n rest) (drop n rest)), Appends-trans old mid new front (take n rest) written more)

-- a write that failed
pub written_still : (old mid new : Option (List ℕ)) (bytes rest : List ℕ) → IsWritten old mid bytes rest → Keeps mid new → IsWritten old new bytes rest
written_still old mid new bytes rest (front, is, written) same = (front, is, Appends-kept old mid new front written same)

-- none is left
pub written_all : (old new : Option (List ℕ)) (bytes rest : List ℕ) → IsWritten old new bytes rest → rest ≡ [] → Appends old new bytes
written_all old new bytes rest (front, is, written) none = subst (Appends old new) (sym (is ∙ ap (λ ys. front ++ ys) none ∙ append-nil front)) written

pub written_front : (old new : Option (List ℕ)) (bytes rest : List ℕ) → IsWritten old new bytes rest → AppendsFront old new bytes
written_front None new bytes rest (front, is, written) = tt
written_front (Some x) None bytes rest (front, is, written) = absurd written
written_front (Some x) (Some y) bytes rest (front, is, written) = (front, rest, is, written)

front_of_all : (old new : Option (List ℕ)) (bytes : List ℕ) → Appends old new bytes → AppendsFront old new bytes
front_of_all old new bytes written = written_front old new bytes [] (bytes, sym (append-nil bytes), written)

pub front_of_none : (old new bytes : List ℕ) → new ≡ old → AppendsFront (Some old) (Some new) bytes
front_of_none old new bytes same = ([], bytes, refl, same ∙ sym (append-nil old))

-- all, after which nothing changed
pub front_of_kept : (old mid new : Option (List ℕ)) (bytes : List ℕ) → Appends old mid bytes → Keeps mid new → AppendsFront old new bytes
front_of_kept old mid new bytes written same = front_of_all old new bytes (Appends-kept old mid new bytes written same)
