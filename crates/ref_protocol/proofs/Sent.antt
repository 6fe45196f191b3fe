-- What was sent in several writes.
use Rattle.std.proofs.Common.{◌≡◌, ℕ, List, [], ◌∷◌, ◌++◌, Option, Some, None, Result, String, refl, sym, ap, ◌∙◌, append_assoc, append-nil, subst, inl, inr}
use Rattle.std.specs.declared.alloc.Global.{Global}
use Rattle.std.proofs.KnownBytes.{Appends-trans}
use Rattle.std.specs.Io.KnownBytes.{Appends}
use Rattle.ref_protocol.specs.declared.refusal.Refusal.{Refusal}
use Rattle.ref_protocol.specs.Replies.{frame_of, answer_of}
use Rattle.ref_protocol.specs.Sending.{note_with, notes_of, SendsNotes, SendsAnswer, SendsAtMost}

notes_of-append : (a b : List (List ℕ)) → notes_of (a ++ b) ≡ notes_of a ++ notes_of b
notes_of-append [] b = refl
notes_of-append (x ∷ a) b =
    ap (λ r. frame_of (note_with x) ++ r) (notes_of-append a b)
    ∙ sym (append_assoc (frame_of (note_with x)) (notes_of a) (notes_of b))

nothing : (x : Option (List ℕ)) → Appends x x []
nothing None = tt
nothing (Some xs) = sym (append-nil xs)

-- nothing was sent
pub notes_none : (x : Option (List ℕ)) → SendsNotes x x
notes_none x = record { params = []; sent = nothing x }

-- notifications after notifications
pub notes_notes : (old mid new : Option (List ℕ)) → SendsNotes old mid → SendsNotes mid new → SendsNotes old new
notes_notes old mid new h k = record {
  params = h.params ++ k.params;
  sent = subst (Appends old new) (sym (notes_of-append h.params k.params)) (Appends-trans old mid new (notes_of h.params) (notes_of k.params) h.sent k.sent);
}

-- one notification
pub notes_one : (old new : Option (List ℕ)) (params : List ℕ) → Appends old new (frame_of (note_with params)) → SendsNotes old new
notes_one old new params h = record {
  params = params ∷ [];
  sent = subst (Appends old new) (sym (append-nil (frame_of (note_with params)))) h;
}

-- an answer alone
pub answer_one : (id : List ℕ) (outcome : Result (String Global) Refusal) (old new : Option (List ℕ)) → Appends old new (frame_of (answer_of id outcome)) → SendsAnswer id old new
answer_one id outcome old new h = record { params = []; outcome = outcome; sent = h }

-- an answer after notifications
pub notes_answer : (id : List ℕ) (old mid new : Option (List ℕ)) → SendsNotes old mid → SendsAnswer id mid new → SendsAnswer id old new
notes_answer id old mid new h k = record {
  params = h.params ++ k.params;
  outcome = k.outcome;
  sent =
      subst (Appends old new)
      (sym (append_assoc (notes_of h.params) (notes_of k.params) (frame_of (answer_of id k.outcome)))
      ∙ ap (λ r. r ++ frame_of (answer_of id k.outcome)) (sym (notes_of-append h.params k.params)))
      (Appends-trans old mid new (notes_of h.params) (notes_of k.params ++ frame_of (answer_of id k.outcome)) h.sent k.sent);
}

-- at most one answer after notifications
pub notes_most : (id : List ℕ) (old mid new : Option (List ℕ)) → SendsNotes old mid → SendsAtMost id mid new → SendsAtMost id old new
notes_most id old mid new h k =
    elim k as (λ _. SendsAtMost id old new) [ inl n ↦ inl (notes_notes old mid new h n) | inr a ↦ inr (notes_answer id old mid new h a) ]

-- at most one answer before notifications is one where none was sent yet
pub none_most : (id : List ℕ) (x : Option (List ℕ)) → SendsAtMost id x x
none_most id x = inl (notes_none x)
