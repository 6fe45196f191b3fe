-- One entry more in what was found.
use Rattle.std.proofs.Common.{◌≡◌, ℕ, Bool, true, false, ◌||◌, cond, List, [], ◌∷◌, ◌++◌, map, refl, sym, ap, ◌∙◌, subst, append_assoc, bytes_eq}
use Rattle.std.specs.List.{list_any, AllZip}
use Rattle.std.proofs.lemmas.List.Folds.{list_any-append}
use Rattle.ref_draft.specs.Anchors.{Kind, anchors}
use Rattle.ref_draft.specs.Views.{Tagged, tagged_value}
use Rattle.ref_parts.specs.Table as table
use Rattle.ref_definitions.specs.Places.{Place}
use Rattle.ref_definitions.specs.Anchors.{Named, named_under}
use Rattle.ref_definitions.specs.World.{Layer}
use Rattle.ref_index.specs.declared.entry.Entry.{Entry}
use Rattle.ref_index.specs.Spots.{with_number}
use Rattle.ref_definitions.specs.Cached.{Pair}
use Rattle.ref_index.specs.declared.found.Found.{Found}
use Rattle.ref_index.specs.declared.found.ResolvedUri.{ResolvedUri}
use Rattle.ref_index.specs.inner.Found.{FoundLists, Holds, IsNumberOf, IsPairOf, name_entry}

-- a URI more among those that identify places
known_more : (before : Bool) (here : Bool) → (before || (here || false)) ≡ cond here true before
known_more true true = refl
known_more true false = refl
known_more false true = refl
known_more false false = refl

pub known_with : (u uri : List ℕ) (number : ℕ) (p : Place) (rs : List (ℕ × (List ℕ × Place))) (old new : Bool) → old ≡ list_any (λ (r : ℕ × (List ℕ × Place)). bytes_eq r.1.0 u) rs → new ≡ cond (bytes_eq uri u) true old
    → new ≡ list_any (λ (r : ℕ × (List ℕ × Place)). bytes_eq r.1.0 u) (rs ++ (number, (uri, p)) ∷ [])
known_with u uri number p rs old new was is =
    is ∙ ap (λ b. cond (bytes_eq uri u) true b) was ∙ sym (known_more (list_any (λ (r : ℕ × (List ℕ × Place)). bytes_eq r.1.0 u) rs) (bytes_eq uri u))
    ∙ sym (list_any-append (λ (r : ℕ × (List ℕ × Place)). bytes_eq r.1.0 u) rs ((number, (uri, p)) ∷ []))

-- one more at the end of each list
pub zip_push : {A B : Type 0} (R : A → B → Type 0) (xs : List A) (ys : List B) (x : A) (y : B) → AllZip R xs ys → R x y → AllZip R (xs ++ x ∷ []) (ys ++ y ∷ [])
zip_push R [] [] x y all here = (here, tt)
zip_push R [] (w ∷ ys) x y all here = absurd all
zip_push R (v ∷ xs) [] x y all here = absurd all
zip_push R (v ∷ xs) (w ∷ ys) x y all here = (all.0, zip_push R xs ys x y all.1 here)

-- one list after the other
pub zip_join : {A B : Type 0} (R : A → B → Type 0) (xs : List A) (ys : List B) (vs : List A) (ws : List B) → AllZip R xs ys → AllZip R vs ws → AllZip R (xs ++ vs) (ys ++ ws)
zip_join R [] [] vs ws all more = more
zip_join R [] (y ∷ ys) vs ws all more = absurd all
zip_join R (x ∷ xs) [] vs ws all more = absurd all
zip_join R (x ∷ xs) (y ∷ ys) vs ws all more = (all.0, zip_join R xs ys vs ws all.1 more)

-- one more of what was resolved
abbrev pub Resolved : Type 0
Resolved = table.Entry ResolvedUri

pub pair_more : (old new : List Resolved) (ps : List Pair) (p : Pair) → AllZip IsPairOf old ps → (t : Resolved) × (new ≡ old ++ t ∷ []) × IsPairOf t p → AllZip IsPairOf new (ps ++ p ∷ [])
pair_more old new ps p all (t, more, is) = subst (λ l. AllZip IsPairOf l (ps ++ p ∷ [])) (sym more) (zip_push IsPairOf old ps t p all is)

-- what is held, with other pairs
pub pairs_held : (layer : Layer) (f : Found) (held : FoundLists) (identifiers references : List Resolved) (of_identifiers of_references : List Pair) → Holds layer f held → AllZip IsPairOf identifiers of_identifiers → AllZip IsPairOf references of_references
    → Holds layer (record f { identifiers = identifiers; references = references }) (record held { identifiers = of_identifiers; references = of_references })
pairs_held layer f held identifiers references of_identifiers of_references holds first second =
    record { by_uri = holds.by_uri; by_name = holds.by_name; wanted = holds.wanted; of_identifiers = first; of_references = second; known = holds.known }

-- an entry's number, where the entries are the same
pub number_kept : (layer : Layer) (before after : List Entry) (number n : ℕ) (p : Place) → after ≡ before → IsNumberOf layer before number n p → IsNumberOf layer after number n p
number_kept layer before after number n p same is = subst (λ es. IsNumberOf layer es number n p) (sym same) is

-- two anchors of a place
pub two_names : (number : ℕ) (uri : List ℕ) (p : Place) (ns : List (ℕ × Named)) (resource : Tagged) (a b : List ℕ × Kind) → a ∷ b ∷ [] ≡ anchors resource.draft resource.contents → resource ≡ tagged_value p.draft p.value
    → (ns ++ (number, name_entry uri p a) ∷ []) ++ (number, name_entry uri p b) ∷ [] ≡ ns ++ with_number number (named_under uri p)
two_names number uri p ns resource a b are is =
    append_assoc ns ((number, name_entry uri p a) ∷ []) ((number, name_entry uri p b) ∷ [])
    ∙ ap (λ l. ns ++ with_number number (map (name_entry uri p) l)) (are ∙ ap (λ (t : Tagged). anchors t.draft t.contents) is)
