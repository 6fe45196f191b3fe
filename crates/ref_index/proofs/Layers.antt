-- A document after others.
use Rattle.std.proofs.Common.{◌≡◌, ℕ, zero, suc, List, [], ◌∷◌, ◌++◌, flat_map, length, Some, Result, Ok, Err, OnOk, IfErr, ⊎_elim, refl, sym, ap, ◌∙◌, subst, append-nil}
use Rattle.std.specs.Prelude.{slice_get}
use Rattle.std.specs.List.{AllZip, Contains}
use Rattle.std.proofs.lemmas.List.Elements.{All-contains, All-from_recursion, Contains-push_cases}
use Rattle.std.proofs.lemmas.Grind.{flat_map-append}
use Rattle.ref_uri.specs.declared.error.UriFault.{UriFault}
use Rattle.ref_parts.specs.Table as table
use Rattle.ref_definitions.specs.World.{Document, Layer}
use Rattle.ref_definitions.specs.Places.{Place, places}
use Rattle.ref_definitions.specs.Resources.{resources_in}
use Rattle.ref_definitions.specs.Anchors.{Named, names_in}
use Rattle.ref_definitions.specs.Cached.{identifier_pairs_at, reference_pairs_at}
use Rattle.ref_definitions.specs.Wants.{wants, faults}
use Rattle.ref_index.specs.declared.entry.Entry.{Entry}
use Rattle.ref_index.specs.declared.found.Found.{Found}
use Rattle.ref_paths.specs.declared.path.JsonPointerSegment.{JsonPointerSegment}
use Rattle.ref_index.specs.declared.entry.NamedEntry.{NamedEntry}
use Rattle.ref_index.specs.Entries.{IsPathOf, IsEntryOf}
use Rattle.ref_index.specs.inner.Found.{IsNumberOf, IsResourceOf, IsNameOf, FoundLists, Holds}
use Rattle.ref_index.specs.Faults.{IsFirstFault, faults_of}
use Rattle.ref_index.specs.inner.Visits.{IsWalked, WalksOver, IsFound, held_of}
use Rattle.ref_index.specs.Listed.{ChildrenAreAt, wants_of}
use Rattle.ref_index.proofs.Spots.{numbered_more}
use Rattle.ref_index.proofs.Visiting.{holds_same}

-- ---- numbers of documents

there_still : {X : Type 0} (xs ys : List X) (i : ℕ) (x : X) → slice_get xs i ≡ Some x → slice_get (xs ++ ys) i ≡ Some x
there_still [] ys i x is = cc
there_still (y ∷ xs) ys zero x is = is
there_still (y ∷ xs) ys (suc i) x is = there_still xs ys i x is

pub at_length : {X : Type 0} (xs : List X) (x : X) → slice_get (xs ++ x ∷ []) (length xs) ≡ Some x
at_length [] x = refl
at_length (y ∷ xs) x = at_length xs x

-- ---- what was found stays

path_stays : (layer more : Layer) (number : ℕ) (parts : List JsonPointerSegment) (p : Place) → IsPathOf layer number parts p → IsPathOf (layer ++ more) number parts p
path_stays layer more number parts p is =
    record { document = is.document; numbered = there_still layer more number is.document is.numbered; path = is.path; value = is.value }

entry_stays : (layer more : Layer) (e : Entry) (p : Place) → IsEntryOf layer e p → IsEntryOf (layer ++ more) e p
entry_stays layer more e p is = record { path = path_stays layer more e.document e.path.items p is.path; borrowed = is.borrowed; draft = is.draft; base = is.base }

zip_weaker : {A B : Type 0} (R S : A → B → Type 0) → ((a : A) (b : B) → R a b → S a b) → (xs : List A) (ys : List B) → AllZip R xs ys → AllZip S xs ys
zip_weaker R S each [] [] all = tt
zip_weaker R S each [] (y ∷ ys) all = absurd all
zip_weaker R S each (x ∷ xs) [] all = absurd all
zip_weaker R S each (x ∷ xs) (y ∷ ys) all = (each x y all.0, zip_weaker R S each xs ys all.1)

number_stays : (layer : Layer) (entries : List Entry) (e : Entry) (number n : ℕ) (p : Place) → IsNumberOf layer entries number n p → IsNumberOf layer (entries ++ e ∷ []) number n p
number_stays layer entries e number n p is = (is.0, there_still entries (e ∷ []) n is.0 is.1, is.2, is.3)

pub resources_stay : (layer : Layer) (entries : List Entry) (e : Entry) (ts : List (table.Entry ℕ)) (rs : List (ℕ × (List ℕ × Place))) → AllZip (IsResourceOf layer entries) ts rs → AllZip (IsResourceOf layer (entries ++ e ∷ [])) ts rs
resources_stay layer entries e = zip_weaker (IsResourceOf layer entries) (IsResourceOf layer (entries ++ e ∷ [])) (λ t r is. (is.0, is.1, number_stays layer entries e r.0 t.2 r.1.1 is.2))

pub names_stay : (layer : Layer) (entries : List Entry) (e : Entry) (ts : List (table.Entry NamedEntry)) (ns : List (ℕ × Named)) → AllZip (IsNameOf layer entries) ts ns → AllZip (IsNameOf layer (entries ++ e ∷ [])) ts ns
names_stay layer entries e = zip_weaker (IsNameOf layer entries) (IsNameOf layer (entries ++ e ∷ [])) (λ t n is. (is.0, is.1, is.2, number_stays layer entries e n.0 t.2.entry n.1.place is.3))

pub holds_stays : (layer more : Layer) (f : Found) (held : FoundLists) → Holds layer f held → Holds (layer ++ more) f held
holds_stays layer more f held holds = record {
  by_uri = zip_weaker (IsResourceOf layer f.entries.items) (IsResourceOf (layer ++ more) f.entries.items) (λ t r is. (is.0, is.1, (is.2.0, is.2.1, entry_stays layer more is.2.0 r.1.1 is.2.2, is.2.3))) f.resources held.resources holds.by_uri;
  by_name = zip_weaker (IsNameOf layer f.entries.items) (IsNameOf (layer ++ more) f.entries.items) (λ t n is. (is.0, is.1, is.2, (is.3.0, is.3.1, entry_stays layer more is.3.0 n.1.place is.3.2, is.3.3))) f.names held.names holds.by_name;
  wanted = holds.wanted;
  of_identifiers = holds.of_identifiers;
  of_references = holds.of_references;
  known = holds.known;
}

-- ---- lists of layers

one_more : {A : Type 0} (f : Document → List A) (layer : Layer) (d : Document) → flat_map f layer ++ f d ≡ flat_map f (layer ++ d ∷ [])
one_more f layer d = ap (λ l. flat_map f layer ++ l) (sym (append-nil (f d))) ∙ sym (flat_map-append f layer (d ∷ []))

pub faults_more : (layer : Layer) (d : Document) → faults layer ≡ [] → flat_map faults_of (places d) ≡ faults (layer ++ d ∷ [])
faults_more layer d none = ap (λ l. l ++ flat_map faults_of (places d)) (sym none) ∙ one_more (λ e. flat_map faults_of (places e)) layer d

-- what holds where a walk ends, and where it is refused
pub walk_ended : {A : Type 0} (d : Document) (number : ℕ) (old new : Found) (r : Result A UriFault) → WalksOver d number old new r → OnOk r (IsWalked d number old new (places d))
walk_ended d number old new (Ok done) is = is
walk_ended d number old new (Err fault) is = tt

pub walk_refused : {A : Type 0} (d : Document) (number : ℕ) (old new : Found) (r : Result A UriFault) → WalksOver d number old new r → IfErr r (IsFirstFault (flat_map faults_of (places d)))
walk_refused d number old new (Ok done) is = tt
walk_refused d number old new (Err fault) is = is

pub found_more : (layer : Layer) (d : Document) (old new : Found) → IsFound layer old → IsWalked d (length layer) old new (places d) → IsFound (layer ++ d ∷ []) new
found_more layer d old new is walk = record {
  held = holds_same (layer ++ d ∷ []) new _ _ (numbered_more resources_in layer d) (numbered_more names_in layer d) (one_more (λ e. flat_map wants_of (places e)) layer d)
      (one_more (λ e. flat_map identifier_pairs_at (places e)) layer d) (one_more (λ e. flat_map reference_pairs_at (places e)) layer d)
      (walk.added (layer ++ d ∷ []) (held_of layer (wants layer)) (at_length layer d) (holds_stays layer (d ∷ []) old (held_of layer (wants layer)) is.held));
  faultless = sym (faults_more layer d is.faultless) ∙ walk.faultless;
  children = λ e there.
      ⊎_elim (λ own. is.children e own)
      (λ same. λ p at. All-contains ChildrenAreAt (places d) p (All-from_recursion ChildrenAreAt (places d) walk.children) (subst (λ x. Contains (places x) p) (sym same) at))
      (Contains-push_cases layer d e there);
}
