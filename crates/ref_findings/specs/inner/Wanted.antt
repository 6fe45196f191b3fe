-- What the program wants and knows while it gathers documents.
use Rattle.std.specs.Prelude.{◌≡◌, ℕ, true, List, ◌∷◌, ◌++◌, flat_map, map, filter, length, bytes_eq, is_some, Option, option_map, Result, IfOk}
use Rattle.std.specs.HashMap.{get}
use Rattle.std.specs.List.{list_any, AllByRecursion}
use Rattle.std.specs.Option.{option_to_list}
use Rattle.serde_json.specs.View.{view}
use Rattle.ref_draft.specs.declared.draft.Draft.{Draft}
use Rattle.ref_definitions.specs.Preparing.{Retriever}
use Rattle.ref_definitions.specs.Resources.{own_uri}
use Rattle.ref_findings.specs.inner.Seen.{Survey}
use Rattle.ref_findings.specs.declared.gathering.Wants as rust
use Rattle.ref_findings.specs.declared.gathering.Held.{Held}
use Rattle.ref_findings.specs.Sources.{Source, uris_in}
use Rattle.ref_findings.specs.Held.{held_source}
use Rattle.ref_findings.specs.Gathered.{wanted_at, wanted_by, is_known, has_tree, IsRun}

-- the URIs that are wanted
abbrev pub wanted_of : rust.Wants → List (List ℕ)
wanted_of w = map (λ u. u.value) w.wanted.items

-- the URIs that are known are these
abbrev pub AreMet : rust.Wants → List (List ℕ) → Type 0
AreMet w uris =
    (uri : List ℕ) → is_some (get bytes_eq w.met uri) ≡ list_any (λ known. bytes_eq known uri) uris

-- these are known too, and those are wanted too
abbrev pub Grows : rust.Wants → rust.Wants → List (List ℕ) → List (List ℕ) → Type 0
Grows before after met wanted =
    ((uris : List (List ℕ)) → AreMet before uris → AreMet after (uris ++ met))
    × (wanted_of after ≡ wanted_of before ++ wanted) × (after.next ≡ before.next)

-- the URIs that a source and its places have, and those that the places want
abbrev pub uris_seen : Survey → List (List ℕ)
uris_seen t = t.source.uri ∷ flat_map (λ p. option_to_list (own_uri p)) t.places

abbrev pub wanted_seen : Survey → List (List ℕ)
wanted_seen t = flat_map wanted_at t.places

-- what was asked for, with what was returned
abbrev pub source_asked : List ℕ → Option Held → Source
source_asked uri held = record { uri = uri; tree = option_map (λ h. view h.value) held }

-- What sources want is wanted and what they have is known, and what is wanted and was passed is known.
pub record IsState (draft : Draft) (sources : List Source) (w : rust.Wants) : Type 0 where
  pub passed : List (List ℕ)
  pub waiting : List (List ℕ)
  pub met : AreMet w (flat_map (uris_in draft) sources)
  pub split : wanted_of w ≡ passed ++ waiting
  pub wanted : wanted_of w ≡ flat_map (wanted_by draft) sources
  pub next : w.next ≡ length passed
  pub known : AllByRecursion (λ uri. is_known draft sources uri ≡ true) passed

-- Documents were gathered so far.
pub record IsGoing (retriever : Retriever) (draft : Draft) (sources : List Source) (w : rust.Wants)
    (gathered : List Source) : Type 0 where
  pub asked : List Source
  pub run : IsRun retriever draft sources asked
  pub returned : filter has_tree asked ≡ gathered
  pub state : IsState draft (sources ++ asked) w

-- where a call succeeds, documents that were gathered at the first wants are so at the others, with the one that it returns
abbrev pub GoesOn : {E : Type 0} → Retriever → Draft → rust.Wants → rust.Wants
    → Result (Option Held) E → Type 0
GoesOn retriever draft before after result =
    (sources gathered : List Source) → IsGoing retriever draft sources before gathered
    → IfOk result
    (λ held. IsGoing retriever draft sources after
    (gathered ++ option_to_list (option_map held_source held)))
