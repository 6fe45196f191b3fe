-- What the program knows of all sources is what is known of them.
use Rattle.std.proofs.Common.{◌≡◌, ◌∙◌, ℕ, Bool, true, false, ◌||◌, List, [], ◌∷◌, ◌++◌, map, flat_map, Option, Some, None, is_some, option_map, reverse, refl, sym, ap}
use Rattle.std.specs.Prelude.{if◌then◌else◌}
use Rattle.std.specs.List.{enumerate_from, list_any, AllByRecursion}
use Rattle.std.proofs.lemmas.List.{reverse-reverse}
use Rattle.std.proofs.lemmas.List.Concat.{flat_map-append}
use Rattle.std.proofs.lemmas.List.Folds.{flat_map-map}
use Rattle.std.proofs.lemmas.Simd.{map-map}
use Rattle.serde_json.specs.Data.{Data}
use Rattle.ref_parts.specs.Table.{Entry}
use Rattle.ref_draft.specs.declared.draft.Draft.{Draft}
use Rattle.ref_definitions.specs.World.{Document, Layer, World}
use Rattle.ref_findings.specs.Sources.{Source, is_sound, places_in, sound_document, read_source, read_document, world_of, unread_uris}
use Rattle.ref_findings.specs.Mending.{mended_tree}
use Rattle.ref_findings.specs.Bearers.{Site, numbered_sites, sites, uris_borne, names_borne}
use Rattle.ref_findings.specs.Findings.{Known, is_any_twice, own_layers, known_of}
use Rattle.ref_findings.specs.inner.Seen.{Survey, survey_in, sound_in, read_of, with_tree, has_mended, known_among, AreSurveys}
use Rattle.ref_findings.specs.inner.Read.{known_read}

-- ---- sources as they are read

tree_in : (uri : List ℕ) (tree : Option Data) (f : Data → Data) → with_tree (record { uri = uri; tree = tree }) (option_map f tree) ≡ record { uri = uri; tree = option_map f tree }
tree_in uri None f = refl
tree_in uri (Some tree) f = refl

read_by : (s : Source) (b : Bool) (f : Data → Data) → with_tree s (if b then None else option_map f s.tree) ≡ (if b then s else record s { tree = option_map f s.tree })
read_by s true f = refl
read_by s false f = tree_in s.uri s.tree f

reads : (draft : Draft) (ss : List Source) → map read_of (map (survey_in draft) ss) ≡ map (read_source draft) ss
reads draft [] = refl
reads draft (s ∷ ss) = ap (λ r. r ∷ map read_of (map (survey_in draft) ss)) (read_by s (is_sound draft s) (mended_tree (places_in draft s))) ∙ ap (λ l. read_source draft s ∷ l) (reads draft ss)

pub reads_are : (draft : Draft) (ss : List Source) (ts : List Survey) → ts ≡ map (survey_in draft) ss → map read_of ts ≡ map (read_source draft) ss
reads_are draft ss ts first = ap (map read_of) first ∙ reads draft ss

-- of sources that are read with no other tree
no_tree : (s : Source) (o : Option Data) → is_some o ≡ false → with_tree s o ≡ s
no_tree s None is = refl
no_tree s (Some tree) is = cc

neither : (a b : Bool) → (a || b) ≡ false → (a ≡ false) × (b ≡ false)
neither true b is = cc
neither false b is = (refl, is)

pub plain_document : (draft : Draft) (t : Survey) → t ≡ survey_in draft t.source → has_mended t ≡ false → sound_in draft t ≡ sound_document draft (read_of t)
plain_document draft t is none = ap (sound_in draft) is ∙ ap (sound_document draft) (sym (no_tree t.source t.mended none))

pub plain_documents : (draft : Draft) (ts : List Survey) → AreSurveys draft ts → list_any has_mended ts ≡ false → flat_map (sound_in draft) ts ≡ flat_map (sound_document draft) (map read_of ts)
plain_documents draft [] are none = refl
plain_documents draft (t ∷ ts) are none =
    let both = neither (has_mended t) (list_any has_mended ts) none in
    ap (λ l. l ++ flat_map (sound_in draft) ts) (plain_document draft t are.0 both.0) ∙ ap (λ l. sound_document draft (read_of t) ++ l) (plain_documents draft ts are.1 both.1)

pub plain_own : (draft : Draft) (ts : List Survey) → AreSurveys draft ts → list_any has_mended ts ≡ false → map (sound_in draft) ts ≡ map (sound_document draft) (map read_of ts)
plain_own draft [] are none = refl
plain_own draft (t ∷ ts) are none =
    let both = neither (has_mended t) (list_any has_mended ts) none in
    ap (λ d. d ∷ map (sound_in draft) ts) (plain_document draft t are.0 both.0) ∙ ap (λ l. sound_document draft (read_of t) ∷ l) (plain_own draft ts are.1 both.1)

-- of sources that were surveyed again
pub again_documents : (draft : Draft) (rs : List Source) (ts : List Survey) → ts ≡ map (survey_in draft) rs → flat_map (sound_in draft) ts ≡ flat_map (sound_document draft) rs
again_documents draft rs ts first = ap (flat_map (sound_in draft)) first ∙ flat_map-map (sound_in draft) (survey_in draft) rs

pub again_own : (draft : Draft) (rs : List Source) (ts : List Survey) → ts ≡ map (survey_in draft) rs → map (sound_in draft) ts ≡ map (sound_document draft) rs
again_own draft rs ts first = ap (map (sound_in draft)) first ∙ map-map (sound_in draft) (survey_in draft) rs

-- ---- all that is known

documents_read : (draft : Draft) (ss hs : List Source)
    → flat_map (sound_document draft) (map (read_source draft) ss) ++ flat_map (sound_document draft) (map (read_source draft) hs) ≡ flat_map (read_document draft) (ss ++ hs)
documents_read draft ss hs =
    ap (λ l. l ++ flat_map (sound_document draft) (map (read_source draft) hs)) (flat_map-map (sound_document draft) (read_source draft) ss)
    ∙ ap (λ l. flat_map (read_document draft) ss ++ l) (flat_map-map (sound_document draft) (read_source draft) hs)
    ∙ sym (flat_map-append (read_document draft) ss hs)

pub sites_are : (draft : Draft) (ss : List Source) (ts : List Survey) (ls : List Site) → ts ≡ map (survey_in draft) ss
    → ls ≡ flat_map numbered_sites (enumerate_from 0 (map (λ t. t.places) ts)) → ls ≡ sites draft ss
sites_are draft ss ts ls first is =
    is ∙ ap (λ l. flat_map numbered_sites (enumerate_from 0 (map (λ (t : Survey). t.places) l))) first
    ∙ ap (λ l. flat_map numbered_sites (enumerate_from 0 l)) (map-map (λ (t : Survey). t.places) (survey_in draft) ss)

pub known_is : (draft : Draft) (ss hs : List Source) (ts us : List Survey) (twice : Bool) (unread : List (Entry ℕ)) (ls : List Site) → ts ≡ map (survey_in draft) ss → us ≡ map (survey_in draft) hs
    → twice ≡ is_any_twice (uris_borne ls) → unread ≡ unread_uris ss hs → ls ≡ sites draft ss → known_read draft (map read_of ts) (map read_of us) twice unread ls ≡ known_of draft ss hs
known_is draft ss hs ts us twice unread ls first second doubled bad at_sites =
    ap (λ r. known_read draft r (map read_of us) twice unread ls) (reads_are draft ss ts first)
    ∙ ap (λ r. known_read draft (map (read_source draft) ss) r twice unread ls) (reads_are draft hs us second)
    ∙ ap (λ l. known_among l (if twice then map (sound_document draft) (map (read_source draft) ss) else []) unread ls) (documents_read draft ss hs)
    ∙ ap (λ l. known_among (flat_map (read_document draft) (ss ++ hs)) (if twice then l else []) unread ls) (map-map (sound_document draft) (read_source draft) ss)
    ∙ ap (λ b. known_among (flat_map (read_document draft) (ss ++ hs)) (if b then map (read_document draft) ss else []) unread ls) doubled
    ∙ ap (λ u. known_among (flat_map (read_document draft) (ss ++ hs)) (own_layers draft ss (uris_borne ls)) u ls) bad
    ∙ ap (λ l. known_among (flat_map (read_document draft) (ss ++ hs)) (own_layers draft ss (uris_borne l)) (unread_uris ss hs) l) at_sites

abbrev pub known_with : World → List Layer → List (Entry ℕ) → List Site → List (Entry ℕ) → List (Entry ℕ) → Known
known_with world own unread ls uris names = record { world = world; own = own; unread = unread; sites = ls; uris = uris; names = names }

pub same_known : (world : World) (own : List Layer) (unread : List (Entry ℕ)) (ls : List Site) (uris names : List (Entry ℕ)) (w : World) → world ≡ w
    → uris ≡ reverse (uris_borne ls) → names ≡ reverse (names_borne ls)
    → known_with world own unread ls (reverse uris) (reverse names) ≡ known_with w own unread ls (uris_borne ls) (names_borne ls)
same_known world own unread ls uris names w first second third =
    ap (λ x. known_with x own unread ls (reverse uris) (reverse names)) first
    ∙ ap (λ x. known_with w own unread ls x (reverse names)) (ap reverse second ∙ reverse-reverse (uris_borne ls))
    ∙ ap (λ x. known_with w own unread ls (uris_borne ls) x) (ap reverse third ∙ reverse-reverse (names_borne ls))

pub surveys_are : (draft : Draft) (ss : List Source) → AreSurveys draft (map (survey_in draft) ss)
surveys_are draft [] = tt
surveys_are draft (s ∷ ss) = (refl, surveys_are draft ss)
