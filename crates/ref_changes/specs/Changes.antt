-- Whether each reference of documents leads where it led after they are changed, and what differs first.
use Rattle.std.specs.Prelude.{◌≡◌, ℕ, Bool, true, false, not, ◌&&◌, ◌||◌, List, [], ◌∷◌, ◌++◌, flat_map, map, codes, bytes_eq, if◌then◌else◌, Option, Some, None}
use Rattle.std.specs.List.{list_any}
use Rattle.std.specs.Option.{option_map_or}
use Rattle.serde_json.specs.Data.{Data}
use Rattle.ref_paths.specs.Path.{Part}
use Rattle.ref_draft.specs.declared.draft.Draft.{Draft}
use Rattle.ref_draft.specs.declared.draft.Draft.TheVariants.{Draft4, Draft6, Draft7, Draft201909, Draft202012, Unknown}
use Rattle.ref_draft.specs.Schema.{text_under}
use Rattle.ref_draft.specs.Anchors.{Kind, anchors}
use Rattle.ref_definitions.specs.Lookup.{is_dynamic}
use Rattle.ref_definitions.specs.Recursive.{is_marked}
use Rattle.ref_index.specs.Spots.{Spot}
use Rattle.ref_changes.specs.Answers.{Change, Answer, answer, location, is_kept, is_base_kept, is_draft, is_same_bool, is_name_kept, Texts, named, dynamic_name}
use Rattle.ref_changes.specs.Sites.{Site, sites, site_after}

-- what a text leads to before, and the one in its place after
pub record Leading : Type 0 where
  pub texts : Texts
  pub led : Option (ℕ × Spot)
  pub leads : Option (ℕ × Spot)

-- what differs at a place
pub data What : Type 0 where
  -- no place is where it moved
  NoPlace : What
  -- its draft, its base, whether it has `$recursiveAnchor`, or its anchors
  OtherDraft : What
  OtherBase : What
  OtherMark : What
  OtherAnchors : What
  -- a text under a keyword, which is there before or after alone
  OtherText : List ℕ → What
  -- a reference under a keyword
  OtherReference : List ℕ → Leading → What
  -- from its base, a name of a dynamic anchor that references lead to
  OtherName : Leading → What

-- a place, and what differs there
pub record Difference : Type 0 where
  pub site : Site
  pub what : What

-- ---- a place

-- what differs, unless a test holds
abbrev pub unless : Bool → What → List What
unless kept what = if kept then [] else what ∷ []

-- the keywords of references, by draft (2020-12 Core, 8.2.3; 2019-09 Core, 8.2.4)
abbrev pub reference_keywords : Draft → List (List ℕ)
reference_keywords Draft4 = codes "$ref" ∷ []
reference_keywords Draft6 = codes "$ref" ∷ []
reference_keywords Draft7 = codes "$ref" ∷ []
reference_keywords Draft201909 = codes "$ref" ∷ codes "$recursiveRef" ∷ []
reference_keywords Draft202012 = codes "$ref" ∷ codes "$dynamicRef" ∷ []
reference_keywords Unknown = codes "$ref" ∷ codes "$dynamicRef" ∷ []

abbrev pub leading : Texts → Answer → Answer → Leading
leading texts before after =
    record { texts = texts; led = location before; leads = location after }

-- A reference is kept: it leads to the same, and where that depends on the dynamic scope, it does so after
abbrev pub is_dynamic_kept : Option (List ℕ) → Option (List ℕ) → Bool
is_dynamic_kept None None = true
is_dynamic_kept (Some name) (Some now) = true
is_dynamic_kept (Some name) None = false
is_dynamic_kept None (Some now) = false

abbrev pub is_reference_kept : Change → Texts → Answer → Answer → Bool
is_reference_kept c texts before after =
    is_kept c before after
    && is_dynamic_kept (dynamic_name texts.text before) (dynamic_name texts.now after)

abbrev pub reference_by : Change → List ℕ → Texts → Answer → Answer → List What
reference_by c keyword texts before after =
    unless (is_reference_kept c texts before after)
    (OtherReference keyword (leading texts before after))

-- the texts under a keyword
abbrev pub texts_by : Change → Site → Site → List ℕ → Option (List ℕ) → Option (List ℕ) → List What
texts_by c s t keyword None None = []
texts_by c s t keyword (Some text) None = OtherText keyword ∷ []
texts_by c s t keyword None (Some now) = OtherText keyword ∷ []
texts_by c s t keyword (Some text) (Some now) =
    reference_by c keyword (record { text = text; now = now }) (answer c.before s.base text)
    (answer c.after t.base now)

abbrev pub keyword_whats : Change → Site → Site → List ℕ → List What
keyword_whats c s t keyword =
    texts_by c s t keyword (text_under keyword s.value) (text_under keyword t.value)

-- an anchor means what it meant
abbrev pub is_anchor_kept : Change → Site → Site → List ℕ × Kind → List ℕ × Kind → Bool
is_anchor_kept c s t a b =
    is_same_bool (is_dynamic a.1) (is_dynamic b.1)
    && is_kept c (answer c.before s.base (named a.0)) (answer c.after t.base (named b.0))

abbrev pub are_anchors_kept : Change → Site → Site → List (List ℕ × Kind) → List (List ℕ × Kind)
    → Bool
are_anchors_kept c s t [] [] = true
are_anchors_kept c s t (a ∷ more) (b ∷ others) =
    is_anchor_kept c s t a b && are_anchors_kept c s t more others
are_anchors_kept c s t (a ∷ more) [] = false
are_anchors_kept c s t [] (b ∷ others) = false

-- what differs at a place, where this is the place after
abbrev pub whats_at : Change → Site → Site → List What
whats_at c s t =
    unless (is_draft s.draft t.draft) OtherDraft
    ++ (unless (is_base_kept c s.base t.base) OtherBase
    ++ (unless (is_same_bool (is_marked s.value) (is_marked t.value)) OtherMark
    ++ (unless
    (are_anchors_kept c s t (anchors s.draft s.value) (anchors t.draft t.value))
    OtherAnchors
    ++ flat_map (keyword_whats c s t) (reference_keywords s.draft))))

-- it differs so at a place
abbrev pub differs : Site → What → Difference
differs s w = record { site = s; what = w }

abbrev pub differences_with : Change → Site → Option Site → List Difference
differences_with c s None = differs s NoPlace ∷ []
differences_with c s (Some t) = map (differs s) (whats_at c s t)

abbrev pub site_differences : Change → List Site → Site → List Difference
site_differences c after s = differences_with c s (site_after c.moves after s)

-- ---- dynamic anchors

-- the name of the dynamic anchor that a reference leads to before, and that after
abbrev pub names_of : Option (List ℕ) → Option (List ℕ) → List Texts
names_of (Some name) (Some now) = record { text = name; now = now } ∷ []
names_of (Some name) None = []
names_of None (Some now) = []
names_of None None = []

abbrev pub names_by : Change → Site → Site → Option (List ℕ) → Option (List ℕ) → List Texts
names_by c s t (Some text) (Some now) =
    names_of (dynamic_name text (answer c.before s.base text))
    (dynamic_name now (answer c.after t.base now))
names_by c s t (Some text) None = []
names_by c s t None (Some now) = []
names_by c s t None None = []

abbrev pub keyword_names : Change → Site → Site → List ℕ → List Texts
keyword_names c s t keyword =
    names_by c s t (text_under keyword s.value) (text_under keyword t.value)

abbrev pub names_at : Change → Site → Site → List Texts
names_at c s t = flat_map (keyword_names c s t) (reference_keywords s.draft)

abbrev pub site_names : Change → List Site → Site → List Texts
site_names c after s = option_map_or (names_at c s) (site_after c.moves after s) []

-- each of these once
abbrev pub is_texts : Texts → Texts → Bool
is_texts a b = bytes_eq a.text b.text && bytes_eq a.now b.now

abbrev pub with_texts : List Texts → Texts → List Texts
with_texts all n = if list_any (is_texts n) all then all else all ++ n ∷ []

abbrev pub with_each : List Texts → List Texts → List Texts
with_each all [] = all
with_each all (n ∷ more) = with_each (with_texts all n) more

abbrev pub all_names : Change → List Site → List Site → List Texts
all_names c before after = with_each [] (flat_map (site_names c after) before)

-- what names lead to from the base of a place, where that differs
abbrev pub name_by : Change → Texts → Answer → Answer → List What
name_by c names before after =
    unless (is_name_kept c names before after)
    (OtherName
    (leading (record { text = named names.text; now = named names.now }) before after))

abbrev pub name_whats : Change → Texts → Site → Site → List What
name_whats c names s t =
    name_by c names (answer c.before s.base (named names.text))
    (answer c.after t.base (named names.now))

abbrev pub name_differences : Change → List Site → Texts → Site → List Difference
name_differences c after names s =
    option_map_or (λ t. map (differs s) (name_whats c names s t)) (site_after c.moves after s) []

-- ---- all of them

-- What differs: at each place of the own documents before, in order; and for each name of a dynamic anchor that references lead
-- to, from the base of each of these places
abbrev pub differences_of : Change → List Site → List Site → List Difference
differences_of c before after =
    flat_map (site_differences c after) before
    ++ flat_map (λ n. flat_map (name_differences c after n) before) (all_names c before after)

abbrev pub differences : Change → List Difference
differences c = differences_of c (sites c.before) (sites c.after)

-- the first of a list
abbrev pub first : {X : Type 0} → List X → Option X
first [] = None
first (x ∷ xs) = Some x
