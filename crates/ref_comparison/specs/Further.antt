-- Whether references of objects of descriptions, and of what references lead to where no keyword does, lead to the same after documents are changed.
use Rattle.std.specs.Prelude.{ℕ, zero, Bool, true, false, ◌&&◌, ◌||◌, List, [], ◌∷◌, ◌++◌, map, flat_map, codes, bytes_eq, if◌then◌else◌, Option, Some, None, option_map}
use Rattle.ref_paths.specs.Path.{Key}
use Rattle.ref_draft.specs.Names.{draft_name}
use Rattle.ref_descriptions.specs.declared.reading.Reading.{Reading}
use Rattle.ref_descriptions.specs.Fields.{kind_name}
use Rattle.ref_descriptions.specs.References.{Reference, references}
use Rattle.ref_index.specs.Spots.{Spot}
use Rattle.ref_reach.specs.Places.{Place}
use Rattle.ref_reach.specs.Leading.{Known, Target, version_text, target_by_text, is_mapped, is_name}
use Rattle.ref_changes.specs.Moves.{Moves, image, address_of, is_address, is_moved, is_moved_if}
use Rattle.ref_changes.specs.Answers.{Texts, is_draft, is_same_bool}

-- what is known of documents before and after, and what moves
pub record Sides : Type 0 where
  pub moves : Moves
  pub before : Known
  pub after : Known

-- what differs at a place
pub data What : Type 0 where
  -- no place that is read so is where it moved
  NoPlace : What
  -- its base means another resource
  OtherBase : What
  -- it has other references, each by where it is and its keyword
  OtherReferences : What
  -- the reference under this keyword leads elsewhere
  OtherTarget : List ℕ → Texts → What

pub record Difference : Type 0 where
  pub place : Place
  pub what : What

-- ---- where a text leads

abbrev pub spot_of : Place → Spot
spot_of p = record { document = p.document; path = p.path }

abbrev pub spot_led : Target → ℕ × Spot
spot_led t = (zero, record { document = t.document; path = t.path })

-- where the resource is that the base of a place means
abbrev pub resource_at : Known → Place → Option (ℕ × Spot)
resource_at known p = option_map spot_led (target_by_text known p (codes "#"))

abbrev pub is_base_kept : Sides → Place → Place → Bool
is_base_kept s p q = is_moved_if s.moves (resource_at s.before p) (resource_at s.after q)

-- a text leads to where that moved, of the same draft, or leads nowhere as before
abbrev pub is_target_kept : Sides → Option Target → Option Target → Bool
is_target_kept s (Some t) (Some u) =
    is_moved s.moves (spot_led t) (spot_led u) && is_draft t.draft u.draft
is_target_kept s None None = true
is_target_kept s (Some t) None = false
is_target_kept s None (Some u) = false

-- ---- names of components, in mappings of discriminators (3.0 on, "Discriminator Object")

-- where a component with a name is in a document
abbrev pub component_at : List ℕ → ℕ → ℕ × Spot
component_at name document = (
  zero,
  record {
    document = document;
    path = Key (codes "components") ∷ Key (codes "schemas") ∷ Key name ∷ [];
  },
)

-- a name means the component that moved to that with the other name: in the document of the place
abbrev pub is_name_kept : Sides → Place → Place → Texts → Bool
is_name_kept s p q t =
    is_moved s.moves (component_at t.text p.document) (component_at t.now q.document)
    || bytes_eq t.text t.now

-- ---- a reference

abbrev pub is_text_kept : Sides → Place → Place → Reference → Texts → Bool
is_text_kept s p q r t =
    if is_mapped r && is_name s.before p.document t.text
    then is_name s.after q.document t.now && is_name_kept s p q t
    else is_target_kept s (target_by_text s.before p t.text) (target_by_text s.after q t.now)

-- whether two references have the same keyword in the same place
abbrev pub is_same_place : Reference → Reference → Bool
is_same_place r t = is_same_bool (is_mapped r) (is_mapped t) && bytes_eq r.keyword t.keyword

abbrev pub text_whats : Sides → Place → Place → Reference → Option (List ℕ) → Option (List ℕ) → List What
text_whats s p q r None None = []
text_whats s p q r (Some text) None = OtherReferences ∷ []
text_whats s p q r None (Some now) = OtherReferences ∷ []
text_whats s p q r (Some text) (Some now) =
    let texts : Texts = record { text = text; now = now } in
    if is_text_kept s p q r texts then [] else OtherTarget r.keyword texts ∷ []

-- the references of a place and those of the one after, one by one in order
abbrev pub reference_whats : Sides → Place → Place → List Reference → List Reference → List What
reference_whats s p q [] [] = []
reference_whats s p q (r ∷ more) [] = OtherReferences ∷ []
reference_whats s p q [] (t ∷ others) = OtherReferences ∷ []
reference_whats s p q (r ∷ more) (t ∷ others) =
    if is_same_place r t
    then text_whats s p q r r.text t.text ++ reference_whats s p q more others
    else OtherReferences ∷ []

-- ---- a place

-- whether two objects are read the same: by the same version, as the same kind, by the same draft
abbrev pub is_read_so : Reading → Reading → Bool
is_read_so r t =
    bytes_eq (version_text r.version) (version_text t.version)
    && (bytes_eq (kind_name r.kind) (kind_name t.kind)
    && bytes_eq (draft_name r.draft) (draft_name t.draft))

-- whether a place after is where one before moved, and read the same
abbrev pub is_image : Sides → Place → Place → Bool
is_image s p q =
    is_address (image s.moves (spot_of p)) (address_of (spot_of q))
    && is_read_so p.reading q.reading

-- of those that are read so there, the first from the same base
abbrev pub whats_among : Sides → Place → List Place → Bool → List What
whats_among s p [] false = NoPlace ∷ []
whats_among s p [] true = OtherBase ∷ []
whats_among s p (q ∷ more) is_any =
    if is_image s p q
    then (if is_base_kept s p q
    then reference_whats s p q (references p.reading p.value) (references q.reading q.value)
    else whats_among s p more true)
    else whats_among s p more is_any

abbrev pub place_differences : Sides → List Place → Place → List Difference
place_differences s after p =
    map (λ w. record { place = p; what = w }) (whats_among s p after false)

-- What differs: at each place before, in order
abbrev pub differences : Sides → List Place → List Place → List Difference
differences s before after = flat_map (place_differences s after) before
