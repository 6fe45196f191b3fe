-- Where a value is, part by part of a pointer.
use Rattle.std.proofs.Common.{◌≡◌, ℕ, Bool, true, false, cond, List, [], ◌∷◌, ◌++◌, map, Option, Some, None, Bor, Result, Ok, Err, IfOk, refl, sym, ap, ◌∙◌, append-nil, append_assoc, is_some, slice_get}
use Rattle.std.specs.Prelude.{IsUtf8}
use Rattle.std.specs.Str.{is_utf8}
use Rattle.std.specs.Option.{ok_or, option_map_or}
use Rattle.std.specs.Result.{result_ok}
use Rattle.std.proofs.lemmas.Str.{IsUtf8-from_is_utf8}
use Rattle.percent_encoding.specs.Percent.{percent_decode}
use Rattle.serde_json.specs.Data.{Data, null, boolean, number, string, array, object}
use Rattle.serde_json.specs.Find.{at, get, as_array}
use Rattle.serde_json.specs.View.{view}
use Rattle.serde_json.specs.declared.value.Value.{Value}
use Rattle.ref_paths.specs.Path.{Part, Key, Index, value_at}
use Rattle.ref_paths.specs.Segment.{part_of}
use Rattle.ref_parts.specs.Pointer.{tokens, unescape}
use Rattle.ref_draft.specs.declared.draft.Draft.{Draft}
use Rattle.ref_definitions.specs.Bases.{Along, along_part}
use Rattle.ref_definitions.specs.Results.{◌>>=◌}
use Rattle.ref_definitions.specs.World.{Layer, World}
use Rattle.ref_definitions.specs.Places.{Place}
use Rattle.ref_definitions.specs.Fault.{Fault, PointerToNowhere, InvalidArrayIndex, InvalidPercentEncoding, as_invalid_uri}
use Rattle.ref_definitions.specs.Pointers.{index_of, step_into, walked_along, pointed_value}
use Rattle.ref_definitions.specs.Lookup.{Resolver, Found, in_subresource, pointer_found}
use Rattle.ref_definitions.proofs.Changes.{first_answers, step_leads, part_more}
use Rattle.ref_index.specs.Spots.{Spot, spot_of}
use Rattle.ref_resolver.specs.declared.located.Located.{Located}
use Rattle.ref_resolver.specs.declared.located.Numbered.{Numbered}
use Rattle.ref_resolver.specs.declared.location.Location.{Location}
use Rattle.ref_resolver.specs.inner.Located.{IsLocatedIn, IsLocatedAt}
use Rattle.ref_resolver.specs.inner.Leading.{IsPartOn, at_pointer, under_uri}
use Rattle.ref_resolver.specs.Locations.{IsValueAt, parts_along, with_parts, location_view}
use Rattle.ref_resolver.proofs.Spotting.{part_first}

pub if_ok : {A E : Type 0} (P Q : A → Type 0) (r : Result A E) → ((a : A) → P a → Q a) → IfOk r P → IfOk r Q
if_ok P Q (Ok a) then is = then a is
if_ok P Q (Err e) then is = tt

-- ---- the part that a token is

-- a step into an array, and into any other value
pub into_array : (pointer : List ℕ) (value : Data) (token : List ℕ) → is_some (as_array value) ≡ true
    → step_into pointer value token ≡ (ok_or (index_of token) (InvalidArrayIndex pointer token) >>= λ i. ok_or (at i value) (PointerToNowhere pointer) >>= λ d. Ok (Index i, d))
into_array pointer null token is = absurd (cc)
into_array pointer (boolean b) token is = absurd (cc)
into_array pointer (number n) token is = absurd (cc)
into_array pointer (string s) token is = absurd (cc)
into_array pointer (array ds) token is = refl
into_array pointer (object ms) token is = absurd (cc)

pub into_other : (pointer : List ℕ) (value : Data) (token : List ℕ) → is_some (as_array value) ≡ false
    → step_into pointer value token ≡ (ok_or (get (unescape token) value) (PointerToNowhere pointer) >>= λ d. Ok (Key (unescape token), d))
into_other pointer null token is = refl
into_other pointer (boolean b) token is = refl
into_other pointer (number n) token is = refl
into_other pointer (string s) token is = refl
into_other pointer (array ds) token is = absurd (cc)
into_other pointer (object ms) token is = refl

-- a token that leads nowhere is no part
pub no_part : (pointer : List ℕ) (value : Data) (token : List ℕ) (more : List (List ℕ)) (before : List Part) (fault : Fault) → step_into pointer value token ≡ Err fault
    → before ≡ before ++ parts_along pointer value (token ∷ more)
no_part pointer value token more before fault is =
    sym (append-nil before) ∙ ap (λ a. before ++ option_map_or (λ (t : Part × Data). t.0 ∷ parts_along pointer t.1 more) (result_ok a) []) (sym is)

-- one that leads to a value is one more
pub one_part_more : (pointer : List ℕ) (value next : Data) (token : List ℕ) (more : List (List ℕ)) (before after : List Part) (part : Part) → step_into pointer value token ≡ Ok (part, next) → after ≡ before ++ part ∷ []
    → after ++ parts_along pointer next more ≡ before ++ parts_along pointer value (token ∷ more)
one_part_more pointer value next token more before after part is pushed =
    ap (λ l. l ++ parts_along pointer next more) pushed ∙ append_assoc before (part ∷ []) (parts_along pointer next more) ∙ ap (λ l. before ++ l) (sym (part_first pointer value token more (part, next) is))

-- ---- the end of a walk

-- the value that tokens lead to is where their parts lead
walked_there : (draft : Draft) (pointer : List ℕ) (start value : Data) (before : List Part) (along : Along) (ts : List (List ℕ)) (to : Data × Along) → value_at start before ≡ Some value → walked_along draft pointer along value ts ≡ Ok to
    → value_at start (before ++ parts_along pointer value ts) ≡ Some to.0
walked_there draft pointer start value before along [] to here is =
    let whole : Ok (value, along) ≡ Ok to = is in
    let both : (value, along) ≡ to = cc in
    ap (value_at start) (append-nil before) ∙ here ∙ ap (λ (p : Data × Along). Some p.0) both
walked_there draft pointer start value before along (t ∷ ts) to here is =
    let step = first_answers (step_into pointer value t) (λ s. as_invalid_uri (along_part draft along s.0 s.1) >>= λ next. walked_along draft pointer next s.1 ts) to is in
    let base = first_answers (as_invalid_uri (along_part draft along step.0.0 step.0.1)) (λ next. walked_along draft pointer next step.0.1 ts) to step.2 in
    let there = part_more start step.0.1 value before step.0.0 here (step_leads pointer value t step.0 step.1) in
    ap (value_at start) (ap (λ l. before ++ l) (part_first pointer value t ts step.0 step.1) ∙ sym (append_assoc before (step.0.0 ∷ []) (parts_along pointer step.0.1 ts)))
    ∙ walked_there draft pointer start step.0.1 (before ++ step.0.0 ∷ []) base.0 ts to there base.2

pointed_by : (b : Bool) (pointer text : List ℕ) (answer : Result (Data × Along) Fault) (to : Data × Along) → is_utf8 (percent_decode text) ≡ b → cond b answer (Err (InvalidPercentEncoding pointer)) ≡ Ok to → IsUtf8 (percent_decode text) × (answer ≡ Ok to)
pointed_by true pointer text answer to utf8 is = (IsUtf8-from_is_utf8 (percent_decode text) utf8, is)
pointed_by false pointer text answer to utf8 is = absurd (cc)

-- what a pointer leads to is where its parts lead, and its text is decoded
pub pointed_there : (r : Resolver) (draft : Draft) (pointer : List ℕ) (start value : Data) (before : List Part) (text : List ℕ) (found : Found) → at_pointer r draft pointer value text ≡ Ok found
    → IsUtf8 (percent_decode text) × (value_at start before ≡ Some value → value_at start (before ++ parts_along pointer value (tokens (percent_decode text))) ≡ Some found.value)
pointed_there r draft pointer start value before text found is =
    let to = first_answers (pointed_value draft pointer r.base value text) (λ to. Ok (pointer_found r draft to)) found is in
    let same : pointer_found r draft to.0 ≡ found = cc in
    let walked = pointed_by (is_utf8 (percent_decode text)) pointer text (walked_along draft pointer (record { base = r.base; since = [] }) value (tokens (percent_decode text))) to.0 refl to.1 in
    (walked.0, λ here. walked_there draft pointer start value before (record { base = r.base; since = [] }) (tokens (percent_decode text)) to.0 here walked.1 ∙ ap (λ (f : Found). Some f.value) same)

-- ---- a place

-- the document of a place leads along the entry's path to its value
pub place_there : (layer : Layer) (l : Located) (p : Place) (path : List Part) (at : IsLocatedIn layer l p) → path ≡ map part_of l.entry.now.path.items → value_at at.path.document.tree path ≡ Some p.value
place_there layer l p path at is = ap (value_at at.path.document.tree) (is ∙ at.path.path) ∙ at.path.value

-- what a pointer leads to from a place is where its parts lead on
pub stands_along : (w : World) (found : Numbered) (p : Place) (l : Location) (r : Resolver) (pointer text : List ℕ) (to : Found) → IsLocatedAt w found p
    → at_pointer r found.place.entry.now.draft pointer (view found.place.value.now) text ≡ Ok to
    → location_view l ≡ with_parts (parts_along pointer (view found.place.value.now) (tokens (percent_decode text))) (found.layer, spot_of found.place.entry.now) → IsValueAt w l to.value
stands_along w found p l r pointer text to at is there =
    let path = at.there.path in
    let before = map part_of found.place.entry.now.path.items in
    let start = place_there at.layer found.place p before at.there refl ∙ ap Some (sym at.there.place.value) in
    let leads = pointed_there r found.place.entry.now.draft pointer path.document.tree (view found.place.value.now) before text to is in
    record {
      layer = at.layer;
      in_world = ap (λ (s : ℕ × Spot). slice_get w s.0) there ∙ at.numbered;
      document = path.document;
      in_layer = ap (λ (s : ℕ × Spot). slice_get at.layer s.1.document) there ∙ path.numbered;
      there = ap (λ (s : ℕ × Spot). value_at path.document.tree s.1.path) there ∙ leads.1 start;
    }

-- a value that an anchor names is what is found there
pub under_value : (r : Resolver) (uri : List ℕ) (draft : Draft) (value : Data) (found : Found) → under_uri r uri draft value ≡ Ok found → value ≡ found.value
under_value r uri draft value found is =
    let moved = first_answers (as_invalid_uri (in_subresource (record r { base = uri }) draft value)) (λ moved. Ok (record { value = value; draft = draft; resolver = moved })) found is in
    let made : Ok (record { value = value; draft = draft; resolver = moved.0 }) ≡ Ok found = moved.2 in
    let same : record { value = value; draft = draft; resolver = moved.0 } ≡ found = cc in
    ap (λ (f : Found). f.value) same

-- the last token, whether it leads to a value or not
pub last_part : (before after : List Part) (pointer : List ℕ) (value : Data) (token : List ℕ) (next : Option (Bor Value)) → IsPartOn pointer value token [] before after next
    → after ≡ before ++ parts_along pointer value (token ∷ [])
last_part before after pointer value token None is = is
last_part before after pointer value token (Some v) is = sym (append-nil after) ∙ is
