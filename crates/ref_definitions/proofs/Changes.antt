-- Where a pointer succeeds, it leads along a path whose base is that of the last change.
use Rattle.std.proofs.Common.{◌≡◌, ℕ, Bool, true, false, cond, List, [], ◌∷◌, ◌++◌, Option, Some, None, option_and_then, Result, Ok, Err, refl, sym, ap, subst, ◌∙◌, true≢false, bytes_eq}
use Rattle.std.specs.Option.{ok_or}
use Rattle.std.specs.Str.{is_utf8}
use Rattle.std.proofs.lemmas.Slice.Eq.{bytes_eq-Decides}
use Rattle.percent_encoding.specs.Percent.{percent_decode}
use Rattle.serde_json.specs.Data.{Data, null, boolean, number, string, array, object}
use Rattle.serde_json.specs.Find.{get_item, get_member}
use Rattle.ref_paths.specs.Path.{Part, Key, Index, child_at, value_at}
use Rattle.ref_parts.specs.Pointer.{unescape, tokens}
use Rattle.ref_draft.specs.declared.draft.Draft.{Draft}
use Rattle.ref_draft.specs.Schema.{identifier}
use Rattle.ref_draft.specs.Children.{is_object}
use Rattle.ref_draft.specs.Scan.{IsAccepted}
use Rattle.ref_draft.specs.ScanSteps.{scan}
use Rattle.ref_draft.proofs.Scanning.{accepted, refused}
use Rattle.ref_uri.specs.Targets.{Refusal, uri_against}
use Rattle.ref_definitions.specs.Results.{◌>>=◌}
use Rattle.ref_definitions.specs.Fault.{Fault, PointerToNowhere, InvalidPercentEncoding, InvalidArrayIndex, as_invalid_uri}
use Rattle.ref_definitions.specs.Places.{base_within}
use Rattle.ref_definitions.specs.Bases.{Along, changed_base as moved, along_part}
use Rattle.ref_definitions.specs.Pointers.{index_of, step_into, walked_along, pointed_value}
use Rattle.ref_definitions.specs.Reading.{IsReadAsPart}
use Rattle.ref_definitions.specs.Changes.{Stays, IsBaseAlong, begun, stayed, changed, LeadsAlong}

-- an answer in turn comes from an answer
pub first_answers : {E A B : Type 0} (r : Result A E) (f : A → Result B E) (y : B) → (r >>= f) ≡ Ok y → (x : A) × (r ≡ Ok x) × (f x ≡ Ok y)
first_answers (Ok x) f y is = (x, refl, is)
first_answers (Err e) f y is = absurd (cc)

pub there_or : {A : Type 0} (o : Option A) (fault : Fault) (x : A) → ok_or o fault ≡ Ok x → o ≡ Some x
there_or None fault x is = absurd (cc)
there_or (Some y) fault x is = let same : y ≡ x = cc in ap (λ z. Some z) same

pub uri_answers : {A : Type 0} (r : Result A Refusal) (x : A) → as_invalid_uri r ≡ Ok x → r ≡ Ok x
uri_answers (Ok y) x is = let same : y ≡ x = cc in ap (λ z. Ok z) same
uri_answers (Err refusal) x is = absurd (cc)

-- a step reads its token as its part, and leads to what is there
pub step_reads_and_leads : (pointer : List ℕ) (value : Data) (token : List ℕ) (s : Part × Data) → step_into pointer value token ≡ Ok s → IsReadAsPart value token s.0 × (child_at value s.0 ≡ Some s.1)
step_reads_and_leads pointer null token s is = absurd (cc)
step_reads_and_leads pointer (boolean b) token s is = absurd (cc)
step_reads_and_leads pointer (number n) token s is = absurd (cc)
step_reads_and_leads pointer (string t) token s is = absurd (cc)
step_reads_and_leads pointer (array ds) token s is =
    let index = first_answers (ok_or (index_of token) (InvalidArrayIndex pointer token)) (λ i. ok_or (get_item i ds) (PointerToNowhere pointer) >>= λ d. Ok (Index i, d)) s is in
    let element = first_answers (ok_or (get_item index.0 ds) (PointerToNowhere pointer)) (λ d. Ok (Index index.0, d)) s index.2 in
    let same : (Index index.0, element.0) ≡ s = cc in
    subst (λ (t : Part × Data). IsReadAsPart (array ds) token t.0 × (child_at (array ds) t.0 ≡ Some t.1)) same
    ((refl, there_or (index_of token) (InvalidArrayIndex pointer token) index.0 index.1), there_or (get_item index.0 ds) (PointerToNowhere pointer) element.0 element.1)
step_reads_and_leads pointer (object ms) token s is =
    let found = first_answers (ok_or (get_member (unescape token) ms) (PointerToNowhere pointer)) (λ d. Ok (Key (unescape token), d)) s is in
    let same : (Key (unescape token), found.0) ≡ s = cc in
    subst (λ (t : Part × Data). IsReadAsPart (object ms) token t.0 × (child_at (object ms) t.0 ≡ Some t.1)) same
    ((refl, refl), there_or (get_member (unescape token) ms) (PointerToNowhere pointer) found.0 found.1)

pub step_leads : (pointer : List ℕ) (value : Data) (token : List ℕ) (s : Part × Data) → step_into pointer value token ≡ Ok s → child_at value s.0 ≡ Some s.1
step_leads pointer value token s is = (step_reads_and_leads pointer value token s is).1

pub value_at-append : (value : Data) (path rest : List Part) → value_at value (path ++ rest) ≡ option_and_then (λ e. value_at e rest) (value_at value path)
value_at-append value [] rest = refl
value_at-append value (part ∷ path) rest = behind (child_at value part) path rest (λ e. value_at-append e path rest)
  where
    behind : (o : Option Data) (path rest : List Part) → ((e : Data) → value_at e (path ++ rest) ≡ option_and_then (λ f. value_at f rest) (value_at e path))
        → option_and_then (λ e. value_at e (path ++ rest)) o ≡ option_and_then (λ e. value_at e rest) (option_and_then (λ e. value_at e path) o)
    behind None path rest each = refl
    behind (Some e) path rest each = each e

-- one part more
pub part_more : (value there v : Data) (path : List Part) (part : Part) → value_at value path ≡ Some v → child_at v part ≡ Some there → value_at value (path ++ part ∷ []) ≡ Some there
part_more value there v path part at child =
    value_at-append value path (part ∷ []) ∙ ap (option_and_then (λ e. value_at e (part ∷ []))) at ∙ ap (option_and_then (λ e. Some e)) child

-- ---- the base

-- the state after one part more
abbrev Past : Draft → List ℕ → Data → List Part → Part → Along → Type 0
Past draft start value path part next = IsBaseAlong draft start value (path ++ part ∷ []) next

stays_there : (draft : Draft) (start : List ℕ) (value there : Data) (path : List Part) (part : Part) (along next : Along) → IsBaseAlong draft start value path along → value_at value (path ++ part ∷ []) ≡ Some there
    → Stays draft along.base (along.since ++ part ∷ []) there → record { base = along.base; since = along.since ++ part ∷ [] } ≡ next → Past draft start value path part next
stays_there draft start value there path part along next before at stays is = subst (Past draft start value path part) is (stayed path part along before (record { there = there; is_there = at; stays = stays }))

pub same_base : (along : Along) → moved along along.base ≡ along
same_base along = ap (λ b. cond b along (record { base = along.base; since = [] })) ((bytes_eq-Decides along.base along.base).1 refl)

by_uri : (draft : Draft) (start : List ℕ) (value there : Data) (path : List Part) (part : Part) (along next : Along) (id uri : List ℕ) (b : Bool) → IsBaseAlong draft start value path along → value_at value (path ++ part ∷ []) ≡ Some there
    → IsAccepted draft (along.since ++ part ∷ []) there → identifier draft there ≡ Some id → uri_against along.base id ≡ Ok uri → bytes_eq uri along.base ≡ b
    → cond b (record { base = along.base; since = along.since ++ part ∷ [] }) (record { base = uri; since = [] }) ≡ next → Past draft start value path part next
by_uri draft start value there path part along next id uri true before at ok has means b is =
    stays_there draft start value there path part along next before at
    (λ other yes other_is. let same : other ≡ id = cc in ap (uri_against along.base) same ∙ means ∙ ap (λ u. Ok u) ((bytes_eq-Decides uri along.base).0 b)) is
by_uri draft start value there path part along next id uri false before at ok has means b is =
    subst (Past draft start value path part) is
    (changed path part along uri before
    (record {
      there = there;
      is_there = at;
      change = record { accepted = ok; id = id; is = has; means = means; another = λ same. true≢false (sym ((bytes_eq-Decides uri along.base).1 same) ∙ b) };
    }))

by_identifier : (draft : Draft) (start : List ℕ) (value there : Data) (path : List Part) (part : Part) (along next : Along) (id : Option (List ℕ)) (b : Bool) → IsBaseAlong draft start value path along → value_at value (path ++ part ∷ []) ≡ Some there
    → scan draft (is_object there) (along.since ++ part ∷ []) ≡ b → identifier draft there ≡ id
    → (base_within along.base (cond b id None) >>= λ uri. Ok (moved (record { base = along.base; since = along.since ++ part ∷ [] }) uri)) ≡ Ok next → Past draft start value path part next
by_identifier draft start value there path part along next id false before at scanned has is =
    let state : Along = record { base = along.base; since = along.since ++ part ∷ [] } in
    let same : moved state along.base ≡ next = cc in
    stays_there draft start value there path part along next before at
    (λ other yes other_is. absurd (refused draft there (along.since ++ part ∷ []) scanned yes)) (sym (same_base state) ∙ same)
by_identifier draft start value there path part along next None true before at scanned has is =
    let state : Along = record { base = along.base; since = along.since ++ part ∷ [] } in
    let same : moved state along.base ≡ next = cc in
    stays_there draft start value there path part along next before at
    (λ other yes other_is. absurd (let e : None ≡ Some other = sym has ∙ other_is in cc)) (sym (same_base state) ∙ same)
by_identifier draft start value there path part along next (Some id) true before at scanned has is =
    let state : Along = record { base = along.base; since = along.since ++ part ∷ [] } in
    let leads = first_answers (uri_against along.base id) (λ uri. Ok (moved state uri)) next is in
    let same : moved state leads.0 ≡ next = cc in
    by_uri draft start value there path part along next id leads.0 (bytes_eq leads.0 along.base) before at (accepted draft there (along.since ++ part ∷ []) scanned) has leads.1 refl same

pub one_part : (draft : Draft) (start : List ℕ) (value there : Data) (path : List Part) (part : Part) (along next : Along) → IsBaseAlong draft start value path along → value_at value (path ++ part ∷ []) ≡ Some there
    → along_part draft along part there ≡ Ok next → Past draft start value path part next
one_part draft start value there path part along next before at is =
    by_identifier draft start value there path part along next (identifier draft there) (scan draft (is_object there) (along.since ++ part ∷ [])) before at refl refl is

walk_leads : (draft : Draft) (pointer start : List ℕ) (value v found : Data) (path : List Part) (along end : Along) (ts : List (List ℕ)) → IsBaseAlong draft start value path along → value_at value path ≡ Some v
    → walked_along draft pointer along v ts ≡ Ok (found, end) → LeadsAlong draft start value found end
walk_leads draft pointer start value v found path along end [] before at is =
    let whole : Ok (v, along) ≡ Ok (found, end) = is in
    let both : (v, along) ≡ (found, end) = cc in
    record { path = path; there = at ∙ ap (λ (p : Data × Along). Some p.0) both; bases = subst (λ (p : Data × Along). IsBaseAlong draft start value path p.1) both before }
walk_leads draft pointer start value v found path along end (t ∷ ts) before at is =
    let step = first_answers (step_into pointer v t) (λ s. as_invalid_uri (along_part draft along s.0 s.1) >>= λ next. walked_along draft pointer next s.1 ts) (found, end) is in
    let base = first_answers (as_invalid_uri (along_part draft along step.0.0 step.0.1)) (λ next. walked_along draft pointer next step.0.1 ts) (found, end) step.2 in
    let there = part_more value step.0.1 v path step.0.0 at (step_leads pointer v t step.0 step.1) in
    walk_leads draft pointer start value step.0.1 found (path ++ step.0.0 ∷ []) base.0 end ts
    (one_part draft start value step.0.1 path step.0.0 along base.0 before there (uri_answers (along_part draft along step.0.0 step.0.1) base.0 base.1)) there base.2

decoded : (b : Bool) (draft : Draft) (pointer start : List ℕ) (value found : Data) (end : Along) (ts : List (List ℕ))
    → cond b (walked_along draft pointer (record { base = start; since = [] }) value ts) (Err (InvalidPercentEncoding pointer)) ≡ Ok (found, end) → LeadsAlong draft start value found end
decoded true draft pointer start value found end ts is = walk_leads draft pointer start value value found [] (record { base = start; since = [] }) end ts begun refl is
decoded false draft pointer start value found end ts is = absurd (cc)

pub pointer_leads : (draft : Draft) (pointer start text : List ℕ) (value found : Data) (end : Along) → pointed_value draft pointer start value text ≡ Ok (found, end) → LeadsAlong draft start value found end
pointer_leads draft pointer start text value found end is =
    decoded (is_utf8 (percent_decode text)) draft pointer start value found end (tokens (percent_decode text)) is
