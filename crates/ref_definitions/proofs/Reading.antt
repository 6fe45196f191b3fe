-- What a pointer's tokens are read as, and the first fault along them, are what the walk returns.
--
-- 1. One step: `step_into` returns a part exactly where the token is read as it (`step_reads`, `reads_step`), and else the token's fault.
-- 2. The base at a step is the one that a change of the base defines, or the fault of its identifier (`changes_part`, `base_faults`).
-- 3. By induction over the tokens, from any place on: a walk that ends has read its tokens as a path (`walk_reads`), and one that fails
--    does so at the first faulty token (`walk_faults`).
-- 4. Back: tokens that are read as a path are walked to its end (`walks_to`), and a path is the only one (`one_path`).
-- 5. The pointer's text: percent-decoding comes first, so all of this holds of `pointed_value` (`reads_path`, `first_fault`, `fault_only`).
use Rattle.std.proofs.Common.{◌≡◌, ℕ, Bool, true, false, cond, List, [], ◌∷◌, ◌++◌, Option, Some, None, option_and_then, IsTrue, IsFalse, Result, Ok, Err, ◌⊎◌, inl, inr, ⊎_elim, refl, sym, ap, subst, ◌∙◌, true≢false, append_assoc, bytes_eq}
use Rattle.std.specs.Option.{ok_or}
use Rattle.std.specs.Str.{is_utf8}
use Rattle.std.proofs.lemmas.List.{append-nil}
use Rattle.std.proofs.lemmas.Slice.Eq.{bytes_eq-Decides}
use Rattle.percent_encoding.specs.Percent.{percent_decode}
use Rattle.serde_json.specs.Data.{Data, null, boolean, number, string, array, object, Items}
use Rattle.serde_json.specs.Find.{get_item, get_member}
use Rattle.ref_paths.specs.Path.{Part, Key, Index, child_at, value_at}
use Rattle.ref_parts.specs.Pointer.{unescape, tokens}
use Rattle.ref_draft.specs.declared.draft.Draft.{Draft}
use Rattle.ref_draft.specs.Schema.{identifier}
use Rattle.ref_draft.specs.Children.{is_object}
use Rattle.ref_draft.specs.Beginnings.{is_array}
use Rattle.ref_draft.specs.Scan.{IsAccepted}
use Rattle.ref_draft.specs.ScanSteps.{scan}
use Rattle.ref_draft.proofs.Scanning.{scan_accepts, accepted}
use Rattle.ref_uri.specs.Targets.{Refusal, uri_against}
use Rattle.ref_definitions.specs.Results.{◌>>=◌}
use Rattle.ref_definitions.specs.Fault.{Fault, PointerToNowhere, InvalidPercentEncoding, InvalidArrayIndex, InvalidUri, as_invalid_uri}
use Rattle.ref_definitions.specs.Places.{base_within}
use Rattle.ref_definitions.specs.Bases.{Along, changed_base as moved, along_part}
use Rattle.ref_definitions.specs.Pointers.{index_of, step_into, walked_along, pointed_value}
use Rattle.ref_definitions.specs.Changes.{IsChange, Stays, IsBaseAlong, begun, stayed, changed}
use Rattle.ref_definitions.specs.Reading.{IsReadAsPart, IsReadAs, IsFaultAt, no_index, nothing_there, no_parts, no_base, IsFaultAlong}
use Rattle.ref_definitions.proofs.Changes.{first_answers, uri_answers, step_reads_and_leads, step_leads, part_more, one_part, same_base}
use Rattle.ref_definitions.proofs.Agreement.{quiet_part, child_there}

-- ---- one step

-- the step to what may be at a part, and to an element at what may be its index
abbrev to_child : List ℕ → Part → Option Data → Result (Part × Data) Fault
to_child pointer part o = ok_or o (PointerToNowhere pointer) >>= λ d. Ok (part, d)

abbrev to_element : List ℕ → Items → List ℕ → Option ℕ → Result (Part × Data) Fault
to_element pointer ds token o = ok_or o (InvalidArrayIndex pointer token) >>= λ i. to_child pointer (Index i) (get_item i ds)

-- a step reads its token as its part
step_reads : (pointer : List ℕ) (value : Data) (token : List ℕ) (s : Part × Data) → step_into pointer value token ≡ Ok s → IsReadAsPart value token s.0
step_reads pointer value token s is = (step_reads_and_leads pointer value token s is).0

-- a token is read as a part of an array or of an object alone
has_no_parts : (value : Data) (token : List ℕ) (part : Part) → IsFalse (is_array value) → IsFalse (is_object value) → IsReadAsPart value token part → ⊥
has_no_parts value token (Key k) no_array no_object reads = true≢false (sym reads.0 ∙ no_object)
has_no_parts value token (Index i) no_array no_object reads = true≢false (sym reads.0 ∙ no_array)

-- and a token that is read as a part steps to what may be there
step_is : (pointer : List ℕ) (value : Data) (token : List ℕ) (part : Part) → IsReadAsPart value token part → step_into pointer value token ≡ to_child pointer part (child_at value part)
step_is pointer null token part reads = absurd (has_no_parts null token part refl refl reads)
step_is pointer (boolean b) token part reads = absurd (has_no_parts (boolean b) token part refl refl reads)
step_is pointer (number n) token part reads = absurd (has_no_parts (number n) token part refl refl reads)
step_is pointer (string s) token part reads = absurd (has_no_parts (string s) token part refl refl reads)
step_is pointer (array ds) token (Key k) reads = absurd (cc)
step_is pointer (array ds) token (Index i) reads = ap (to_element pointer ds token) reads.1
step_is pointer (object ms) token (Key k) reads = ap (λ key. to_child pointer (Key key) (get_member key ms)) reads.1
step_is pointer (object ms) token (Index i) reads = absurd (cc)

reads_step : (pointer : List ℕ) (value : Data) (token : List ℕ) (part : Part) (there : Data) → IsReadAsPart value token part → child_at value part ≡ Some there → step_into pointer value token ≡ Ok (part, there)
reads_step pointer value token part there reads at = step_is pointer value token part reads ∙ ap (to_child pointer part) at

-- ---- faults of a step

-- an error in turn is that of the first, or of what follows an answer
which_fault : {E A B : Type 0} (r : Result A E) (f : A → Result B E) (e : E) → (r >>= f) ≡ Err e → (r ≡ Err e) ⊎ ((x : A) × (r ≡ Ok x) × (f x ≡ Err e))
which_fault (Ok x) f e is = inr (x, refl, is)
which_fault (Err d) f e is = inl (let same : d ≡ e = cc in ap (λ z. Err z) same)

child_faults : (draft : Draft) (pointer : List ℕ) (along : Along) (value : Data) (token : List ℕ) (part : Part) (fault : Fault) (o : Option Data) → IsReadAsPart value token part → child_at value part ≡ o
    → to_child pointer part o ≡ Err fault → IsFaultAt draft pointer along value token fault
child_faults draft pointer along value token part fault (Some d) reads at is = absurd (cc)
child_faults draft pointer along value token part fault None reads at is =
    let same : PointerToNowhere pointer ≡ fault = cc in
    subst (IsFaultAt draft pointer along value token) same (nothing_there part reads at)

element_faults : (draft : Draft) (pointer : List ℕ) (along : Along) (ds : Items) (token : List ℕ) (fault : Fault) (o : Option ℕ) → index_of token ≡ o
    → to_element pointer ds token o ≡ Err fault → IsFaultAt draft pointer along (array ds) token fault
element_faults draft pointer along ds token fault None index is =
    let same : InvalidArrayIndex pointer token ≡ fault = cc in
    subst (IsFaultAt draft pointer along (array ds) token) same (no_index refl index)
element_faults draft pointer along ds token fault (Some i) index is = child_faults draft pointer along (array ds) token (Index i) fault (get_item i ds) (refl, index) refl is

-- a step's fault is its token's
step_faults : (draft : Draft) (pointer : List ℕ) (along : Along) (value : Data) (token : List ℕ) (fault : Fault) → step_into pointer value token ≡ Err fault → IsFaultAt draft pointer along value token fault
step_faults draft pointer along null token fault is = let same : PointerToNowhere pointer ≡ fault = cc in subst (IsFaultAt draft pointer along null token) same (no_parts refl refl)
step_faults draft pointer along (boolean b) token fault is = let same : PointerToNowhere pointer ≡ fault = cc in subst (IsFaultAt draft pointer along (boolean b) token) same (no_parts refl refl)
step_faults draft pointer along (number n) token fault is = let same : PointerToNowhere pointer ≡ fault = cc in subst (IsFaultAt draft pointer along (number n) token) same (no_parts refl refl)
step_faults draft pointer along (string s) token fault is = let same : PointerToNowhere pointer ≡ fault = cc in subst (IsFaultAt draft pointer along (string s) token) same (no_parts refl refl)
step_faults draft pointer along (array ds) token fault is = element_faults draft pointer along ds token fault (index_of token) refl is
step_faults draft pointer along (object ms) token fault is = child_faults draft pointer along (object ms) token (Key (unescape token)) fault (get_member (unescape token) ms) (refl, refl) refl is

index_fault : (pointer : List ℕ) (value : Data) (token : List ℕ) → IsTrue (is_array value) → index_of token ≡ None → step_into pointer value token ≡ Err (InvalidArrayIndex pointer token)
index_fault pointer null token is none = absurd (cc)
index_fault pointer (boolean b) token is none = absurd (cc)
index_fault pointer (number n) token is none = absurd (cc)
index_fault pointer (string s) token is none = absurd (cc)
index_fault pointer (object ms) token is none = absurd (cc)
index_fault pointer (array ds) token is none =
    ap (to_element pointer ds token) none

nowhere_fault : (pointer : List ℕ) (value : Data) (token : List ℕ) (part : Part) → IsReadAsPart value token part → child_at value part ≡ None → step_into pointer value token ≡ Err (PointerToNowhere pointer)
nowhere_fault pointer value token part reads at = step_is pointer value token part reads ∙ ap (to_child pointer part) at

parts_fault : (pointer : List ℕ) (value : Data) (token : List ℕ) → IsFalse (is_array value) → IsFalse (is_object value) → step_into pointer value token ≡ Err (PointerToNowhere pointer)
parts_fault pointer null token neither nor = refl
parts_fault pointer (boolean b) token neither nor = refl
parts_fault pointer (number n) token neither nor = refl
parts_fault pointer (string s) token neither nor = refl
parts_fault pointer (array ds) token neither nor = absurd (cc)
parts_fault pointer (object ms) token neither nor = absurd (cc)

-- ---- the base at a step

-- an identifier that counts decides
by_identifier : (draft : Draft) (along : Along) (part : Part) (there : Data) (id : List ℕ) → IsAccepted draft (along.since ++ part ∷ []) there → identifier draft there ≡ Some id
    → along_part draft along part there ≡ (uri_against along.base id >>= λ uri. Ok (moved (record { base = along.base; since = along.since ++ part ∷ [] }) uri))
by_identifier draft along part there id ok has =
    let state : Along = record { base = along.base; since = along.since ++ part ∷ [] } in
    ap (λ b. base_within along.base (cond b (identifier draft there) None) >>= λ uri. Ok (moved state uri)) ((scan_accepts draft there (along.since ++ part ∷ [])).1 ok)
    ∙ ap (λ o. base_within along.base o >>= λ uri. Ok (moved state uri)) has

stays_part : (draft : Draft) (along : Along) (part : Part) (there : Data) (b : Bool) (id : Option (List ℕ)) → scan draft (is_object there) (along.since ++ part ∷ []) ≡ b → identifier draft there ≡ id
    → Stays draft along.base (along.since ++ part ∷ []) there → along_part draft along part there ≡ Ok (record { base = along.base; since = along.since ++ part ∷ [] })
stays_part draft along part there false id scanned has stays = quiet_part draft along part there (inl scanned)
stays_part draft along part there true None scanned has stays = quiet_part draft along part there (inr has)
stays_part draft along part there true (Some id) scanned has stays =
    let state : Along = record { base = along.base; since = along.since ++ part ∷ [] } in
    let ok = accepted draft there (along.since ++ part ∷ []) scanned in
    by_identifier draft along part there id ok has ∙ ap (λ r. r >>= λ uri. Ok (moved state uri)) (stays id ok has) ∙ ap (λ a. Ok a) (same_base state)

not_same : (u v : List ℕ) (b : Bool) → bytes_eq u v ≡ b → ¬ (u ≡ v) → b ≡ false
not_same u v true is other = absurd (other ((bytes_eq-Decides u v).0 is))
not_same u v false is other = refl

changes_part : (draft : Draft) (along : Along) (part : Part) (there : Data) (uri : List ℕ) → IsChange draft along.base (along.since ++ part ∷ []) there uri → along_part draft along part there ≡ Ok (record { base = uri; since = [] })
changes_part draft along part there uri change =
    let state : Along = record { base = along.base; since = along.since ++ part ∷ [] } in
    by_identifier draft along part there change.id change.accepted change.is
    ∙ ap (λ r. r >>= λ u. Ok (moved state u)) change.means
    ∙ ap (λ b. Ok (cond b state (record { base = uri; since = [] }))) (not_same uri along.base (bytes_eq uri along.base) refl change.another)

-- why a base doesn't come about
record Refused (draft : Draft) (along : Along) (part : Part) (there : Data) (refusal : Refusal) : Type 0 where
  id : List ℕ
  accepts : IsAccepted draft (along.since ++ part ∷ []) there
  has : identifier draft there ≡ Some id
  refuses : uri_against along.base id ≡ Err refusal

refused_part : (draft : Draft) (along : Along) (part : Part) (there : Data) (refusal : Refusal) (b : Bool) (id : Option (List ℕ)) → scan draft (is_object there) (along.since ++ part ∷ []) ≡ b → identifier draft there ≡ id
    → (base_within along.base (cond b id None) >>= λ uri. Ok (moved (record { base = along.base; since = along.since ++ part ∷ [] }) uri)) ≡ Err refusal → Refused draft along part there refusal
refused_part draft along part there refusal false id scanned has is = absurd (cc)
refused_part draft along part there refusal true None scanned has is = absurd (cc)
refused_part draft along part there refusal true (Some id) scanned has is =
    record { id = id; accepts = accepted draft there (along.since ++ part ∷ []) scanned; has = has; refuses = of_first (uri_against along.base id) is }
  where
    of_first : (r : Result (List ℕ) Refusal) → (r >>= λ uri. Ok (moved (record { base = along.base; since = along.since ++ part ∷ [] }) uri)) ≡ Err refusal → r ≡ Err refusal
    of_first (Ok u) same = absurd (cc)
    of_first (Err e) same = let one : e ≡ refusal = cc in ap (λ z. Err z) one

uri_refusal : {A : Type 0} (r : Result A Refusal) (fault : Fault) → as_invalid_uri r ≡ Err fault → (refusal : Refusal) × (r ≡ Err refusal) × (InvalidUri refusal ≡ fault)
uri_refusal (Ok x) fault is = absurd (cc)
uri_refusal (Err refusal) fault is = (refusal, refl, let same : InvalidUri refusal ≡ fault = cc in same)

base_faults : (draft : Draft) (pointer : List ℕ) (along : Along) (value : Data) (token : List ℕ) (part : Part) (there : Data) (fault : Fault) → IsReadAsPart value token part → child_at value part ≡ Some there
    → as_invalid_uri (along_part draft along part there) ≡ Err fault → IsFaultAt draft pointer along value token fault
base_faults draft pointer along value token part there fault reads at is =
    let refusal = uri_refusal (along_part draft along part there) fault is in
    let why = refused_part draft along part there refusal.0 (scan draft (is_object there) (along.since ++ part ∷ [])) (identifier draft there) refl refl refusal.1 in
    subst (IsFaultAt draft pointer along value token) refusal.2 (no_base part there why.id refusal.0 reads at why.accepts why.has why.refuses)

-- ---- a walk from a place of a value

-- the tokens left are read as a path on from there
record Reads (draft : Draft) (start : List ℕ) (value here found : Data) (path : List Part) (end : Along) (tokens : List (List ℕ)) : Type 0 where
  rest : List Part
  reads : IsReadAs here tokens rest
  is_at_path : value_at value (path ++ rest) ≡ Some found
  bases : IsBaseAlong draft start value (path ++ rest) end

reads_past : (draft : Draft) (start : List ℕ) (value here there found : Data) (path : List Part) (part : Part) (end : Along) (t : List ℕ) (ts : List (List ℕ)) → IsReadAsPart here t part → child_at here part ≡ Some there
    → Reads draft start value there found (path ++ part ∷ []) end ts → Reads draft start value here found path end (t ∷ ts)
reads_past draft start value here there found path part end t ts reads at more =
    let same : (path ++ part ∷ []) ++ more.rest ≡ path ++ part ∷ more.rest = append_assoc path (part ∷ []) more.rest in
    record {
      rest = part ∷ more.rest;
      reads = (reads, (there, at, more.reads));
      is_at_path = subst (λ p. value_at value p ≡ Some found) same more.is_at_path;
      bases = subst (λ p. IsBaseAlong draft start value p end) same more.bases;
    }

walk_reads : (draft : Draft) (pointer start : List ℕ) (value here found : Data) (path : List Part) (along end : Along) (ts : List (List ℕ)) → IsBaseAlong draft start value path along → value_at value path ≡ Some here
    → walked_along draft pointer along here ts ≡ Ok (found, end) → Reads draft start value here found path end ts
walk_reads draft pointer start value here found path along end [] before at is =
    let whole : Ok (here, along) ≡ Ok (found, end) = is in
    let both : (here, along) ≡ (found, end) = cc in
    let same = sym (append-nil path) in
    record {
      rest = [];
      reads = tt;
      is_at_path = subst (λ p. value_at value p ≡ Some found) same (at ∙ ap (λ (p : Data × Along). Some p.0) both);
      bases = subst (λ p. IsBaseAlong draft start value p end) same (subst (λ (p : Data × Along). IsBaseAlong draft start value path p.1) both before);
    }
walk_reads draft pointer start value here found path along end (t ∷ ts) before at is =
    let step = first_answers (step_into pointer here t) (λ s. as_invalid_uri (along_part draft along s.0 s.1) >>= λ next. walked_along draft pointer next s.1 ts) (found, end) is in
    let base = first_answers (as_invalid_uri (along_part draft along step.0.0 step.0.1)) (λ next. walked_along draft pointer next step.0.1 ts) (found, end) step.2 in
    let child = step_leads pointer here t step.0 step.1 in
    let there = part_more value step.0.1 here path step.0.0 at child in
    reads_past draft start value here step.0.1 found path step.0.0 end t ts (step_reads pointer here t step.0 step.1) child
    (walk_reads draft pointer start value step.0.1 found (path ++ step.0.0 ∷ []) base.0 end ts
    (one_part draft start value step.0.1 path step.0.0 along base.0 before there (uri_answers (along_part draft along step.0.0 step.0.1) base.0 base.1)) there base.2)

-- the first fault along the tokens left
record Faults (draft : Draft) (pointer start : List ℕ) (value here : Data) (path : List Part) (tokens : List (List ℕ)) (fault : Fault) : Type 0 where
  before : List (List ℕ)
  token : List ℕ
  after : List (List ℕ)
  are : tokens ≡ before ++ token ∷ after
  rest : List Part
  reads : IsReadAs here before rest
  there : Data
  is_at_path : value_at value (path ++ rest) ≡ Some there
  along : Along
  bases : IsBaseAlong draft start value (path ++ rest) along
  faulty : IsFaultAt draft pointer along there token fault

at_once : (draft : Draft) (pointer start : List ℕ) (value here : Data) (path : List Part) (along : Along) (t : List ℕ) (ts : List (List ℕ)) (fault : Fault) → IsBaseAlong draft start value path along → value_at value path ≡ Some here
    → IsFaultAt draft pointer along here t fault → Faults draft pointer start value here path (t ∷ ts) fault
at_once draft pointer start value here path along t ts fault base at faulty =
    let same = sym (append-nil path) in
    record {
      before = [];
      token = t;
      after = ts;
      are = refl;
      rest = [];
      reads = tt;
      there = here;
      is_at_path = subst (λ p. value_at value p ≡ Some here) same at;
      along = along;
      bases = subst (λ p. IsBaseAlong draft start value p along) same base;
      faulty = faulty;
    }

behind : (draft : Draft) (pointer start : List ℕ) (value here there : Data) (path : List Part) (part : Part) (t : List ℕ) (ts : List (List ℕ)) (fault : Fault) → IsReadAsPart here t part → child_at here part ≡ Some there
    → Faults draft pointer start value there (path ++ part ∷ []) ts fault → Faults draft pointer start value here path (t ∷ ts) fault
behind draft pointer start value here there path part t ts fault reads at more =
    let same : (path ++ part ∷ []) ++ more.rest ≡ path ++ part ∷ more.rest = append_assoc path (part ∷ []) more.rest in
    record {
      before = t ∷ more.before;
      token = more.token;
      after = more.after;
      are = ap (λ us. t ∷ us) more.are;
      rest = part ∷ more.rest;
      reads = (reads, (there, at, more.reads));
      there = more.there;
      is_at_path = subst (λ p. value_at value p ≡ Some more.there) same more.is_at_path;
      along = more.along;
      bases = subst (λ p. IsBaseAlong draft start value p more.along) same more.bases;
      faulty = more.faulty;
    }

past_step : (draft : Draft) (pointer start : List ℕ) (value here : Data) (path : List Part) (along : Along) (part : Part) (there : Data) (t : List ℕ) (ts : List (List ℕ)) (fault : Fault)
    → IsBaseAlong draft start value path along → value_at value path ≡ Some here → step_into pointer here t ≡ Ok (part, there)
    → (as_invalid_uri (along_part draft along part there) >>= λ next. walked_along draft pointer next there ts) ≡ Err fault
    → ((next : Along) → IsBaseAlong draft start value (path ++ part ∷ []) next → value_at value (path ++ part ∷ []) ≡ Some there
    → walked_along draft pointer next there ts ≡ Err fault → Faults draft pointer start value there (path ++ part ∷ []) ts fault)
    → Faults draft pointer start value here path (t ∷ ts) fault
past_step draft pointer start value here path along part there t ts fault before at stepped is on =
    let reads = step_reads pointer here t (part, there) stepped in
    let child = step_leads pointer here t (part, there) stepped in
    let is_at_path = part_more value there here path part at child in
    ⊎_elim
    (λ refused. at_once draft pointer start value here path along t ts fault before at (base_faults draft pointer along here t part there fault reads child refused))
    (λ base. behind draft pointer start value here there path part t ts fault reads child
    (on base.0 (one_part draft start value there path part along base.0 before is_at_path (uri_answers (along_part draft along part there) base.0 base.1)) is_at_path base.2))
    (which_fault (as_invalid_uri (along_part draft along part there)) (λ next. walked_along draft pointer next there ts) fault is)

walk_faults : (draft : Draft) (pointer start : List ℕ) (value here : Data) (path : List Part) (along : Along) (ts : List (List ℕ)) (fault : Fault) → IsBaseAlong draft start value path along → value_at value path ≡ Some here
    → walked_along draft pointer along here ts ≡ Err fault → Faults draft pointer start value here path ts fault
walk_faults draft pointer start value here path along [] fault before at is = absurd (cc)
walk_faults draft pointer start value here path along (t ∷ ts) fault before at is =
    ⊎_elim
    (λ stepped. at_once draft pointer start value here path along t ts fault before at (step_faults draft pointer along here t fault stepped))
    (λ step. past_step draft pointer start value here path along step.0.0 step.0.1 t ts fault before at step.1 step.2
    (λ next base there. walk_faults draft pointer start value step.0.1 (path ++ step.0.0 ∷ []) next ts fault base there))
    (which_fault (step_into pointer here t) (λ s. as_invalid_uri (along_part draft along s.0 s.1) >>= λ next. walked_along draft pointer next s.1 ts) fault is)

-- ---- and back

-- tokens that are read as a path with one part more end with one token more
record Ends (value : Data) (ts : List (List ℕ)) (path : List Part) (part : Part) : Type 0 where
  before : List (List ℕ)
  token : List ℕ
  are : ts ≡ before ++ token ∷ []
  reads : IsReadAs value before path
  here : Data
  is_at_path : value_at value path ≡ Some here
  last : IsReadAsPart here token part

ends_with : (value : Data) (ts : List (List ℕ)) (path : List Part) (part : Part) → IsReadAs value ts (path ++ part ∷ []) → Ends value ts path part
ends_with value [] [] part reads = absurd reads
ends_with value [] (x ∷ path) part reads = absurd reads
ends_with value (t ∷ []) [] part reads = record { before = []; token = t; are = refl; reads = tt; here = value; is_at_path = refl; last = reads.0 }
ends_with value (t ∷ u ∷ ts) [] part reads = absurd reads.1.2
ends_with value (t ∷ ts) (x ∷ path) part reads =
    let more = ends_with reads.1.0 ts path part reads.1.2 in
    record {
      before = t ∷ more.before;
      token = more.token;
      are = ap (λ us. t ∷ us) more.are;
      reads = (reads.0, (reads.1.0, reads.1.1, more.reads));
      here = more.here;
      is_at_path = ap (option_and_then (λ e. value_at e path)) reads.1.1 ∙ more.is_at_path;
      last = more.last;
    }

-- the walk to a path with its base, whatever tokens follow
abbrev Walks : Draft → List ℕ → List ℕ → Data → List Part → Along → Type 0
Walks draft pointer start value path along =
    (ts more : List (List ℕ)) (here : Data) → IsReadAs value ts path → value_at value path ≡ Some here
    → walked_along draft pointer (record { base = start; since = [] }) value (ts ++ more) ≡ walked_along draft pointer along here more

one_value : (a b : Data) (o : Option Data) → o ≡ Some a → o ≡ Some b → a ≡ b
one_value a b o is other = let same : Some a ≡ Some b = sym is ∙ other in cc

one_more : (draft : Draft) (pointer start : List ℕ) (value there : Data) (path : List Part) (part : Part) (along next : Along) → Walks draft pointer start value path along
    → value_at value (path ++ part ∷ []) ≡ Some there → along_part draft along part there ≡ Ok next
    → (ts more : List (List ℕ)) (found : Data) → IsReadAs value ts (path ++ part ∷ []) → value_at value (path ++ part ∷ []) ≡ Some found
    → walked_along draft pointer (record { base = start; since = [] }) value (ts ++ more) ≡ walked_along draft pointer next found more
one_more draft pointer start value there path part along next walks at is ts more found reads is_at_path =
    let ends = ends_with value ts path part reads in
    let child : child_at ends.here part ≡ Some there = child_there value ends.here there path part ends.is_at_path at in
    let same : there ≡ found = one_value there found (value_at value (path ++ part ∷ [])) at is_at_path in
    ap (λ us. walked_along draft pointer (record { base = start; since = [] }) value (us ++ more)) ends.are
    ∙ ap (walked_along draft pointer (record { base = start; since = [] }) value) (append_assoc ends.before (ends.token ∷ []) more)
    ∙ walks ends.before (ends.token ∷ more) ends.here ends.reads ends.is_at_path
    ∙ ap (λ r. r >>= λ s. as_invalid_uri (along_part draft along s.0 s.1) >>= λ n. walked_along draft pointer n s.1 more) (reads_step pointer ends.here ends.token part there ends.last child)
    ∙ ap (λ r. as_invalid_uri r >>= λ n. walked_along draft pointer n there more) is
    ∙ ap (λ v. walked_along draft pointer next v more) same

walks_to : (draft : Draft) (pointer start : List ℕ) (value : Data) (path : List Part) (along : Along) → IsBaseAlong draft start value path along
    → (ts more : List (List ℕ)) (here : Data) → IsReadAs value ts path → value_at value path ≡ Some here
    → walked_along draft pointer (record { base = start; since = [] }) value (ts ++ more) ≡ walked_along draft pointer along here more
walks_to draft pointer start value path along begun [] more here reads is_at_path = let same : value ≡ here = cc in ap (λ v. walked_along draft pointer (record { base = start; since = [] }) v more) same
walks_to draft pointer start value path along begun (t ∷ ts) more here reads is_at_path = absurd reads
walks_to draft pointer start value p a (stayed path part along before step) ts more here reads is_at_path =
    one_more draft pointer start value step.there path part along (record { base = along.base; since = along.since ++ part ∷ [] }) (walks_to draft pointer start value path along before) step.is_there
    (stays_part draft along part step.there (scan draft (is_object step.there) (along.since ++ part ∷ [])) (identifier draft step.there) refl refl step.stays) ts more here reads is_at_path
walks_to draft pointer start value p a (changed path part along uri before step) ts more here reads is_at_path =
    one_more draft pointer start value step.there path part along (record { base = uri; since = [] }) (walks_to draft pointer start value path along before) step.is_there
    (changes_part draft along part step.there uri step.change) ts more here reads is_at_path

faults_at : (draft : Draft) (pointer : List ℕ) (along : Along) (value : Data) (token : List ℕ) (ts : List (List ℕ)) (fault : Fault) → IsFaultAt draft pointer along value token fault → walked_along draft pointer along value (token ∷ ts) ≡ Err fault
faults_at draft pointer along value token ts fault (no_index is none) =
    ap (λ r. r >>= λ s. as_invalid_uri (along_part draft along s.0 s.1) >>= λ n. walked_along draft pointer n s.1 ts) (index_fault pointer value token is none)
faults_at draft pointer along value token ts fault (nothing_there part reads at) =
    ap (λ r. r >>= λ s. as_invalid_uri (along_part draft along s.0 s.1) >>= λ n. walked_along draft pointer n s.1 ts) (nowhere_fault pointer value token part reads at)
faults_at draft pointer along value token ts fault (no_parts neither nor) =
    ap (λ r. r >>= λ s. as_invalid_uri (along_part draft along s.0 s.1) >>= λ n. walked_along draft pointer n s.1 ts) (parts_fault pointer value token neither nor)
faults_at draft pointer along value token ts fault (no_base part there id refusal reads at ok has refuses) =
    ap (λ r. r >>= λ s. as_invalid_uri (along_part draft along s.0 s.1) >>= λ n. walked_along draft pointer n s.1 ts) (reads_step pointer value token part there reads at)
    ∙ ap (λ r. as_invalid_uri r >>= λ n. walked_along draft pointer n there ts)
    (by_identifier draft along part there id ok has ∙ ap (λ r. r >>= λ uri. Ok (moved (record { base = along.base; since = along.since ++ part ∷ [] }) uri)) refuses)

-- ---- what tokens are read as is one path

-- no value is an array and an object
not_both : (value : Data) → IsTrue (is_object value) → IsTrue (is_array value) → ⊥
not_both null is other = cc
not_both (boolean b) is other = cc
not_both (number n) is other = cc
not_both (string s) is other = cc
not_both (array ds) is other = cc
not_both (object ms) is other = cc

one_part_of : (value : Data) (token : List ℕ) (part other : Part) → IsReadAsPart value token part → IsReadAsPart value token other → part ≡ other
one_part_of value token (Key k) (Key m) reads again = ap (λ key. Key key) (sym reads.1 ∙ again.1)
one_part_of value token (Index i) (Index j) reads again = let same : Some i ≡ Some j = sym reads.1 ∙ again.1 in ap (λ n. Index n) (let e : i ≡ j = cc in e)
one_part_of value token (Key k) (Index j) reads again = absurd (not_both value reads.0 again.0)
one_part_of value token (Index i) (Key m) reads again = absurd (not_both value again.0 reads.0)

pub one_path : (value : Data) (ts : List (List ℕ)) (path other : List Part) → IsReadAs value ts path → IsReadAs value ts other → path ≡ other
one_path value [] [] [] reads again = refl
one_path value [] [] (y ∷ other) reads again = absurd again
one_path value [] (x ∷ path) other reads again = absurd reads
one_path value (t ∷ ts) [] other reads again = absurd reads
one_path value (t ∷ ts) (x ∷ path) [] reads again = absurd again
one_path value (t ∷ ts) (x ∷ path) (y ∷ other) reads again =
    let part = one_part_of value t x y reads.0 again.0 in
    let there = one_value reads.1.0 again.1.0 (child_at value y) (ap (child_at value) (sym part) ∙ reads.1.1) again.1.1 in
    ap (λ z. z ∷ path) part ∙ ap (λ rest. y ∷ rest) (one_path again.1.0 ts path other (subst (λ v. IsReadAs v ts path) there reads.1.2) again.1.2)

-- ---- the pointer's text

abbrev Start : List ℕ → Along
Start start = record { base = start; since = [] }

path_of : (b : Bool) (draft : Draft) (pointer start : List ℕ) (value found : Data) (along : Along) (ts : List (List ℕ))
    → cond b (walked_along draft pointer (Start start) value ts) (Err (InvalidPercentEncoding pointer)) ≡ Ok (found, along) → Reads draft start value value found [] along ts
path_of true draft pointer start value found along ts is = walk_reads draft pointer start value value found [] (Start start) along ts begun refl is
path_of false draft pointer start value found along ts is = absurd (cc)

pub reads_path : (draft : Draft) (pointer start text : List ℕ) (value found : Data) (along : Along) → pointed_value draft pointer start value text ≡ Ok (found, along)
    → (path : List Part) × IsReadAs value (tokens (percent_decode text)) path × (value_at value path ≡ Some found) × IsBaseAlong draft start value path along
reads_path draft pointer start text value found along is =
    let r = path_of (is_utf8 (percent_decode text)) draft pointer start value found along (tokens (percent_decode text)) is in
    (r.rest, r.reads, r.is_at_path, r.bases)

of_text : (draft : Draft) (pointer start text : List ℕ) (value : Data) → IsTrue (is_utf8 (percent_decode text))
    → pointed_value draft pointer start value text ≡ walked_along draft pointer (Start start) value (tokens (percent_decode text))
of_text draft pointer start text value utf8 =
    ap (λ b. cond b (walked_along draft pointer (Start start) value (tokens (percent_decode text))) (Err (InvalidPercentEncoding pointer))) utf8

pub no_text : (draft : Draft) (pointer start text : List ℕ) (value : Data) → IsFalse (is_utf8 (percent_decode text)) → pointed_value draft pointer start value text ≡ Err (InvalidPercentEncoding pointer)
no_text draft pointer start text value utf8 =
    ap (λ b. cond b (walked_along draft pointer (Start start) value (tokens (percent_decode text))) (Err (InvalidPercentEncoding pointer))) utf8

pub only_path : (draft : Draft) (pointer start text : List ℕ) (value found : Data) (path : List Part) (along : Along) → IsTrue (is_utf8 (percent_decode text)) → IsReadAs value (tokens (percent_decode text)) path
    → value_at value path ≡ Some found → IsBaseAlong draft start value path along → pointed_value draft pointer start value text ≡ Ok (found, along)
only_path draft pointer start text value found path along utf8 reads is_at_path bases =
    of_text draft pointer start text value utf8
    ∙ ap (walked_along draft pointer (Start start) value) (sym (append-nil (tokens (percent_decode text))))
    ∙ walks_to draft pointer start value path along bases (tokens (percent_decode text)) [] found reads is_at_path

pub first_fault : (draft : Draft) (pointer start text : List ℕ) (value : Data) (fault : Fault) → IsTrue (is_utf8 (percent_decode text)) → pointed_value draft pointer start value text ≡ Err fault
    → IsFaultAlong draft pointer start value (tokens (percent_decode text)) fault
first_fault draft pointer start text value fault utf8 is =
    let f = walk_faults draft pointer start value value [] (Start start) (tokens (percent_decode text)) fault begun refl (sym (of_text draft pointer start text value utf8) ∙ is) in
    record { before = f.before; token = f.token; after = f.after; are = f.are; path = f.rest; reads = f.reads; there = f.there; is_at_path = f.is_at_path; along = f.along; bases = f.bases; faulty = f.faulty }

pub fault_only : (draft : Draft) (pointer start text : List ℕ) (value : Data) (fault : Fault) → IsTrue (is_utf8 (percent_decode text)) → IsFaultAlong draft pointer start value (tokens (percent_decode text)) fault
    → pointed_value draft pointer start value text ≡ Err fault
fault_only draft pointer start text value fault utf8 f =
    of_text draft pointer start text value utf8
    ∙ ap (walked_along draft pointer (Start start) value) f.are
    ∙ walks_to draft pointer start value f.path f.along f.bases f.before (f.token ∷ f.after) f.there f.reads f.is_at_path
    ∙ faults_at draft pointer f.along f.there f.token f.after fault f.faulty
