-- The tokens of a path lead from a resource to the places below it, with their bases.
use Rattle.std.proofs.Common.{◌≡◌, ◌≢◌, ℕ, Bool, true, false, cond, List, [], ◌∷◌, ◌++◌, map, Option, Some, None, option_and_then, Ok, ◌⊎◌, inl, inr, refl, sym, ap, subst, ◌∙◌, append_assoc, bytes_eq}
use Rattle.std.proofs.lemmas.List.{append-nil}
use Rattle.std.proofs.lemmas.Slice.Eq.{bytes_eq-Decides}
use Rattle.serde_json.specs.Data.{Data, null, boolean, number, string, array, object}
use Rattle.ref_paths.specs.Path.{Part, Key, Index, child_at, value_at, HasFittingIndexes}
use Rattle.ref_parts.specs.Pointer.{part_text}
use Rattle.ref_draft.specs.declared.draft.Draft.{Draft}
use Rattle.ref_draft.specs.Keywords.{id_keyword}
use Rattle.ref_draft.specs.Schema.{identifier, text_under}
use Rattle.ref_draft.specs.Children.{is_object}
use Rattle.ref_draft.specs.Scan.{IsAccepted}
use Rattle.ref_draft.specs.ScanSteps.{scan}
use Rattle.ref_draft.specs.Beginnings.{is_array}
use Rattle.ref_draft.proofs.Scanning.{scan_accepts, accepted}
use Rattle.ref_definitions.specs.Results.{◌>>=◌}
use Rattle.ref_definitions.specs.Places.{base_within}
use Rattle.ref_definitions.specs.Bases.{Along, changed_base, along_part}
use Rattle.ref_definitions.specs.Pointers.{walked_along}
use Rattle.ref_definitions.proofs.Changes.{value_at-append, same_base}
use Rattle.ref_definitions.proofs.Steps.{walk_part}

-- ---- values without an identifier

pub none_of_array : (draft : Draft) (value : Data) → is_array value ≡ true → identifier draft value ≡ None
none_of_array draft null is = absurd (cc)
none_of_array draft (boolean b) is = absurd (cc)
none_of_array draft (number n) is = absurd (cc)
none_of_array draft (string s) is = absurd (cc)
none_of_array draft (array ds) is = refl
none_of_array draft (object ms) is = absurd (cc)

pub none_of_text : (draft : Draft) (value : Data) → text_under (id_keyword draft) value ≡ None → identifier draft value ≡ None
none_of_text draft value none = rw none refl

none_of_other : (draft : Draft) (value : Data) → is_object value ≡ false → identifier draft value ≡ None
none_of_other draft null is = refl
none_of_other draft (boolean b) is = refl
none_of_other draft (number n) is = refl
none_of_other draft (string s) is = refl
none_of_other draft (array ds) is = refl
none_of_other draft (object ms) is = absurd (cc)

-- ---- the base along one child's path

-- an identifier doesn't count at the value
abbrev pub Quiet : Draft → List Part → Data → Type 0
Quiet draft since value = (scan draft (is_object value) since ≡ false) ⊎ (identifier draft value ≡ None)

counts_not : (draft : Draft) (since : List Part) (value : Data) → Quiet draft since value → cond (scan draft (is_object value) since) (identifier draft value) None ≡ None
counts_not draft since value (inl refused) = ap (λ b. cond b (identifier draft value) None) refused
counts_not draft since value (inr none) = ap (λ id. cond (scan draft (is_object value) since) id None) none ∙ both (scan draft (is_object value) since) None
  where
    both : (b : Bool) (id : Option (List ℕ)) → cond b id id ≡ id
    both true id = refl
    both false id = refl

pub quiet_part : (draft : Draft) (along : Along) (part : Part) (value : Data) → Quiet draft (along.since ++ part ∷ []) value → along_part draft along part value ≡ Ok (record { base = along.base; since = along.since ++ part ∷ [] })
quiet_part draft along part value quiet =
    let state : Along = record { base = along.base; since = along.since ++ part ∷ [] } in
    ap (λ id. base_within along.base id >>= λ uri. Ok (changed_base state uri)) (counts_not draft (along.since ++ part ∷ []) value quiet) ∙ ap (λ a. Ok a) (same_base state)

-- after the last part: the base of the value, and parts that are accepted there
record Arrives (draft : Draft) (along : Along) (part : Part) (value : Data) (uri : List ℕ) : Type 0 where
  next : Along
  is : along_part draft along part value ≡ Ok next
  base : next.base ≡ uri
  accepts : is_object value ≡ true → IsAccepted draft next.since value

all_count : (draft : Draft) (since : List Part) (value : Data) (b : Bool) → is_object value ≡ b → (is_object value ≡ true → IsAccepted draft since value)
    → cond (scan draft (is_object value) since) (identifier draft value) None ≡ identifier draft value
all_count draft since value true is ok =
    ap (λ b. cond b (identifier draft value) None) ((scan_accepts draft value since).1 (ok is))
all_count draft since value false is ok =
    let none = none_of_other draft value is in
    counts_not draft since value (inr none) ∙ sym none

pub start_accepted : (draft : Draft) (value : Data) → IsAccepted draft [] value
start_accepted draft value = accepted draft value [] refl

state_at : (draft : Draft) (state : Along) (value : Data) (uri : List ℕ) (b : Bool) → bytes_eq uri state.base ≡ b → (is_object value ≡ true → IsAccepted draft state.since value)
    → ((changed_base state uri).base ≡ uri) × (is_object value ≡ true → IsAccepted draft (changed_base state uri).since value)
state_at draft state value uri true same ok =
    let stays : state ≡ changed_base state uri = sym (ap (λ b. cond b state (record { base = uri; since = [] })) same) in
    subst (λ (a : Along). (a.base ≡ uri) × (is_object value ≡ true → IsAccepted draft a.since value)) stays (sym ((bytes_eq-Decides uri state.base).0 same), ok)
state_at draft state value uri false same ok =
    let moves : record { base = uri; since = [] } ≡ changed_base state uri = sym (ap (λ b. cond b state (record { base = uri; since = [] })) same) in
    subst (λ (a : Along). (a.base ≡ uri) × (is_object value ≡ true → IsAccepted draft a.since value)) moves (refl, λ is. start_accepted draft value)

arrive : (draft : Draft) (along : Along) (part : Part) (value : Data) (uri : List ℕ) → (is_object value ≡ true → IsAccepted draft (along.since ++ part ∷ []) value)
    → base_within along.base (identifier draft value) ≡ Ok uri → Arrives draft along part value uri
arrive draft along part value uri ok means =
    let state : Along = record { base = along.base; since = along.since ++ part ∷ [] } in
    let there = state_at draft state value uri (bytes_eq uri state.base) refl ok in
    record {
      next = changed_base state uri;
      is = ap (λ id. base_within along.base id >>= λ u. Ok (changed_base state u)) (all_count draft (along.since ++ part ∷ []) value (is_object value) refl ok) ∙ ap (λ r. r >>= λ u. Ok (changed_base state u)) means;
      base = there.0;
      accepts = there.1;
    }

-- what is between a value and its child has no identifier that counts
abbrev pub QuietWithin : Draft → List Part → Data → List Part → Type 0
QuietWithin draft since value path =
    (beginning rest : List Part) → path ≡ beginning ++ rest → beginning ≢ [] → rest ≢ []
    → (within : Data) × (value_at value beginning ≡ Some within) × Quiet draft (since ++ beginning) within

-- the tokens of a path lead on to a value, with its base
pub record Leads (draft : Draft) (pointer : List ℕ) (along : Along) (here : Data) (path : List Part) (value : Data) (uri : List ℕ) : Type 0 where
  pub next : Along
  pub is : (tokens : List (List ℕ)) → walked_along draft pointer along here (map part_text path ++ tokens) ≡ walked_along draft pointer next value tokens
  pub base : next.base ≡ uri
  pub accepts : is_object value ≡ true → IsAccepted draft next.since value

pub some_of : (o : Option Data) (v : Data) → option_and_then (λ e. Some e) o ≡ Some v → o ≡ Some v
some_of None v is = absurd (cc)
some_of (Some e) v is = is

-- the value at one part more
pub child_there : (value here v : Data) (path : List Part) (part : Part) → value_at value path ≡ Some here → value_at value (path ++ part ∷ []) ≡ Some v → child_at here part ≡ Some v
child_there value here v path part at more =
    some_of (child_at here part) v (sym (ap (option_and_then (λ e. value_at e (part ∷ []))) at) ∙ sym (value_at-append value path (part ∷ [])) ∙ more)

not_empty : (path rest : List Part) (part : Part) → path ++ part ∷ rest ≢ []
not_empty [] rest part same = cc
not_empty (x ∷ path) rest part same = cc

pub lead : (draft : Draft) (pointer base : List ℕ) (value v here : Data) (since begun : List Part) (part : Part) (rest : List Part) (uri : List ℕ)
    → HasFittingIndexes (part ∷ rest) → value_at value begun ≡ Some here → value_at value (begun ++ part ∷ rest) ≡ Some v
    → QuietWithin draft since value (begun ++ part ∷ rest)
    → (is_object v ≡ true → IsAccepted draft (since ++ (begun ++ part ∷ rest)) v) → base_within base (identifier draft v) ≡ Ok uri
    → Leads draft pointer (record { base = base; since = since ++ begun }) here (part ∷ rest) v uri
lead draft pointer base value v here since begun part [] uri fits at end quiet ok means =
    let along : Along = record { base = base; since = since ++ begun } in
    let there = arrive draft along part v uri (λ is. subst (λ s. IsAccepted draft s v) (sym (append_assoc since begun (part ∷ []))) (ok is)) means in
    record {
      next = there.next;
      is = λ tokens. walk_part draft pointer along there.next here v part [] tokens fits (child_there value here v begun part at end) there.is;
      base = there.base;
      accepts = there.accepts;
    }
lead draft pointer base value v here since begun part (more ∷ rest) uri fits at end quiet ok means =
    let along : Along = record { base = base; since = since ++ begun } in
    let longer = begun ++ part ∷ [] in
    let same : longer ++ more ∷ rest ≡ begun ++ part ∷ more ∷ rest = append_assoc begun (part ∷ []) (more ∷ rest) in
    let within = quiet longer (more ∷ rest) (sym same) (not_empty begun [] part) (not_empty [] rest more) in
    let assoc : (since ++ begun) ++ part ∷ [] ≡ since ++ longer = append_assoc since begun (part ∷ []) in
    let still = quiet_part draft along part within.0 (subst (λ s. Quiet draft s within.0) (sym assoc) within.2) in
    let next : Along = record { base = base; since = since ++ longer } in
    let step : along_part draft along part within.0 ≡ Ok next = still ∙ ap (λ s. Ok (record { base = base; since = s })) assoc in
    let further = lead draft pointer base value v within.0 since longer more rest uri (fits_after part (more ∷ rest) fits) within.1
    (subst (λ p. value_at value p ≡ Some v) (sym same) end)
    (subst (QuietWithin draft since value) (sym same) quiet)
    (λ is. subst (λ p. IsAccepted draft (since ++ p) v) (sym same) (ok is)) means in
    record {
      next = further.next;
      is = λ tokens. walk_part draft pointer along next here within.0 part (more ∷ rest) (map part_text (more ∷ rest) ++ tokens) fits (child_there value here within.0 begun part at within.1) step ∙ further.is tokens;
      base = further.base;
      accepts = further.accepts;
    }
  where
    fits_after : (x : Part) (xs : List Part) → HasFittingIndexes (x ∷ xs) → HasFittingIndexes xs
    fits_after (Key k) xs f = f
    fits_after (Index i) xs f = f.1

-- from where the base is known
pub lead_from : (draft : Draft) (pointer : List ℕ) (along : Along) (value v : Data) (path : List Part) (part : Part) (rest : List Part) (uri : List ℕ) → path ≡ part ∷ rest
    → HasFittingIndexes path → value_at value path ≡ Some v → QuietWithin draft along.since value path
    → (is_object v ≡ true → IsAccepted draft (along.since ++ path) v) → base_within along.base (identifier draft v) ≡ Ok uri
    → Leads draft pointer along value path v uri
lead_from draft pointer along value v path part rest uri is =
    subst (λ p. HasFittingIndexes p → value_at value p ≡ Some v → QuietWithin draft along.since value p → (is_object v ≡ true → IsAccepted draft (along.since ++ p) v) → base_within along.base (identifier draft v) ≡ Ok uri → Leads draft pointer along value p v uri) (sym is)
    (λ fits there quiet ok means. subst (λ s. Leads draft pointer (record { base = along.base; since = s }) value (part ∷ rest) v uri) (append-nil along.since)
    (lead draft pointer along.base value v value along.since [] part rest uri fits refl there quiet ok means))
