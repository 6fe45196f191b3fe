-- The walk along a pointer, token by token, over plain values.
use Rattle.std.proofs.Common.{◌≡◌, ◌≢◌, ℕ, Bool, true, false, cond, List, [], ◌∷◌, ◌++◌, None, Result, Ok, Err, eqb, refl, sym, ap, ◌∙◌, All, IsUtf8, subst}
use Rattle.std.specs.Str.{bytes_eq}
use Rattle.std.proofs.lemmas.Bool.{ne_eqb}
use Rattle.std.proofs.lemmas.List.Splits.{slice_split_none, slice_split_at}
use Rattle.std.specs.Str.{is_utf8}
use Rattle.std.proofs.lemmas.Str.{IsUtf8-from_is_utf8, is_utf8-from_IsUtf8}
use Rattle.percent_encoding.specs.Percent.{percent_decode}
use Rattle.serde_json.specs.Data.{Data}
use Rattle.ref_paths.specs.Path.{Part}
use Rattle.ref_parts.specs.Pointer.{tokens}
use Rattle.ref_draft.specs.declared.draft.Draft.{Draft}
use Rattle.ref_draft.specs.Schema.{identifier}
use Rattle.ref_draft.specs.Children.{is_object}
use Rattle.ref_draft.specs.declared.reached.Reached.{Reached}
use Rattle.ref_draft.specs.declared.reached.Reached.TheVariants.{Schema}
use Rattle.ref_draft.specs.Reached.{HasReached, reached_after}
use Rattle.ref_draft.proofs.Reaching.{reached_on, reached_accepts}
use Rattle.ref_definitions.specs.Results.{◌>>=◌}
use Rattle.ref_definitions.specs.Places.{base_within}
use Rattle.ref_definitions.specs.Fault.{Fault, InvalidPercentEncoding, as_invalid_uri}
use Rattle.ref_uri.specs.Targets.{Refusal}
use Rattle.ref_definitions.specs.Bases.{Along, along_part}
use Rattle.ref_definitions.specs.Bases as bases
use Rattle.ref_definitions.specs.Pointers.{step_into, walked_along}
use Rattle.ref_error.specs.declared.error.Error.{Error}
use Rattle.ref_error.specs.Errors.{IsFaultOf, Gives}
use Rattle.ref_resolver.specs.inner.Walking.{Passed, accepted_id, stepped_into, changed_base, base_after, stepped_along, passed_along, leads_to, pointed_to}
use Rattle.ref_error.proofs.Saying.{fault_as}
use Rattle.ref_resolver.proofs.Faults.{fault_ends, goes_on, refused_after}

-- ---- one token further

-- a refused identifier
pub step_refused : (draft : Draft) (pointer : List ℕ) (passed : Passed) (value : Data) (token : List ℕ) (s : Reached × Data) (e : Error) → stepped_into draft pointer passed.reached value token ≡ Ok s
    → IsFaultOf (as_invalid_uri (base_within passed.base (accepted_id draft s.0 s.1))) e → IsFaultOf (stepped_along draft pointer passed value token) e
step_refused draft pointer passed value token s e is says =
    fault_as (as_invalid_uri (base_within passed.base (accepted_id draft s.0 s.1))) (stepped_along draft pointer passed value token) e
    (λ fault refused.
    ap (λ a. a >>= λ t. as_invalid_uri (base_after draft passed.base t) >>= λ next. Ok (t.1, next)) is
    ∙ ap (λ a. a >>= λ next. Ok (s.1, next)) (refused_after (base_within passed.base (accepted_id draft s.0 s.1)) (changed_base passed.base s.0) fault refused))
    says

-- ---- token by token

plain : (bs : List ℕ) → All (λ b. b ≢ 47) bs → All (λ b. eqb b 47 ≡ false) bs
plain bs none = λ i d within. ne_eqb _ 47 (none i d within)

pub walk_turn : (draft : Draft) (pointer : List ℕ) (passed : Passed) (value : Data) (text token more : List ℕ) → text ≡ token ++ (47 ∷ more) → All (λ b. b ≢ 47) token
    → passed_along draft pointer passed value (tokens text) ≡ (stepped_along draft pointer passed value token >>= λ s. passed_along draft pointer s.1 s.0 (tokens more))
walk_turn draft pointer passed value text token more cut none =
    ap (λ x. passed_along draft pointer passed value (tokens x)) cut ∙ ap (passed_along draft pointer passed value) (slice_split_at (λ b. eqb b 47) token 47 more (plain token none) refl)

-- a step that returns goes on from there
pub walk_goes : (draft : Draft) (pointer : List ℕ) (passed : Passed) (value : Data) (text token more : List ℕ) (at : Data × Passed) → (text ≡ token ++ (47 ∷ more)) × All (λ b. b ≢ 47) token
    → stepped_along draft pointer passed value token ≡ Ok at → passed_along draft pointer passed value (tokens text) ≡ passed_along draft pointer at.1 at.0 (tokens more)
walk_goes draft pointer passed value text token more at (cut, none) is =
    walk_turn draft pointer passed value text token more cut none ∙ goes_on (stepped_along draft pointer passed value token) (λ s. passed_along draft pointer s.1 s.0 (tokens more)) at is

-- and one that is refused ends it
pub walk_refused : (draft : Draft) (pointer : List ℕ) (passed : Passed) (value : Data) (text token more : List ℕ) (e : Error) → (text ≡ token ++ (47 ∷ more)) × All (λ b. b ≢ 47) token
    → IsFaultOf (stepped_along draft pointer passed value token) e → IsFaultOf (passed_along draft pointer passed value (tokens text)) e
walk_refused draft pointer passed value text token more e (cut, none) says =
    subst (λ a. IsFaultOf a e) (sym (walk_turn draft pointer passed value text token more cut none))
    (fault_ends (stepped_along draft pointer passed value token) (λ s. passed_along draft pointer s.1 s.0 (tokens more)) e says)

-- the tokens of a text, by its first `/`
pub tokens_turn : (text token more : List ℕ) → text ≡ token ++ (47 ∷ more) → All (λ b. b ≢ 47) token → tokens text ≡ token ∷ tokens more
tokens_turn text token more cut none = ap tokens cut ∙ slice_split_at (λ b. eqb b 47) token 47 more (plain token none) refl

pub tokens_last : (text : List ℕ) → All (λ b. b ≢ 47) text → tokens text ≡ text ∷ []
tokens_last text none = slice_split_none (λ b. eqb b 47) text (plain text none)

one_step : (answer : Result (Data × Passed) Fault) → (answer >>= λ s. Ok (s.0, s.1)) ≡ answer
one_step (Ok s) = refl
one_step (Err fault) = refl

pub walk_last : (draft : Draft) (pointer : List ℕ) (passed : Passed) (value : Data) (text : List ℕ) → All (λ b. b ≢ 47) text → passed_along draft pointer passed value (tokens text) ≡ stepped_along draft pointer passed value text
walk_last draft pointer passed value text none =
    ap (passed_along draft pointer passed value) (slice_split_none (λ b. eqb b 47) text (plain text none)) ∙ one_step (stepped_along draft pointer passed value text)

-- ---- the walk with what the parts lead to is that with the parts

-- the value and the base alone
abbrev pub with_parts : Result (Data × Along) Fault → Result (Data × List ℕ) Fault
with_parts answer = answer >>= λ at. Ok (at.0, at.1.base)

abbrev pub without_parts : Result (Data × Passed) Fault → Result (Data × List ℕ) Fault
without_parts answer = answer >>= λ at. Ok (at.0, at.1.base)

abbrev Same : Draft → List ℕ → List (List ℕ) → Type 0
Same draft pointer ts =
    (base : List ℕ) (since : List Part) (reached : Reached) (value : Data) → HasReached draft since reached
    → with_parts (walked_along draft pointer (record { base = base; since = since }) value ts) ≡ without_parts (passed_along draft pointer (record { base = base; reached = reached }) value ts)

abbrev parts_on : Draft → List ℕ → List (List ℕ) → Data → Along → Result (Data × List ℕ) Fault
parts_on draft pointer ts value along = with_parts (walked_along draft pointer along value ts)

abbrev on : Draft → List ℕ → List (List ℕ) → Data → Passed → Result (Data × List ℕ) Fault
on draft pointer ts value passed = without_parts (passed_along draft pointer passed value ts)

abbrev with_value : Data → Passed → Result (Data × Passed) Fault
with_value value passed = Ok (value, passed)

abbrev moved : Draft → Reached → Part × Data → Result (Reached × Data) Fault
moved draft reached s = Ok (reached_after draft reached s.0, s.1)

by_uri : (draft : Draft) (pointer : List ℕ) (ts : List (List ℕ)) → Same draft pointer ts → (base uri : List ℕ) (since : List Part) (reached : Reached) (value : Data) → HasReached draft since reached
    → (is : Bool)
    → parts_on draft pointer ts value (cond is (record { base = base; since = since }) (record { base = uri; since = [] })) ≡ on draft pointer ts value (cond is (record { base = base; reached = reached }) (record { base = uri; reached = Schema }))
by_uri draft pointer ts same base uri since reached value has true = same base since reached value has
by_uri draft pointer ts same base uri since reached value has false = same uri [] Schema value (λ object rest. refl)

by_base : (draft : Draft) (pointer : List ℕ) (ts : List (List ℕ)) → Same draft pointer ts → (base : List ℕ) (since : List Part) (reached : Reached) (value : Data) → HasReached draft since reached
    → (answer : Result (List ℕ) Refusal)
    → with_parts (as_invalid_uri (answer >>= λ uri. Ok (bases.changed_base (record { base = base; since = since }) uri)) >>= λ next. walked_along draft pointer next value ts)
    ≡ without_parts ((as_invalid_uri (answer >>= λ uri. Ok (changed_base base reached uri)) >>= with_value value) >>= λ s. passed_along draft pointer s.1 s.0 ts)
by_base draft pointer ts same base since reached value has (Ok uri) = by_uri draft pointer ts same base uri since reached value has (bytes_eq uri base)
by_base draft pointer ts same base since reached value has (Err refusal) = refl

by_step : (draft : Draft) (pointer : List ℕ) (ts : List (List ℕ)) → Same draft pointer ts → (base : List ℕ) (since : List Part) (reached : Reached) → HasReached draft since reached
    → (answer : Result (Part × Data) Fault)
    → with_parts (answer >>= λ s. as_invalid_uri (along_part draft (record { base = base; since = since }) s.0 s.1) >>= λ next. walked_along draft pointer next s.1 ts)
    ≡ without_parts (((answer >>= moved draft reached) >>= λ s. as_invalid_uri (base_after draft base s) >>= with_value s.1) >>= λ s. passed_along draft pointer s.1 s.0 ts)
by_step draft pointer ts same base since reached has (Ok s) =
    let longer = since ++ s.0 ∷ [] in
    let there = reached_after draft reached s.0 in
    let has_more = reached_on draft since reached s.0 has in
    let accepted = reached_accepts draft (is_object s.1) longer there has_more in
    ap (λ b. with_parts (as_invalid_uri (base_within base (cond b (identifier draft s.1) None) >>= λ uri. Ok (bases.changed_base (record { base = base; since = longer }) uri)) >>= λ next. walked_along draft pointer next s.1 ts)) accepted
    ∙ by_base draft pointer ts same base longer there s.1 has_more (base_within base (accepted_id draft there s.1))
by_step draft pointer ts same base since reached has (Err fault) = refl

same_walk : (draft : Draft) (pointer : List ℕ) (ts : List (List ℕ)) → Same draft pointer ts
same_walk draft pointer [] = λ base since reached value has. refl
same_walk draft pointer (token ∷ ts) = λ base since reached value has. by_step draft pointer ts (same_walk draft pointer ts) base since reached has (step_into pointer value token)

-- from a base without parts
pub leads_same : (draft : Draft) (pointer base : List ℕ) (value : Data) (ts : List (List ℕ))
    → leads_to draft pointer base value ts ≡ without_parts (passed_along draft pointer (record { base = base; reached = Schema }) value ts)
leads_same draft pointer base value ts = same_walk draft pointer ts base [] Schema value (λ object rest. refl)

pub no_answer : (answer : Result (Data × Along) Fault) (fault : Fault) → with_parts answer ≡ Err fault → answer ≡ Err fault
no_answer (Ok at) fault is = absurd (cc)
no_answer (Err other) fault is = (let same : other ≡ fault = cc in ap (λ f. Err f) same)

pub fault_same : (draft : Draft) (pointer base : List ℕ) (value : Data) (tokens : List (List ℕ)) (e : Error)
    → IsFaultOf (passed_along draft pointer (record { base = base; reached = Schema }) value tokens) e → IsFaultOf (walked_along draft pointer (record { base = base; since = [] }) value tokens) e
fault_same draft pointer base value tokens e =
    let passed = passed_along draft pointer (record { base = base; reached = Schema }) value tokens in
    let walked = walked_along draft pointer (record { base = base; since = [] }) value tokens in
    fault_as passed walked e (λ fault is. no_answer walked fault (leads_same draft pointer base value tokens ∙ ap without_parts is))

pub fault_leads : (draft : Draft) (pointer base : List ℕ) (value : Data) (ts : List (List ℕ)) (e : Error)
    → IsFaultOf (passed_along draft pointer (record { base = base; reached = Schema }) value ts) e → IsFaultOf (leads_to draft pointer base value ts) e
fault_leads draft pointer base value ts e is =
    fault_ends (walked_along draft pointer (record { base = base; since = [] }) value ts) (λ at. Ok (at.0, at.1.base)) e (fault_same draft pointer base value ts e is)

-- what a walk from a base without parts gives
pub gives_leads : {B : Type 0} (draft : Draft) (pointer base : List ℕ) (value : Data) (ts : List (List ℕ)) (passed : Passed) (at : Data × Passed) (r : Result B Error) → passed ≡ record { base = base; reached = Schema }
    → Gives (λ _. at) (passed_along draft pointer passed value ts) r → Gives (λ _. (at.0, at.1.base)) (leads_to draft pointer base value ts) r
gives_leads draft pointer base value ts passed at (Ok done) start gives =
    leads_same draft pointer base value ts ∙ ap without_parts (ap (λ p. passed_along draft pointer p value ts) (sym start) ∙ gives)
gives_leads draft pointer base value ts passed at (Err e) start says =
    fault_leads draft pointer base value ts e (subst (λ p. IsFaultOf (passed_along draft pointer p value ts) e) start says)

-- ---- the decoded text

pub text_leads : (draft : Draft) (pointer base text decoded : List ℕ) (d : Data) → decoded ≡ percent_decode text → IsUtf8 (percent_decode text) → leads_to draft pointer base d (tokens decoded) ≡ pointed_to draft pointer base d text
text_leads draft pointer base text decoded d is utf8 =
    ap (λ s. leads_to draft pointer base d (tokens s)) is
    ∙ ap (λ a. a >>= λ at. Ok (at.0, at.1.base)) (sym (ap (λ b. cond b (walked_along draft pointer (record { base = base; since = [] }) d (tokens (percent_decode text))) (Err (InvalidPercentEncoding pointer))) (is_utf8-from_IsUtf8 (percent_decode text) utf8)))

bytes_by : (b : Bool) (pointer text : List ℕ) (r : Result (Data × Along) Fault) → is_utf8 (percent_decode text) ≡ b → (IsUtf8 (percent_decode text) → ⊥) → cond b r (Err (InvalidPercentEncoding pointer)) ≡ Err (InvalidPercentEncoding pointer)
bytes_by true pointer text r e h = absurd (h (IsUtf8-from_is_utf8 (percent_decode text) e))
bytes_by false pointer text r e h = refl

pub bytes_lead_nowhere : (draft : Draft) (pointer base text : List ℕ) (d : Data) → (IsUtf8 (percent_decode text) → ⊥) → pointed_to draft pointer base d text ≡ Err (InvalidPercentEncoding pointer)
bytes_lead_nowhere draft pointer base text d h =
    ap (λ a. a >>= λ at. Ok (at.0, at.1.base)) (bytes_by (is_utf8 (percent_decode text)) pointer text (walked_along draft pointer (record { base = base; since = [] }) d (tokens (percent_decode text))) refl h)
