-- Pointers into an object that has more members than another.
use Rattle.std.proofs.Common.{◌≡◌, ℕ, true, cond, List, [], ◌∷◌, ◌++◌, Some, None, Result, Ok, Err, ok_or, refl, sym, ap, ◌∙◌, true≢false}
use Rattle.serde_json.specs.Data.{Data, null, boolean, number, string, array, object}
use Rattle.serde_json.specs.Find.{get}
use Rattle.ref_paths.specs.Path.{Part, Key}
use Rattle.ref_parts.specs.Pointer.{unescape}
use Rattle.ref_draft.specs.declared.draft.Draft.{Draft}
use Rattle.ref_draft.specs.Schema.{identifier}
use Rattle.ref_draft.specs.Children.{is_object}
use Rattle.ref_draft.specs.ScanSteps.{scan}
use Rattle.ref_definitions.specs.Results.{◌>>=◌}
use Rattle.ref_definitions.specs.Fault.{Fault, PointerToNowhere, as_invalid_uri}
use Rattle.ref_definitions.specs.Places.{base_within}
use Rattle.ref_definitions.specs.Bases.{Along, changed_base, along_part}
use Rattle.ref_definitions.specs.Pointers.{step_into, walked_along}

-- one answer after another, where what follows is the same
pub after_alike : {E A B : Type 0} (r : Result A E) (f g : A → Result B E) → ((x : A) → f x ≡ g x) → r >>= f ≡ r >>= g
after_alike (Ok x) f g same = same x
after_alike (Err e) f g same = refl

-- a token at an object is its key
pub object_step : (pointer : List ℕ) (value : Data) (token : List ℕ) → is_object value ≡ true
    → step_into pointer value token ≡ (ok_or (get (unescape token) value) (PointerToNowhere pointer) >>= λ d. Ok (Key (unescape token), d))
object_step pointer null token is = absurd (true≢false (sym is))
object_step pointer (boolean b) token is = absurd (true≢false (sym is))
object_step pointer (number n) token is = absurd (true≢false (sym is))
object_step pointer (string s) token is = absurd (true≢false (sym is))
object_step pointer (array ds) token is = absurd (true≢false (sym is))
object_step pointer (object ms) token is = refl

pub step_alike : (pointer : List ℕ) (w v : Data) (token : List ℕ) → is_object w ≡ true → is_object v ≡ true → get (unescape token) w ≡ get (unescape token) v
    → step_into pointer w token ≡ step_into pointer v token
step_alike pointer w v token grown plain same =
    object_step pointer w token grown
    ∙ ap (λ o. ok_or o (PointerToNowhere pointer) >>= λ d. Ok (Key (unescape token), d)) same
    ∙ sym (object_step pointer v token plain)

-- a walk that begins at a key under which both have the same
pub walk_alike : (draft : Draft) (pointer : List ℕ) (along : Along) (w v : Data) (token : List ℕ) (tokens : List (List ℕ)) → is_object w ≡ true → is_object v ≡ true
    → get (unescape token) w ≡ get (unescape token) v → walked_along draft pointer along w (token ∷ tokens) ≡ walked_along draft pointer along v (token ∷ tokens)
walk_alike draft pointer along w v token tokens grown plain same =
    ap (λ r. r >>= λ s. as_invalid_uri (along_part draft along s.0 s.1) >>= λ next. walked_along draft pointer next s.1 tokens) (step_alike pointer w v token grown plain same)

-- the base at a part depends on the value's identifier, and on whether it is an object
pub along_alike : (draft : Draft) (along : Along) (part : Part) (w v : Data) → is_object w ≡ is_object v → identifier draft w ≡ identifier draft v → along_part draft along part w ≡ along_part draft along part v
along_alike draft along part w v objects ids =
    let since = along.since ++ part ∷ [] in
    ap (λ b. base_within along.base (cond (scan draft b since) (identifier draft w) None) >>= λ uri. Ok (changed_base (record along { since = since }) uri)) objects
    ∙ ap (λ id. base_within along.base (cond (scan draft (is_object v) since) id None) >>= λ uri. Ok (changed_base (record along { since = since }) uri)) ids

-- a step to a member
step_there : (pointer : List ℕ) (value : Data) (token : List ℕ) (there : Data) → is_object value ≡ true → get (unescape token) value ≡ Some there → step_into pointer value token ≡ Ok (Key (unescape token), there)
step_there pointer value token there is at =
    object_step pointer value token is ∙ ap (λ o. ok_or o (PointerToNowhere pointer) >>= λ d. Ok (Key (unescape token), d)) at

-- the walk from there on
abbrev pub goes_on : Draft → List ℕ → Along → Part → List (List ℕ) → Data → Result (Data × Along) Fault
goes_on draft pointer along part tokens there = as_invalid_uri (along_part draft along part there) >>= λ next. walked_along draft pointer next there tokens

pub walk_there : (draft : Draft) (pointer : List ℕ) (along : Along) (value : Data) (token : List ℕ) (tokens : List (List ℕ)) (there : Data) → is_object value ≡ true → get (unescape token) value ≡ Some there
    → walked_along draft pointer along value (token ∷ tokens) ≡ goes_on draft pointer along (Key (unescape token)) tokens there
walk_there draft pointer along value token tokens there is at =
    ap (λ r. r >>= λ s. as_invalid_uri (along_part draft along s.0 s.1) >>= λ next. walked_along draft pointer next s.1 tokens) (step_there pointer value token there is at)

-- a walk through a member that has more members, but goes on at a key under which both have the same
pub walk_through : (draft : Draft) (pointer : List ℕ) (along : Along) (w v : Data) (token second : List ℕ) (tokens : List (List ℕ)) (more few : Data)
    → is_object w ≡ true → is_object v ≡ true → get (unescape token) w ≡ Some more → get (unescape token) v ≡ Some few
    → is_object more ≡ true → is_object few ≡ true → identifier draft more ≡ identifier draft few → get (unescape second) more ≡ get (unescape second) few
    → walked_along draft pointer along w (token ∷ second ∷ tokens) ≡ walked_along draft pointer along v (token ∷ second ∷ tokens)
walk_through draft pointer along w v token second tokens more few grown plain at_more at_few more_is few_is ids same =
    walk_there draft pointer along w token (second ∷ tokens) more grown at_more
    ∙ ap (λ r. as_invalid_uri r >>= λ next. walked_along draft pointer next more (second ∷ tokens)) (along_alike draft along (Key (unescape token)) more few (more_is ∙ sym few_is) ids)
    ∙ after_alike (as_invalid_uri (along_part draft along (Key (unescape token)) few)) (λ next. walked_along draft pointer next more (second ∷ tokens))
    (λ next. walked_along draft pointer next few (second ∷ tokens)) (λ next. walk_alike draft pointer next more few second tokens more_is few_is same)
    ∙ sym (walk_there draft pointer along v token (second ∷ tokens) few plain at_few)
