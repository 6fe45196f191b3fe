-- Notes on documents whose draft is guessed.
use Rattle.std.proofs.Common.{◌≡◌, ◌∙◌, ℕ, zero, suc, ◌+◌, ◌<◌, Bool, true, false, cond, Option, None, Some, refl, ap, List, [], ◌∷◌, map, take, length, get_or, arith}
use Rattle.std.specs.List.{find}
use Rattle.std.specs.Option.{option_or}
use Rattle.std.proofs.lemmas.List.Folds.{find-append}
use Rattle.ref_findings.proofs.Lists.{taken_more}
use Rattle.ref_findings.specs.declared.survey.Survey.{Survey}
use Rattle.ref_findings.specs.Sources.{Source}
use Rattle.ref_findings.specs.Entries.{source_of}
use Rattle.ref_draft.specs.declared.draft.Draft.{Draft}
use Rattle.ref_findings.specs.inner.Seen.{Survey as SurveyOf, survey_in}

-- the source of a survey
abbrev pub source_in : Survey → Source
source_in s = source_of s.source.now

-- those of the surveys of sources are the sources
own_sources : (draft : Draft) (ss : List Source) → map (λ (t : SurveyOf). t.source) (map (survey_in draft) ss) ≡ ss
own_sources draft [] = refl
own_sources draft (s ∷ ss) = ap (λ l. s ∷ l) (own_sources draft ss)

pub sources_same : (draft : Draft) (ss : List Source) (ts : List SurveyOf) → ts ≡ map (survey_in draft) ss → map (λ (t : SurveyOf). t.source) ts ≡ ss
sources_same draft ss ts first = ap (map (λ (t : SurveyOf). t.source)) first ∙ own_sources draft ss

-- ---- the first that passes a test

none_here : {Y : Type 0} (b : Bool) (y : Y) (rest : Option Y) → cond b (Some y) rest ≡ None → (b ≡ false) × (rest ≡ None)
none_here true y rest none = cc
none_here false y rest none = (refl, none)

-- none before it passes, and it does
pub first_at : {X Y : Type 0} (test : Y → Bool) (v : X → Y) (xs : List X) (i : ℕ) (d : X) → i < length xs
    → find test (map v (take i xs)) ≡ None → test (v (get_or xs i d)) ≡ true → find test (map v xs) ≡ Some (v (get_or xs i d))
first_at test v [] i d within none passes = absurd (omega (arith, within))
first_at test v (x ∷ xs) zero d within none passes = ap (λ b. cond b (Some (v x)) (find test (map v xs))) passes
first_at test v (x ∷ xs) (suc i) d within none passes =
    let both = none_here (test (v x)) (v x) (find test (map v (take i xs))) none in
    ap (λ b. cond b (Some (v x)) (find test (map v xs))) both.0 ∙ first_at test v xs i d (omega (arith, within)) both.1 passes

-- one more that doesn't
pub none_more : {X Y : Type 0} (test : Y → Bool) (v : X → Y) (xs : List X) (i : ℕ) (d : X) → i < length xs
    → find test (map v (take i xs)) ≡ None → test (v (get_or xs i d)) ≡ false → find test (map v (take (i + 1) xs)) ≡ None
none_more test v xs i d within none fails =
    let y = v (get_or xs i d) in
    ap (find test) (taken_more v xs i d within) ∙ find-append test (map v (take i xs)) (y ∷ []) ∙ ap (λ o. option_or o (cond (test y) (Some y) None)) none
    ∙ ap (λ b. cond b (Some y) None) fails
