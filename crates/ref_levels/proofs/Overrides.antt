-- The files of overrides, and what is used of them.
use Rattle.std.proofs.Common.{◌≡◌, ℕ, zero, suc, ◌+◌, ◌<◌, List, [], ◌∷◌, ◌||◌, Option, map, length, drop, set, get_or, fold, refl, sym, ap, ◌∙◌, arith}
use Rattle.std.specs.List.{list_any}
use Rattle.std.proofs.lemmas.List.{drop_more, drop-set-lt}
use Rattle.ref_messages.specs.declared.message.Level.{Level}
use Rattle.ref_levels.specs.declared.levels.FileLevels.{FileLevels}
use Rattle.ref_levels.specs.Levels.{over}
use Rattle.ref_levels.specs.View.{file_choices}
use Rattle.ref_files.specs.declared.excluded.Excluded.{Excluded}
use Rattle.ref_files.specs.Excluded.{is_excluded, leaves_out, used}

-- whether a file is among them is asked of what they mean
pub excluded_what : (path : List ℕ) (es : List Excluded) → is_excluded path es ≡ list_any (leaves_out path) (map (λ (e : Excluded). e.what) es)
excluded_what path [] = refl
excluded_what path (e ∷ es) = ap (λ b. leaves_out path e.what || b) (excluded_what path es)

-- what they mean stays when they are used
pub used_what : (path : List ℕ) (es : List Excluded) → map (λ (e : Excluded). e.what) (used path es) ≡ map (λ (e : Excluded). e.what) es
used_what path [] = refl
used_what path (e ∷ es) = ap (λ ws. e.what ∷ ws) (used_what path es)

-- ---- an override after which the next one is asked

pub over_step : (path code : List ℕ) (before after : Option Level) (xs : List FileLevels) (i : ℕ) (o m : FileLevels) → i < length xs → o ≡ get_or xs i o
    → after ≡ over path code before (file_choices o)
    → fold (over path code) after (map file_choices (drop (i + 1) (set xs i m))) ≡ fold (over path code) before (map file_choices (drop i xs))
over_step path code before after xs i o m within own is =
    ap (λ ys. fold (over path code) after (map file_choices ys)) (drop-set-lt (i + 1) xs i m (omega arith))
    ∙ ap (λ l. fold (over path code) l (map file_choices (drop (i + 1) xs))) (is ∙ ap (λ x. over path code before (file_choices x)) own)
    ∙ sym (ap (λ ys. fold (over path code) before (map file_choices ys)) (drop_more xs i o within))

-- what is written says what was there
pub same_set : (xs : List FileLevels) (i : ℕ) (o m : FileLevels) → i < length xs → o ≡ get_or xs i o → file_choices m ≡ file_choices o
    → map file_choices (set xs i m) ≡ map file_choices xs
same_set [] i o m within own same = absurd (omega arith)
same_set (x ∷ xs) zero o m within own same = ap (λ c. c ∷ map file_choices xs) (same ∙ ap file_choices own)
same_set (x ∷ xs) (suc i) o m within own same = ap (λ cs. file_choices x ∷ cs) (same_set xs i o m (omega arith) own same)
