-- Lists of findings, source by source, and the paths of their texts.
use Rattle.std.proofs.Common.{◌≡◌, ◌∙◌, ℕ, ◌+◌, ◌<◌, ◌≤◌, List, [], ◌∷◌, ◌++◌, map, flat_map, take, length, get_or, refl, sym, ap, append_assoc}
use Rattle.std.specs.Prelude.{option_map}
use Rattle.std.specs.List.{AllZip, enumerate_from}
use Rattle.std.specs.Option.{option_to_list}
use Rattle.std.proofs.lemmas.List.{map-append, take_all}
use Rattle.ref_paths.specs.Path.{Key}
use Rattle.ref_findings.specs.declared.finding.Finding as rust
use Rattle.ref_findings.specs.Findings.{Finding}
use Rattle.ref_findings.specs.Entries.{IsFindingOf}
use Rattle.ref_findings.specs.Unmet.{text_path}
use Rattle.ref_findings.specs.inner.Nulled.{said_path}
use Rattle.ref_findings.proofs.Lists.{numbered_more}

-- ---- numbered lists

-- what is made of each of the numbered beginning of a list, with one more
pub mapped_step : {X Y A : Type 0} (g : ℕ × Y → A) (v : X → Y) (xs : List X) (i : ℕ) (x : X) → i < length xs → x ≡ get_or xs i x
    → map g (enumerate_from 0 (map v (take (i + 1) xs))) ≡ map g (enumerate_from 0 (map v (take i xs))) ++ g (i, v x) ∷ []
mapped_step g v xs i x within is =
    let before = enumerate_from 0 (map v (take i xs)) in
    ap (map g) (numbered_more v xs i x within) ∙ map-append g before ((i, v (get_or xs i x)) ∷ []) ∙ ap (λ y. map g before ++ g (i, v y) ∷ []) (sym is)

pub mapped_end : {X Y A : Type 0} (g : ℕ × Y → A) (v : X → Y) (xs : List X) (i : ℕ) → length xs ≤ i
    → map g (enumerate_from 0 (map v (take i xs))) ≡ map g (enumerate_from 0 (map v xs))
mapped_end g v xs i all = ap (λ l. map g (enumerate_from 0 (map v l))) (take_all i xs all)

-- what is made of each of a numbered list that is made of another
pub numbered_mapped : {X Y A : Type 0} (g : ℕ × Y → A) (h : X → Y) (n : ℕ) (xs : List X)
    → map g (enumerate_from n (map h xs)) ≡ map (λ e. g (e.0, h e.1)) (enumerate_from n xs)
numbered_mapped g h n [] = refl
numbered_mapped g h n (x ∷ xs) = ap (λ l. g (n, h x) ∷ l) (numbered_mapped g h (n + 1) xs)

-- three lists after another
pub three : {X : Type 0} (fs a b c : List X) → ((fs ++ a) ++ b) ++ c ≡ fs ++ (a ++ (b ++ c))
three fs a b c = append_assoc (fs ++ a) b c ∙ append_assoc fs a (b ++ c)

-- ---- paths

path_said : (f : rust.Finding) (g : Finding) → IsFindingOf f g → said_path f ≡ text_path g
path_said f g is =
    ap (λ p. map (λ k. p ++ Key k ∷ []) (option_to_list (option_map (λ k. k.now) f.keyword))) is.1
    ∙ ap (λ o. map (λ k. g.path ++ Key k ∷ []) (option_to_list o)) is.2

-- the paths of what the program says are those of the findings that it says
pub paths_said : (xs : List rust.Finding) (fs : List Finding) → AllZip IsFindingOf xs fs → flat_map said_path xs ≡ flat_map text_path fs
paths_said [] [] zip = refl
paths_said [] (f ∷ fs) zip = absurd zip
paths_said (x ∷ xs) [] zip = absurd zip
paths_said (x ∷ xs) (f ∷ fs) zip = ap (λ p. p ++ flat_map said_path xs) (path_said x f zip.0) ∙ ap (λ l. text_path f ++ l) (paths_said xs fs zip.1)
