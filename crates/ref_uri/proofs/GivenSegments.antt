-- Segments that are written as they are given.
use Rattle.std.proofs.Common.{◌≡◌, ◌≢◌, ℕ, ◌+◌, ◌-◌, ◌<◌, ◌≤◌, true, List, [], ◌∷◌, ◌++◌, append-nil, length, length-drop, take, drop, get_or, get_or-drop, map, eqb, refl, sym, ap, ◌∙◌, subst, arith}
use Rattle.std.specs.List.{position_or_len, before_last}
use Rattle.std.proofs.lemmas.Bool.{eqb-true, false≢true, eq-eqb}
use Rattle.std.proofs.lemmas.List.Sums.{fails_before_first, passes_at_first}
use Rattle.std.proofs.Math.Seq.{take-add}
use Rattle.ref_uri.specs.DotSegments.{segments}
use Rattle.ref_uri.specs.inner.Removal.{segment_of, path_then, progress_then, path_after, progress_after, slash_of, dots_after, last_taken}
use Rattle.ref_uri.specs.inner.Written.{written_text}
use Rattle.ref_uri.specs.declared.written.Form.{Form}
use Rattle.ref_uri.specs.declared.dots.Progress.{Progress}
use Rattle.ref_uri.specs.declared.dots.Progress.TheVariants.{Front, Within, Dots}
use Rattle.ref_uri.specs.declared.dots.Segment.TheVariants.{Name, Dot, DotDot}
use Rattle.ref_uri.proofs.LastSlash.{is_slash, before_last_at, before_last_none}
use Rattle.ref_uri.proofs.PartLemmas.{only_segment, first_segment}

-- what is before the last slash of the path in a text
pub rest_at : (text : List ℕ) (start k : ℕ) → start ≤ k → k < length text → get_or text k 0 ≡ 47 → ((i : ℕ) → k < i → i < length text → get_or text i 0 ≢ 47) → take k text ≡ take start text ++ before_last is_slash (drop start text)
rest_at text start k from within slash none =
    let path = drop start text in
    let len = length-drop start text in
    let there : start + (k - start) ≡ k = omega arith in
    let last = before_last_at path (k - start) (omega arith) (get_or-drop start text (k - start) 0 ∙ ap (λ j. get_or text j 0) there ∙ slash)
    (λ i behind below e. none (start + i) (omega arith) (omega arith) (sym (get_or-drop start text i 0) ∙ e)) in
    ap (λ j. take j text) (sym there) ∙ take-add start (k - start) text ∙ ap (λ t. take start text ++ t) (sym last)

pub rest_none : (text : List ℕ) (start : ℕ) → ((i : ℕ) → start ≤ i → i < length text → get_or text i 0 ≢ 47) → take start text ≡ take start text ++ before_last is_slash (drop start text)
rest_none text start none =
    let len = length-drop start text in
    sym (append-nil (take start text))
    ∙ ap (λ t. take start text ++ t) (sym (before_last_none (drop start text) (λ i below e. none (start + i) (omega arith) (omega arith) (sym (get_or-drop start text i 0) ∙ e))))

-- a path after a segment that is no dot segment, and after each of the two
pub then_name : (progress : Progress) (path segment : List ℕ) → segment_of segment ≡ Name → (path_then progress path segment ≡ path ++ (slash_of progress ++ segment)) × (progress_then progress segment ≡ Within)
then_name Front path segment is = (rw is refl, rw is refl)
then_name Within path segment is = (rw is refl, rw is refl)
then_name Dots path segment is = (rw is refl, rw is refl)

pub then_dot : (progress : Progress) (path segment : List ℕ) → segment_of segment ≡ Dot → (path_then progress path segment ≡ path) × (progress_then progress segment ≡ dots_after progress)
then_dot Front path segment is = (rw is refl, rw is refl)
then_dot Within path segment is = (rw is refl, rw is refl)
then_dot Dots path segment is = (rw is refl, rw is refl)

pub then_dots : (progress : Progress) (path segment : List ℕ) → segment_of segment ≡ DotDot → (path_then progress path segment ≡ last_taken progress path) × (progress_then progress segment ≡ dots_after progress)
then_dots Front path segment is = (rw is refl, rw is refl)
then_dots Within path segment is = (rw is refl, rw is refl)
then_dots Dots path segment is = (rw is refl, rw is refl)

-- up to its first slash a path is a segment
pub cut_off : (path : List ℕ) (len : ℕ) → len ≡ position_or_len is_slash path → len < length path → segments path ≡ take len path ∷ segments (drop (len + 1) path)
cut_off path len is within =
    first_segment path len within
    (eqb-true (get_or path len 0) 47 (subst (λ (k : ℕ). eqb (get_or path k 0) 47 ≡ true) (sym is) (passes_at_first is_slash path 0 (omega arith))))
    (λ i below e. false≢true (sym (fails_before_first is_slash path i 0 (omega arith)) ∙ eq-eqb (get_or path i 0) 47 e))

-- where it has none it is one segment
pub whole_segment : (path : List ℕ) (len : ℕ) → len ≡ position_or_len is_slash path → length path ≤ len → segments path ≡ path ∷ []
whole_segment path len is past =
    only_segment path (λ i below e. false≢true (sym (fails_before_first is_slash path i 0 (omega arith)) ∙ eq-eqb (get_or path i 0) 47 e))

-- What is written, and what is left to be written, of a path.
pub record Left (form : Form) (start : ℕ) (old new : List ℕ) (before_progress progress : Progress) (path rest : List ℕ) : Type 0 where
  pub text : (before p : List ℕ) → old ≡ before ++ p → length before ≡ start → (w : List ℕ) × (new ≡ before ++ w) × (path_after progress w (map (written_text form) (segments rest)) ≡ path_after before_progress p (map (written_text form) (segments path)))
  pub is : progress_after progress (map (written_text form) (segments rest)) ≡ progress_after before_progress (map (written_text form) (segments path))

-- one segment more
pub left_on : (form : Form) (start : ℕ) (old new newer : List ℕ) (first progress next : Progress) (path rest segment behind : List ℕ) → Left form start old new first progress path rest → segments rest ≡ segment ∷ segments behind
    → ((before w : List ℕ) → new ≡ before ++ w → length before ≡ start → newer ≡ before ++ path_then progress w (written_text form segment)) → next ≡ progress_then progress (written_text form segment) → Left form start old newer first next path behind
left_on form start old new newer first progress next path rest segment behind left cut text is =
    record {
      text = λ before p e n.
          let so_far = left.text before p e n in (
            path_then progress so_far.0 (written_text form segment),
            text before so_far.0 so_far.1 n,
            ap (λ q. path_after q (path_then progress so_far.0 (written_text form segment)) (map (written_text form) (segments behind))) is
                ∙ ap (λ ss. path_after progress so_far.0 (map (written_text form) ss)) (sym cut) ∙ so_far.2,
          );
      is = ap (λ q. progress_after q (map (written_text form) (segments behind))) is ∙ ap (λ ss. progress_after progress (map (written_text form) ss)) (sym cut) ∙ left.is;
    }
