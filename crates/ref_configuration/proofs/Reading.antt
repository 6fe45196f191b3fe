-- Lists that are read item by item, of which one may be refused.
use Rattle.std.proofs.Common.{◌≡◌, ℕ, ◌+◌, ◌<◌, List, [], ◌∷◌, ◌++◌, length, drop, get_or, Result, Ok, Err, Some, None, ok_or, codes, string_bytes, refl, sym, ap, ◌∙◌, append_assoc}
use Rattle.toml.specs.Data.{as_str}
use Rattle.toml.specs.View.{view, items_view, members_view}
use Rattle.toml.specs.declared.value.Value.{Value}
use Rattle.toml.proofs.Views.{Entry, items_view-drop}
use Rattle.ref_configuration.specs.Results.{◌>>=◌}
use Rattle.ref_configuration.specs.Members.{Fault, FileRules, Where, fault_at, in_map, texts_of, maps_of, rules_of, level_in, no_level, override_in, overrides_of, no_name_text, not_among_text}
use Rattle.ref_configuration.specs.Names.{listed, rule_level_names}

-- what is read so far, before what is left to read
abbrev pub in_front : {B E : Type 0} → List B → Result (List B) E → Result (List B) E
in_front done (Ok ys) = Ok (done ++ ys)
in_front done (Err e) = Err e

pub in_front_push : {B E : Type 0} (done : List B) (y : B) (left : Result (List B) E) → in_front (done ++ y ∷ []) left ≡ in_front done (left >>= λ ys. Ok (y ∷ ys))
in_front_push done y (Ok ys) = ap Ok (append_assoc done (y ∷ []) ys)
in_front_push done y (Err e) = refl

-- what is read from nothing on
pub in_front_nil : {B E : Type 0} (left : Result (List B) E) → in_front [] left ≡ left
in_front_nil (Ok ys) = refl
in_front_nil (Err e) = refl

-- ---- texts

pub texts_step : (place : Where) (name : List ℕ) (done new : List (List ℕ)) (text : List ℕ) (vs : List Value) (i : ℕ) (d : Value) → i < length vs
    → as_str (view (get_or vs i d)) ≡ Some text → new ≡ done ++ text ∷ []
    → in_front new (texts_of place name (items_view (drop (i + 1) vs))) ≡ in_front done (texts_of place name (items_view (drop i vs)))
texts_step place name done new text vs i d within is more =
    let left = texts_of place name (items_view (drop (i + 1) vs)) in
    ap (λ ts. in_front ts left) more ∙ in_front_push done text left
    ∙ sym (ap (λ ds. in_front done (texts_of place name ds)) (items_view-drop vs i d within)
    ∙ ap (λ o. in_front done (ok_or o (fault_at place name (codes "each item of this list is to be a text")) >>= λ t. left >>= λ ts. Ok (t ∷ ts))) is)

pub texts_stop : (place : Where) (name : List ℕ) (vs : List Value) (i : ℕ) (d : Value) → i < length vs → as_str (view (get_or vs i d)) ≡ None
    → texts_of place name (items_view (drop i vs)) ≡ Err (fault_at place name (codes "each item of this list is to be a text"))
texts_stop place name vs i d within is =
    let left = texts_of place name (items_view (drop (i + 1) vs)) in
    ap (texts_of place name) (items_view-drop vs i d within)
    ∙ ap (λ o. ok_or o (fault_at place name (codes "each item of this list is to be a text")) >>= λ t. left >>= λ ts. Ok (t ∷ ts)) is

-- ---- prefixes and folders, rules and levels

pub maps_step : (done new : List (List ℕ × List ℕ)) (folder : List ℕ) (e : Entry) (es : List Entry) → as_str (view e.1) ≡ Some folder
    → new ≡ done ++ (string_bytes e.0, folder) ∷ [] → in_front new (maps_of (members_view es)) ≡ in_front done (maps_of (members_view (e ∷ es)))
maps_step done new folder e es is more =
    let left = maps_of (members_view es) in
    let fault = fault_at in_map (string_bytes e.0) (codes "a text, the path of a folder, is to be here") in
    ap (λ ms. in_front ms left) more ∙ in_front_push done (string_bytes e.0, folder) left
    ∙ sym (ap (λ o. in_front done (ok_or o fault >>= λ t. left >>= λ ms. Ok ((string_bytes e.0, t) ∷ ms))) is)

pub maps_stop : (e : Entry) (es : List Entry) → as_str (view e.1) ≡ None
    → maps_of (members_view (e ∷ es)) ≡ Err (fault_at in_map (string_bytes e.0) (codes "a text, the path of a folder, is to be here"))
maps_stop e es is =
    let left = maps_of (members_view es) in
    let fault = fault_at in_map (string_bytes e.0) (codes "a text, the path of a folder, is to be here") in
    ap (λ o. ok_or o fault >>= λ t. left >>= λ ms. Ok ((string_bytes e.0, t) ∷ ms)) is

pub rules_step : (place : Where) (done new : List (List ℕ × List ℕ)) (level : List ℕ) (e : Entry) (es : List Entry) → level_in (view e.1) ≡ Some level
    → new ≡ done ++ (string_bytes e.0, level) ∷ [] → in_front new (rules_of place (members_view es)) ≡ in_front done (rules_of place (members_view (e ∷ es)))
rules_step place done new level e es is more =
    let left = rules_of place (members_view es) in
    let fault = fault_at place (string_bytes e.0) (no_level (string_bytes e.0)) in
    ap (λ rs. in_front rs left) more ∙ in_front_push done (string_bytes e.0, level) left
    ∙ sym (ap (λ o. in_front done (ok_or o fault >>= λ t. left >>= λ rs. Ok ((string_bytes e.0, t) ∷ rs))) is)

pub rules_stop : (place : Where) (e : Entry) (es : List Entry) → level_in (view e.1) ≡ None
    → rules_of place (members_view (e ∷ es)) ≡ Err (fault_at place (string_bytes e.0) (no_level (string_bytes e.0)))
rules_stop place e es is =
    let left = rules_of place (members_view es) in
    let fault = fault_at place (string_bytes e.0) (no_level (string_bytes e.0)) in
    ap (λ o. ok_or o fault >>= λ t. left >>= λ rs. Ok ((string_bytes e.0, t) ∷ rs)) is

-- ---- overrides

pub overrides_step : (done new : List FileRules) (one : FileRules) (vs : List Value) (n : ℕ) (d : Value) → n < length vs
    → override_in n (view (get_or vs n d)) ≡ Ok one → new ≡ done ++ one ∷ []
    → in_front new (overrides_of (n + 1) (items_view (drop (n + 1) vs))) ≡ in_front done (overrides_of n (items_view (drop n vs)))
overrides_step done new one vs n d within is more =
    let left = overrides_of (n + 1) (items_view (drop (n + 1) vs)) in
    ap (λ os. in_front os left) more ∙ in_front_push done one left
    ∙ sym (ap (λ ds. in_front done (overrides_of n ds)) (items_view-drop vs n d within)
    ∙ ap (λ r. in_front done (r >>= λ o. left >>= λ os. Ok (o ∷ os))) is)

pub overrides_stop : (fault : Fault) (vs : List Value) (n : ℕ) (d : Value) → n < length vs → override_in n (view (get_or vs n d)) ≡ Err fault
    → overrides_of n (items_view (drop n vs)) ≡ Err fault
overrides_stop fault vs n d within is =
    let left = overrides_of (n + 1) (items_view (drop (n + 1) vs)) in
    ap (overrides_of n) (items_view-drop vs n d within) ∙ ap (λ r. r >>= λ o. left >>= λ os. Ok (o ∷ os)) is

-- ---- what is said

pub no_name_said : (names : List (List ℕ)) (name known : List ℕ) → known ≡ listed names
    → codes "there is no '" ++ (name ++ (codes "' here; it may be " ++ known)) ≡ no_name_text names name
no_name_said names name known is = rw is (simp append_assoc)

pub not_among_said : (names : List (List ℕ)) (text known : List ℕ) → known ≡ listed names
    → codes "'" ++ (text ++ (codes "' is not " ++ known)) ≡ not_among_text names text
not_among_said names text known is = rw is (simp append_assoc)

pub no_level_said : (rule known : List ℕ) → known ≡ listed rule_level_names
    → codes "the level of '" ++ (rule ++ (codes "' is to be " ++ known)) ≡ no_level rule
no_level_said rule known is = ap (λ k. codes "the level of '" ++ (rule ++ (codes "' is to be " ++ k))) is ∙ sym (regrouped rule (listed rule_level_names))
  where
    regrouped : (rule known : List ℕ) → codes "the level of '" ++ rule ++ codes "' is to be " ++ known ≡ codes "the level of '" ++ (rule ++ (codes "' is to be " ++ known))
    regrouped rule known = simp append_assoc
