-- Texts in which no `%` is, and targets of them.
use Rattle.std.proofs.Common.{◌≡◌, ◌≢◌, ℕ, suc, ◌<◌, true, not, List, [], ◌∷◌, ◌++◌, length, take, drop, get_or, eqb, codes, Option, Some, None, option_map, option_copied, refl, sym, ap, ◌∙◌, arith}
use Rattle.std.proofs.lemmas.Bool.{and_parts, and_from, ne_eqb, eq-eqb, false≢true}
use Rattle.std.proofs.lemmas.List.{take-append-drop}
use Rattle.std.proofs.lemmas.List.Folds.{list_all-append}
use Rattle.std.proofs.lemmas.List.Sums.{AllPass-from_list_all}
use Rattle.ref_uri.specs.Components.{components, framed_component, if_there}
use Rattle.ref_uri.specs.DotSegments.{remove_dot_segments}
use Rattle.ref_uri.specs.Normal.{guarded_path, normal_text}
use Rattle.ref_uri.specs.inner.Written.{is_plain}
use Rattle.ref_uri.specs.inner.Target.{given_path, normal_path_of, written_by, written_components, ArePlain, LosesSameDots, LacksEncodedDot, IsTarget, IsPlainTarget, LacksTriples}
use Rattle.ref_uri.specs.declared.target.PathOf.{PathOf}
use Rattle.ref_uri.specs.declared.target.PathOf.TheVariants.{Kept, OfBase, Removed, Merged}
use Rattle.ref_uri.specs.declared.target.Target.{Target}
use Rattle.ref_uri.specs.declared.written.Form.TheVariants.{Given, Normal, NormalTarget}
use Rattle.ref_uri.proofs.NormalLemmas.{normal_none, normal_character}
use Rattle.ref_uri.proofs.PlainDots.{lacks_encoded_dot}
use Rattle.ref_uri.proofs.StructureLemmas.{text_of-components}
use Rattle.ref_uri.proofs.TargetLemmas.{each_same, map_given}
use Rattle.ref_uri.proofs.WrittenAtOnce.{written_at_once}

-- a text at none of whose places `%` is
pub plain_text : (text : List ℕ) → ((k : ℕ) → k < length text → get_or text k 0 ≢ 37) → is_plain text ≡ true
plain_text [] none = refl
plain_text (c ∷ text) none =
    and_from (not (eqb c 37)) (is_plain text) (ap not (ne_eqb c 37 (none 0 (omega arith)))) (plain_text text (λ k lt. none (suc k) (omega arith)))

plain_at : (text : List ℕ) → is_plain text ≡ true → (k : ℕ) → k < length text → get_or text k 0 ≢ 37
plain_at text h k lt e =
    let passes : not (eqb (get_or text k 0) 37) ≡ true = AllPass-from_list_all (λ c. not (eqb c 37)) text h k 0 lt in
    false≢true (ap (λ c. not (eqb c 37)) (sym e) ∙ passes)

-- it is in normal form
pub plain_normal : (text : List ℕ) → is_plain text ≡ true → normal_text text ≡ text
plain_normal [] h = normal_none (λ c. c)
plain_normal (c ∷ text) h =
    let both = and_parts (not (eqb c 37)) (is_plain text) h in
    normal_character (λ x. x) c text (λ e. false≢true (sym (ap not (eq-eqb c 37 e)) ∙ both.0)) ∙ ap (λ t. c ∷ t) (plain_normal text both.1)

pub plain_there : (o : Option (List ℕ)) → if_there is_plain o ≡ true → option_map normal_text o ≡ o
plain_there None h = refl
plain_there (Some text) h = ap (λ t. Some t) (plain_normal text h)

-- its parts
plain_parts : (xs ys : List ℕ) → is_plain (xs ++ ys) ≡ true → (is_plain xs ≡ true) × (is_plain ys ≡ true)
plain_parts xs ys h = and_parts (is_plain xs) (is_plain ys) (sym (list_all-append (λ c. not (eqb c 37)) xs ys) ∙ h)

pub plain_front : (k : ℕ) (text : List ℕ) → is_plain text ≡ true → is_plain (take k text) ≡ true
plain_front k text h = (plain_parts (take k text) (drop k text) (ap is_plain (take-append-drop k text) ∙ h)).0

plain_framed : (before after : List ℕ) (o : Option (List ℕ)) → is_plain (framed_component before o after) ≡ true → if_there is_plain o ≡ true
plain_framed before after None h = refl
plain_framed before after (Some text) h = (plain_parts before text (plain_parts (before ++ text) after h).0).1

pub plain_components : (text : List ℕ) → is_plain text ≡ true → LacksTriples (components text)
plain_components text h =
    let c = components text in
    let front = framed_component [] c.scheme (codes ":") ++ framed_component (codes "//") c.authority [] in
    let query = framed_component (codes "?") c.query [] in
    let three = plain_parts (((front ++ c.path) ++ query)) (framed_component (codes "#") c.fragment []) (ap is_plain (text_of-components text) ∙ h) in
    let two = plain_parts (front ++ c.path) query three.0 in
    let one = plain_parts front c.path two.0 in
    record { path = one.1; query = plain_framed (codes "?") [] c.query two.1; fragment = plain_framed (codes "#") [] c.fragment three.1 }

-- a path of such parts
pub plain_merged : (directory path : List ℕ) → is_plain directory ≡ true → is_plain path ≡ true → is_plain (directory ++ 47 ∷ path) ≡ true
plain_merged directory path h k = list_all-append (λ c. not (eqb c 37)) directory (47 ∷ path) ∙ and_from (is_plain directory) (is_plain (47 ∷ path)) h k

pub removed_plain : (path : List ℕ) → is_plain path ≡ true → remove_dot_segments path ≡ remove_dot_segments (normal_text path)
removed_plain path h = ap remove_dot_segments (sym (plain_normal path h))

lacks_dot : (text : List ℕ) → is_plain text ≡ true → LacksEncodedDot text
lacks_dot text h = lacks_encoded_dot text (λ k lt percent. absurd (plain_at text h k (omega arith) percent))

loses_same : (path : PathOf) → ArePlain path → LosesSameDots path
loses_same (Kept path) h = absurd h
loses_same (OfBase path) h = tt
loses_same (Removed path) h = lacks_dot path.now h
loses_same (Merged directory path) h = (lacks_dot directory.now h.0, lacks_dot path.now h.1)

-- the components of a target of such parts, in normal form
pub plain_written : (t : Target) (path : PathOf) → IsTarget t → IsPlainTarget t → given_path path ≡ normal_path_of t.path → written_by Normal Given (record t { path = path }) ≡ written_components NormalTarget t
plain_written t path is plain same =
    each_same (written_by Normal Given (record t { path = path })) (written_components Normal t) refl refl (ap (guarded_path (option_copied t.authority)) same)
    (map_given (option_copied t.query) ∙ sym (plain_there (option_copied t.query) plain.query)) (map_given (option_copied t.fragment) ∙ sym (plain_there (option_copied t.fragment) plain.fragment))
    ∙ written_at_once t is (loses_same t.path plain.path)
