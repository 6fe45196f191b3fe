-- Documents that are read as texts of YAML.
use Rattle.std.proofs.Common.{◌≡◌, ◌≢◌, ℕ, zero, suc, ◌+◌, List, [], ◌∷◌, ◌++◌, length, map, codes, true, false, Option, Some, None, option_map, option_and_then, Result, Ok, Err, refl, sym, ap, subst, ◌∙◌, append_assoc, append-nil, length-append, arith, slice_get}
use Rattle.serde_json.specs.Data.{Data, null, boolean, number, string, array, object, Items, Members, no_members, member}
use Rattle.serde_json.specs.Find.{get, as_str, as_object, as_array}
use Rattle.serde_json.specs.View.{view, items_view, members_view}
use Rattle.serde_json.specs.declared.value.Value.{Value}
use Rattle.serde_json.proofs.Views.{Entry}
use Rattle.ref_json.specs.declared.stop.Stop.{Stop}
use Rattle.ref_json.specs.declared.stop.Stop.TheVariants.{Memory, Because}
use Rattle.ref_definitions.specs.Results.{◌>>=◌}
use Rattle.ref_calls.specs.Calls.{pair_of, required_member, text_in}
use Rattle.ref_calls.specs.Errors.{with_field, with_index}
use Rattle.ref_calls.specs.Objects.{list_of}
use Rattle.ref_calls.specs.Outcome.{Gives, IsChanged}
use Rattle.ref_calls.specs.inner.Reading.{GivesList, GivesMember}
use Rattle.ref_calls.proofs.Documents.{not_pair}
use Rattle.ref_calls.specs.Yaml.{IsYaml, IsYamlAsked, value_object, IsYamlRead, has_one_member, yaml_text, yaml_document, with_value, IsDocumentRead, IsItemRead, AreRead, IsItemError, IsListRead, IsMemberRead}

-- ---- the text that stands for a schema

not_one : (es : List Entry) → length es ≢ 1 → has_one_member (members_view es) ≡ false
not_one [] other = refl
not_one (a ∷ []) other = absurd (other refl)
not_one (a ∷ b ∷ es) other = refl

is_one : (es : List Entry) → length es ≡ 1 → has_one_member (members_view es) ≡ true
is_one [] is = absurd (omega arith)
is_one (a ∷ []) is = refl
is_one (a ∷ b ∷ es) is = absurd (omega arith)

is_object : (t : Data) (ms : Members) → Some ms ≡ as_object t → t ≡ object ms
is_object null ms is = absurd (cc)
is_object (boolean b) ms is = absurd (cc)
is_object (number n) ms is = absurd (cc)
is_object (string s) ms is = absurd (cc)
is_object (array ds) ms is = absurd (cc)
is_object (object ns) ms is = cc

pub no_text : (t : Data) (es : List Entry) → Some (members_view es) ≡ as_object t → length es ≢ 1 → None ≡ yaml_text t
no_text t es is other = rw (is_object t (members_view es) is, not_one es other) refl

pub one_text : (t : Data) (es : List Entry) → Some (members_view es) ≡ as_object t → length es ≡ 1 → option_and_then as_str (get (codes "yaml") t) ≡ yaml_text t
one_text t es is one = rw (is_object t (members_view es) is, is_one es one) refl

pub no_document : (t : Data) (vs : List Value) → Some (items_view vs) ≡ as_array t → length vs ≢ 2 → None ≡ yaml_document t
no_document t vs is other = ap (option_and_then (λ p. option_map (λ text. (p.0, text)) (yaml_text p.1))) (not_pair vs other ∙ ap (option_and_then pair_of) is)

-- ---- items

pub item_stopped : (d : Data) (document : List ℕ × List ℕ) (stop : Stop Value) → Some document ≡ yaml_document d → Gives (IsYamlRead document.1) (Err stop) → Gives (IsItemRead d) (Err stop)
item_stopped d document Memory is given = tt
item_stopped d document (Because value) is given = subst (λ o. IsDocumentRead o d (Err (view value))) is (Err (view value), given, refl)

pub item_read : (d : Data) (document : List ℕ × List ℕ) (value with : Data) → Some document ≡ yaml_document d → IsYamlRead document.1 (Ok value) → with ≡ with_value document.0 value → IsItemRead d (Ok with)
item_read d document value with is given made = subst (λ o. IsDocumentRead o d (Ok with)) is (Ok value, given, ap Ok made)

-- ---- lists

-- what is read of a list so far, before what is left
abbrev pub IsReadSoFar : List Data → List Data → List Data → Type 0
IsReadSoFar all left done =
    ((es : List Data) → AreRead left es → AreRead all (done ++ es)) × ((n : ℕ) → slice_get left n ≡ slice_get all (length done + n))

pub read_next : (all left done : List Data) (d e : Data) → IsReadSoFar all (d ∷ left) done → IsItemRead d (Ok e) → IsReadSoFar all left (done ++ e ∷ [])
read_next all left done d e so_far is = (
  λ es given. subst (AreRead all) (sym (append_assoc done (e ∷ []) es)) (so_far.0 (e ∷ es) (is, given)),
  λ n. so_far.1 (suc n) ∙ ap (slice_get all) (let long : length (done ++ e ∷ []) ≡ length done + 1 = length-append done (e ∷ []) in omega arith),
)

pub all_read : (all done : List Data) → IsReadSoFar all [] done → AreRead all done
all_read all done so_far = subst (AreRead all) (append-nil done) (so_far.0 [] tt)

stopped_at : (all left done : List Data) (d : Data) (n : ℕ) (found error : Data) → n ≡ length done → IsReadSoFar all (d ∷ left) done → IsItemRead d (Err found) → error ≡ with_index n found → IsItemError all error
stopped_at all left done d n found error at so_far is made =
    (n, d, found, sym (so_far.1 0 ∙ ap (slice_get all) (omega arith)), is, made)

pub list_stopped : (all left done : List Data) (d : Data) (n : ℕ) (stop result : Stop Value) → n ≡ length done → IsReadSoFar all (d ∷ left) done → Gives (IsItemRead d) (Err stop) → IsChanged (with_index n) stop result → GivesList all (Err result)
list_stopped all left done d n Memory Memory at so_far given changed = tt
list_stopped all left done d n Memory (Because value) at so_far given changed = absurd (cc)
list_stopped all left done d n (Because found) Memory at so_far given changed = tt
list_stopped all left done d n (Because found) (Because value) at so_far given changed = stopped_at all left done d n (view found) (view value) at so_far given changed

pub field_stopped : (field : List ℕ) (ds : List Data) (stop result : Stop Value) → GivesList ds (Err stop) → IsChanged (with_field field) stop result → Gives (IsListRead field (list_of ds)) (Err result)
field_stopped field ds Memory Memory given changed = tt
field_stopped field ds Memory (Because value) given changed = absurd (cc)
field_stopped field ds (Because found) Memory given changed = tt
field_stopped field ds (Because found) (Because value) given changed = (ds, view found, refl, given, changed)

-- ---- members

pub member_read : (field : List ℕ) (before after : Option Data) (d e : Data) → Some d ≡ before → after ≡ Some e → IsListRead field d (Ok e) → IsMemberRead field before after
member_read field before after d e is made read = subst (λ b. IsMemberRead field b after) is (e, made, read)

pub member_missing : (field : List ℕ) (before after : Option Data) → None ≡ before → after ≡ None → IsMemberRead field before after
member_missing field before after is gone = subst (λ b. IsMemberRead field b after) is gone

pub member_stopped : (field : List ℕ) (before after : Option Data) (d : Data) (stop : Stop Value) → Some d ≡ before → Gives (IsListRead field d) (Err stop) → GivesMember {U = Unit} field before after (Err stop)
member_stopped field before after d Memory is given = tt
member_stopped field before after d (Because found) is given = (d, sym is, given)

-- ---- `yaml`

pub yaml_found : (d v : Data) (text : List ℕ) (value made : Data) → required_member (codes "text") d ≡ Ok v → text_in (codes "text") v ≡ Ok text → IsYamlRead text (Ok value) → made ≡ value_object value → IsYaml d (Ok made)
unfolding IsYaml
yaml_found d v text value made there is read shown =
    subst (λ a. IsYamlAsked a (Ok made)) (sym (ap (λ r. r >>= text_in (codes "text")) there ∙ is)) (Ok value, read, ap Ok shown)

pub yaml_stopped : (d v : Data) (text : List ℕ) (stop result : Stop Value) → required_member (codes "text") d ≡ Ok v → text_in (codes "text") v ≡ Ok text → Gives (IsYamlRead text) (Err stop) → IsChanged (with_field (codes "text")) stop result
    → Gives (IsYaml d) (Err result)
unfolding IsYaml
yaml_stopped d v text Memory Memory there is given changed = tt
yaml_stopped d v text Memory (Because value) there is given changed = absurd (cc)
yaml_stopped d v text (Because found) Memory there is given changed = tt
yaml_stopped d v text (Because found) (Because value) there is given changed =
    subst (λ a. IsYamlAsked a (Err (view value))) (sym (ap (λ r. r >>= text_in (codes "text")) there ∙ is)) (Err (view found), given, ap Err changed)
