-- Members of embedded documents.
use Rattle.std.proofs.Common.{◌≡◌, ℕ, zero, suc, Bool, true, false, cond, List, [], ◌∷◌, Option, Some, None, option_map, slice_get, codes, bytes_eq, true≢false, refl, sym, ap, subst, ◌∙◌}
use Rattle.std.specs.Option.{option_or}
use Rattle.std.specs.List.{AllByRecursion}
use Rattle.std.proofs.lemmas.Slice.Eq.{bytes_eq-Decides}
use Rattle.serde_json.specs.Data.{Data, null, boolean, number, string, array, object}
use Rattle.serde_json.specs.Find.{get}
use Rattle.serde_json.proofs.Views.{get_member-put, get_member-put_other}
use Rattle.ref_draft.specs.declared.draft.Draft.{Draft}
use Rattle.ref_draft.specs.Keywords.{id_keyword}
use Rattle.ref_draft.specs.Children.{is_object}
use Rattle.ref_definitions.specs.World.{Document}
use Rattle.ref_bundle.specs.Embedding.{base_uri, added_schema, with_member, with_schema, embedded_tree}
use Rattle.ref_bundle.specs.inner.Members.{added_text}

-- what is under a key of an object that gets a member
get_with : (q key text : List ℕ) (tree : Data) → is_object tree ≡ true
    → get q (with_member key (string text) tree) ≡ option_or (cond (bytes_eq q key) (Some (string text)) None) (get q tree)
get_with q key text (object ms) is =
    elim (bytes_eq q key) as (λ b. bytes_eq q key ≡ b → get q (with_member key (string text) (object ms)) ≡ option_or (cond b (Some (string text)) None) (get q (object ms))) [
      | true ↦ λ same. ap (λ k. get k (with_member key (string text) (object ms))) ((bytes_eq-Decides q key).0 same) ∙ get_member-put key (string text) ms
      | false ↦ λ other. get_member-put_other q key (string text) ms (λ e. true≢false (sym ((bytes_eq-Decides q key).1 e) ∙ other))
    ] refl
get_with q key text null is = absurd (true≢false (sym is))
get_with q key text (boolean b) is = absurd (true≢false (sym is))
get_with q key text (number n) is = absurd (true≢false (sym is))
get_with q key text (string s) is = absurd (true≢false (sym is))
get_with q key text (array ds) is = absurd (true≢false (sym is))

object_with : (key : List ℕ) (value tree : Data) → is_object tree ≡ true → is_object (with_member key value tree) ≡ true
object_with key value (object ms) is = refl
object_with key value null is = is
object_with key value (boolean b) is = is
object_with key value (number n) is = is
object_with key value (string s) is = is
object_with key value (array ds) is = is

first_or : (a b : Bool) (text uri : List ℕ) (rest : Option Data)
    → option_or (cond a (Some (string text)) None) (option_or (cond b (Some (string uri)) None) rest)
    ≡ option_or (option_map (λ t. string t) (option_or (cond a (Some text) None) (cond b (Some uri) None))) rest
first_or true b text uri rest = refl
first_or false true text uri rest = refl
first_or false false text uri rest = refl

second_or : (a b : Bool) (uri : List ℕ) (rest : Option Data)
    → option_or (cond b (Some (string uri)) None) rest
    ≡ option_or (option_map (λ t. string t) (option_or (cond a None None) (cond b (Some uri) None))) rest
second_or true true uri rest = refl
second_or true false uri rest = refl
second_or false true uri rest = refl
second_or false false uri rest = refl

-- what is under a key of the tree of a document that is an object
get_embedded : (draft : Draft) (d : Document) (key : List ℕ) → is_object d.tree ≡ true
    → get key (embedded_tree draft d) ≡ option_or (option_map (λ t. string t) (added_text draft d key)) (get key d.tree)
get_embedded draft d key is =
    let tree = with_member (id_keyword d.draft) (string (base_uri d)) d.tree in
    let identified = get_with key (id_keyword d.draft) (base_uri d) d.tree is in
    elim (added_schema draft d) as (λ s. get key (with_schema s tree)
    ≡ option_or (option_map (λ t. string t) (option_or (cond (bytes_eq key (codes "$schema")) s None) (cond (bytes_eq key (id_keyword d.draft)) (Some (base_uri d)) None))) (get key d.tree)) [
      | None ↦ identified ∙ second_or (bytes_eq key (codes "$schema")) (bytes_eq key (id_keyword d.draft)) (base_uri d) (get key d.tree)
      | Some text ↦
          get_with key (codes "$schema") text tree (object_with (id_keyword d.draft) (string (base_uri d)) d.tree is)
          ∙ ap (λ o. option_or (cond (bytes_eq key (codes "$schema")) (Some (string text)) None) o) identified
          ∙ first_or (bytes_eq key (codes "$schema")) (bytes_eq key (id_keyword d.draft)) text (base_uri d) (get key d.tree)
    ]

-- a text that is added
pub got_text : (draft : Draft) (d : Document) (key text : List ℕ) → is_object d.tree ≡ true → Some text ≡ added_text draft d key → Some (string text) ≡ get key (embedded_tree draft d)
got_text draft d key text is added =
    ap (λ o. option_or (option_map (λ t. string t) o) (get key d.tree)) added ∙ sym (get_embedded draft d key is)

-- a member that stays
pub got_own : (draft : Draft) (d : Document) (key : List ℕ) (o : Option Data) → is_object d.tree ≡ true → None ≡ added_text draft d key → o ≡ get key d.tree → o ≡ get key (embedded_tree draft d)
got_own draft d key o is added own =
    own ∙ ap (λ t. option_or (option_map (λ t. string t) t) (get key d.tree)) added ∙ sym (get_embedded draft d key is)

no_member : (key id uri : List ℕ) (schema : Option (List ℕ)) (tree : Data) → is_object tree ≡ false → None ≡ get key (with_schema schema (with_member id (string uri) tree))
no_member key id uri schema (object ms) is = absurd (true≢false is)
no_member key id uri None null is = refl
no_member key id uri (Some text) null is = refl
no_member key id uri None (boolean b) is = refl
no_member key id uri (Some text) (boolean b) is = refl
no_member key id uri None (number n) is = refl
no_member key id uri (Some text) (number n) is = refl
no_member key id uri None (string s) is = refl
no_member key id uri (Some text) (string s) is = refl
no_member key id uri None (array ds) is = refl
no_member key id uri (Some text) (array ds) is = refl

-- what is no object has no member
pub got_none : (draft : Draft) (d : Document) (key : List ℕ) → is_object d.tree ≡ false → None ≡ get key (embedded_tree draft d)
got_none draft d key is = no_member key (id_keyword d.draft) (base_uri d) (added_schema draft d) d.tree is

-- what holds of each of a list holds of the one at an index
pub all_in : {X : Type 0} (P : X → Type 0) (xs : List X) (i : ℕ) (x : X) → AllByRecursion P xs → slice_get xs i ≡ Some x → P x
all_in P [] i x all is = let none : None ≡ Some x = is in absurd (cc)
all_in P (y ∷ ys) zero x all is = let same : y ≡ x = cc in subst P same all.0
all_in P (y ∷ ys) (suc i) x all is = all_in P ys i x all.1 is
