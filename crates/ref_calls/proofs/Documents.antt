-- Documents that are taken out of a call.
use Rattle.std.proofs.Common.{◌≡◌, ◌≢◌, ℕ, Bool, true, false, cond, Ordering, Less, Equal, Greater, List, [], ◌∷◌, ◌++◌, Some, None, length, suc, ◌+◌, Ok, add-one, map, refl, sym, ap, ◌∙◌, String, Global, string_bytes, nat_cmp, is_eq}
use Rattle.std.proofs.lemmas.List.{map-append}
use Rattle.std.proofs.lemmas.Map.Text.{is_eq-slice_cmp}
use Rattle.std.proofs.lemmas.Slice.Eq.{bytes_eq-Decides}
use Rattle.std.specs.Ordering.{match_ordering}
use Rattle.std.specs.Cmp.Lexicographic.{slice_cmp}
use Rattle.std.specs.Map.{remove_entry}
use Rattle.std.specs.BTreeMap.{is_at}
use Rattle.serde_json.specs.Find.{get_member}
use Rattle.serde_json.specs.View.{view, items_view, members_view}
use Rattle.serde_json.specs.declared.value.Value.{Value}
use Rattle.serde_json.proofs.Views.{Entry, member_later}
use Rattle.ref_calls.specs.Calls.{pair_of, document_in, each_item}
use Rattle.ref_calls.proofs.Further.{in_front, in_front_push, first_read}
use Rattle.ref_definitions.specs.Results.{◌>>=◌}
use Rattle.ref_calls.specs.Given.{given_of}

pub not_pair : (vs : List Value) → length vs ≢ 2 → None ≡ pair_of (items_view vs)
not_pair [] other = refl
not_pair (a ∷ []) other = refl
not_pair (a ∷ b ∷ []) other = absurd (other refl)
not_pair (a ∷ b ∷ c ∷ vs) other = refl

pub documents_next : (field : List ℕ) (n m : ℕ) (done : List (String Global × Value)) (d : String Global × Value) (item : Value) (rest : List Value)
    → m ≡ n + 1 → document_in field n (view item) ≡ Ok (given_of d)
    → in_front (map given_of (done ++ d ∷ [])) (each_item (document_in field) m (items_view rest))
    ≡ in_front (map given_of done) (each_item (document_in field) n (items_view (item ∷ rest)))
documents_next field n m done d item rest next read =
    let f = document_in field in
    let left = each_item f (suc n) (items_view rest) in
    ap (λ k. in_front (map given_of (done ++ d ∷ [])) (each_item f k (items_view rest))) (next ∙ add-one n)
    ∙ ap (λ xs. in_front xs left) (map-append given_of done (d ∷ [])) ∙ in_front_push (map given_of done) (given_of d) left
    ∙ ap (in_front (map given_of done)) (sym (first_read (given_of d) left) ∙ ap (λ r. r >>= λ x. left >>= λ xs. Ok (x ∷ xs)) (sym read))

-- ---- a member that is taken out

kept_at : (b : Bool) (name other : List ℕ) (e : Entry) (es : List Entry) → is_eq (slice_cmp nat_cmp name (string_bytes e.0)) ≡ b → other ≢ name
    → get_member other (members_view (remove_entry (is_at (λ k. slice_cmp nat_cmp name (string_bytes k))) es)) ≡ get_member other (members_view es)
    → get_member other (members_view (cond b es (e ∷ remove_entry (is_at (λ k. slice_cmp nat_cmp name (string_bytes k))) es))) ≡ get_member other (members_view (e ∷ es))
kept_at true name other e es is apart later =
    let same : name ≡ string_bytes e.0 = (bytes_eq-Decides name (string_bytes e.0)).0 (sym (is_eq-slice_cmp name (string_bytes e.0)) ∙ is) in
    sym (member_later other e es (λ h. apart (h ∙ sym same)))
kept_at false name other e es is apart later = ap (λ r. match_ordering (slice_cmp nat_cmp other (string_bytes e.0)) r (Some (view e.1)) r) later

pub others_kept : (name other : List ℕ) (es : List Entry) → other ≢ name
    → get_member other (members_view (remove_entry (is_at (λ k. slice_cmp nat_cmp name (string_bytes k))) es)) ≡ get_member other (members_view es)
others_kept name other [] apart = refl
others_kept name other (e ∷ es) apart = kept_at (is_eq (slice_cmp nat_cmp name (string_bytes e.0))) name other e es refl apart (others_kept name other es apart)

gone_at : (o : Ordering) (name : List ℕ) (e : Entry) (es more : List Entry) → slice_cmp nat_cmp name (string_bytes e.0) ≡ o → None ≡ get_member name (members_view (e ∷ es))
    → (None ≡ get_member name (members_view es) → get_member name (members_view more) ≡ None) → get_member name (members_view (cond (is_eq o) es (e ∷ more))) ≡ None
gone_at Less name e es more is none later =
    ap (λ o. match_ordering o (get_member name (members_view more)) (Some (view e.1)) (get_member name (members_view more))) is
    ∙ later (none ∙ ap (λ o. match_ordering o (get_member name (members_view es)) (Some (view e.1)) (get_member name (members_view es))) is)
gone_at Equal name e es more is none later = absurd (let same = none ∙ ap (λ o. match_ordering o (get_member name (members_view es)) (Some (view e.1)) (get_member name (members_view es))) is in cc)
gone_at Greater name e es more is none later =
    ap (λ o. match_ordering o (get_member name (members_view more)) (Some (view e.1)) (get_member name (members_view more))) is
    ∙ later (none ∙ ap (λ o. match_ordering o (get_member name (members_view es)) (Some (view e.1)) (get_member name (members_view es))) is)

-- what wasn't there isn't there after it is taken out
pub still_gone : (name : List ℕ) (es : List Entry) → None ≡ get_member name (members_view es) → get_member name (members_view (remove_entry (is_at (λ k. slice_cmp nat_cmp name (string_bytes k))) es)) ≡ None
still_gone name [] none = refl
still_gone name (e ∷ es) none = gone_at (slice_cmp nat_cmp name (string_bytes e.0)) name e es _ refl none (still_gone name es)
