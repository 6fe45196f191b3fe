-- Which values events have, and which have none: for rows.
use Rattle.std.proofs.Common.{◌≡◌, ◌⊎◌, inl, inr, ℕ, List, [], ◌∷◌, true, false, Some, None, IsTrue, get_or, drop, length, All, refl, ap, sym, ◌∙◌, subst, codes, arith}
use Rattle.std.proofs.lemmas.List.Elements.{All-nil, All-cons}
use Rattle.serde_json.specs.Data.{Data, string, array, object, Members, no_members, put}
use Rattle.serde_json.specs.Find.{get_member}
use Rattle.serde_json.specs.View.{items_of}
use Rattle.ref_yaml.specs.Documents.{AreEventsOf, IsYamlOf}
use Rattle.ref_yaml.specs.Events.{is_scalar, IsWithin, IsInPlace}
use Rattle.ref_yaml.specs.Values.{IsValue, AreItems, AreMembers, IsText, IsScalar, scalar, list, members, no_item, one_more_item, no_member, one_more_member}
use Rattle.ref_yaml.specs.Rows as rows
use Rattle.ref_yaml.specs.declared.event.Event.{Event}
use Rattle.ref_yaml.specs.declared.event.Kind.{Kind}
use Rattle.ref_yaml.specs.declared.event.Kind.TheVariants.{BeginArray, EndArray, BeginObject, EndObject, Plain, SingleQuoted}

false_true : false ≡ true → ⊥
false_true h = cc

head_is : (x y : Event) (xs ys : List Event) → x ∷ xs ≡ y ∷ ys → x ≡ y
head_is x y xs ys e = ap (λ (l : List Event). get_or l 0 x) e

tail_is : (x y : Event) (xs ys : List Event) → x ∷ xs ≡ y ∷ ys → xs ≡ ys
tail_is x y xs ys e = ap (λ (l : List Event). drop 1 l) e

no_tail : (x y z : Event) (zs : List Event) → x ∷ [] ≡ y ∷ z ∷ zs → ⊥
no_tail x y z zs e = let same : [] ≡ z ∷ zs = tail_is x y [] (z ∷ zs) e in cc

kind_is : (x y : Event) (xs ys : List Event) (k : Kind) → x ∷ xs ≡ y ∷ ys → x.kind ≡ k → y.kind ≡ k
kind_is x y xs ys k e is = ap (λ (z : Event). z.kind) (sym (head_is x y xs ys e)) ∙ is

not_scalar : (k l : Kind) → IsTrue (is_scalar k) → k ≡ l → is_scalar l ≡ false → ⊥
not_scalar k l one is not = false_true (sym not ∙ subst (λ (x : Kind). IsTrue (is_scalar x)) is one)

-- a scalar is one event
one_event : (text : List ℕ) (es : List Event) (d : Data) (rest : List Event) → IsValue text es d rest → (e : Event) (more : List Event) → es ≡ e ∷ more → IsTrue (is_scalar e.kind) → rest ≡ more
one_event text es d rest (scalar f x after k s t) e more is one = tail_is f e after more is
one_event text es d rest (list f end fs after ds k b n items t) e more is one = absurd (not_scalar e.kind BeginArray one (kind_is f e fs more BeginArray is b) refl)
one_event text es d rest (members f end fs after ms k b n found t) e more is one = absurd (not_scalar e.kind BeginObject one (kind_is f e fs more BeginObject is b) refl)

object_of : (text : List ℕ) (es : List Event) (d : Data) (rest : List Event) → IsValue text es d rest → (e : Event) (more : List Event) → es ≡ e ∷ more → e.kind ≡ BeginObject
    → (ms : Members) × (end : Event) × AreMembers text more ms (end ∷ rest)
object_of text es d rest (scalar f x after k s t) e more is one = absurd (not_scalar f.kind BeginObject s.1.is_one (kind_is e f more after BeginObject (sym is) one) refl)
object_of text es d rest (list f end fs after ds k b n items t) e more is one = let both : BeginArray ≡ BeginObject = sym (kind_is f e fs more BeginArray is b) ∙ one in absurd (cc)
object_of text es d rest (members f end fs after ms k b n found t) e more is one = (ms, end, subst (λ (l : List Event). AreMembers text l ms (end ∷ after)) (tail_is f e fs more is) found)

-- what two members with one key may be after some of them: none, or the first
two_members : (text : List ℕ) (es : List Event) (ms : Members) (rest : List Event) → AreMembers text es ms rest → (k v l w end : Event) (name : List ℕ) → es ≡ k ∷ v ∷ l ∷ w ∷ end ∷ []
    → IsTrue (is_scalar v.kind) → ((s : List ℕ) → IsText text k s → s ≡ name) → ((s : List ℕ) → IsText text l s → s ≡ name) → ((d : Data) → get_member name (put name d no_members) ≡ Some d)
    → ((rest ≡ k ∷ v ∷ l ∷ w ∷ end ∷ []) × (ms ≡ no_members)) ⊎ ((rest ≡ l ∷ w ∷ end ∷ []) × ((d : Data) × (ms ≡ put name d no_members)))
two_members text es ms rest (no_member fs) k v l w end name is one first second has = inl (is, refl)
two_members text es ms rest (one_more_member fs next after old key own d before marked named new value) k v l w end name is one first second has =
    elim (two_members text fs old (key ∷ next) before k v l w end name is one first second has) [
      | inl p ↦
          let same : own ≡ name = first own (subst (λ (e : Event). IsText text e own) (head_is key k next (v ∷ l ∷ w ∷ end ∷ []) p.0) named) in
          inr (one_event text next d after value v (l ∷ w ∷ end ∷ []) (tail_is key k next (v ∷ l ∷ w ∷ end ∷ []) p.0) one, (d, rw (same, p.1) refl))
      | inr p ↦
          let same : own ≡ name = second own (subst (λ (e : Event). IsText text e own) (head_is key l next (w ∷ end ∷ []) p.0) named) in
          let there : get_member own old ≡ Some p.1.0 = rw (same, p.1.1) (has p.1.0) in
          let both : None ≡ Some p.1.0 = sym new ∙ there in
          absurd (cc)
    ]

-- the rows
quoted_text : IsText rows.quoted rows.quoted_event (codes "it's")
quoted_text = record {
  is_one = refl;
  plain = λ h. absurd (cc);
  single = λ h. refl;
  double = λ h. absurd (cc);
  literal = λ h. absurd (cc);
  folded = λ h. absurd (cc);
}

single_text_in : (text : List ℕ) (start end : ℕ) (s : List ℕ) → IsText text (rows.event SingleQuoted start end) s → IsScalar text (rows.event SingleQuoted start end) (string s)
single_text_in text start end s is = (s, is, refl)

pub quoted_scalar : IsScalar rows.quoted rows.quoted_event (string (codes "it's"))
quoted_scalar = single_text_in rows.quoted 0 7 (codes "it's") quoted_text

single_in : (text : List ℕ) (start end : ℕ) (s : List ℕ) → (IsText text (rows.event SingleQuoted start end) s) → IsValue text (rows.event SingleQuoted start end ∷ []) (string s) []
single_in text start end s is = scalar (rows.event SingleQuoted start end) (string s) [] refl (s, is, refl) refl

pub quoted_value : IsValue rows.quoted (rows.quoted_event ∷ []) (string (codes "it's")) []
quoted_value = single_in rows.quoted 0 7 (codes "it's") quoted_text

first_item : IsText rows.listed (rows.event SingleQuoted 1 4) (codes "a")
first_item = record { is_one = refl; plain = λ h. absurd (cc); single = λ h. refl; double = λ h. absurd (cc); literal = λ h. absurd (cc); folded = λ h. absurd (cc) }

second_item : IsText rows.listed (rows.event SingleQuoted 6 9) (codes "b")
second_item = record { is_one = refl; plain = λ h. absurd (cc); single = λ h. refl; double = λ h. absurd (cc); literal = λ h. absurd (cc); folded = λ h. absurd (cc) }

pub listed_value : IsValue rows.listed rows.listed_events (array (items_of (string (codes "a") ∷ string (codes "b") ∷ []))) []
listed_value =
    let end = rows.event EndArray 9 10 in
    let a = rows.event SingleQuoted 1 4 in
    let b = rows.event SingleQuoted 6 9 in
    let one : AreItems rows.listed (a ∷ b ∷ end ∷ []) (string (codes "a") ∷ []) (b ∷ end ∷ []) =
    one_more_item (a ∷ b ∷ end ∷ []) (a ∷ b ∷ end ∷ []) (b ∷ end ∷ []) [] (string (codes "a")) (no_item (a ∷ b ∷ end ∷ []))
    (scalar a (string (codes "a")) (b ∷ end ∷ []) refl (single_text_in rows.listed 1 4 (codes "a") first_item) refl) in
    let both : AreItems rows.listed (a ∷ b ∷ end ∷ []) (string (codes "a") ∷ string (codes "b") ∷ []) (end ∷ []) =
    one_more_item (a ∷ b ∷ end ∷ []) (b ∷ end ∷ []) (end ∷ []) (string (codes "a") ∷ []) (string (codes "b")) one
    (scalar b (string (codes "b")) (end ∷ []) refl (single_text_in rows.listed 6 9 (codes "b") second_item) refl) in
    list (rows.event BeginArray 0 0) end (a ∷ b ∷ end ∷ []) [] (string (codes "a") ∷ string (codes "b") ∷ []) refl refl refl both refl

pub plain_key : IsText rows.named (rows.key Plain 1 2) (codes "a")
plain_key = record { is_one = refl; plain = λ h. refl; single = λ h. absurd (cc); double = λ h. absurd (cc); literal = λ h. absurd (cc); folded = λ h. absurd (cc) }

named_member : IsText rows.named (rows.event SingleQuoted 4 7) (codes "b")
named_member = record { is_one = refl; plain = λ h. absurd (cc); single = λ h. refl; double = λ h. absurd (cc); literal = λ h. absurd (cc); folded = λ h. absurd (cc) }

pub named_value : IsValue rows.named rows.named_events (object (put (codes "a") (string (codes "b")) no_members)) []
named_value =
    let end = rows.event EndObject 7 8 in
    let key = rows.key Plain 1 2 in
    let b = rows.event SingleQuoted 4 7 in
    let one : AreMembers rows.named (key ∷ b ∷ end ∷ []) (put (codes "a") (string (codes "b")) no_members) (end ∷ []) =
    one_more_member (key ∷ b ∷ end ∷ []) (b ∷ end ∷ []) (end ∷ []) no_members key (codes "a") (string (codes "b")) (no_member (key ∷ b ∷ end ∷ [])) refl plain_key refl
    (scalar b (string (codes "b")) (end ∷ []) refl (single_text_in rows.named 4 7 (codes "b") named_member) refl) in
    members (rows.event BeginObject 0 0) end (key ∷ b ∷ end ∷ []) [] (put (codes "a") (string (codes "b")) no_members) refl refl refl one refl

pub no_value : (d : Data) → IsValue rows.twice rows.twice_events d [] → ⊥
no_value d v =
    let k = rows.key Plain 1 2 in
    let b = rows.event SingleQuoted 4 7 in
    let l = rows.key Plain 9 10 in
    let c = rows.event SingleQuoted 12 15 in
    let end = rows.event EndObject 15 16 in
    let is = object_of rows.twice rows.twice_events d [] v (rows.event BeginObject 0 0) (k ∷ b ∷ l ∷ c ∷ end ∷ []) refl refl in
    elim (two_members rows.twice (k ∷ b ∷ l ∷ c ∷ end ∷ []) is.0 (is.1 ∷ []) is.2 k b l c end (codes "a") refl refl (λ s t. t.plain refl) (λ s t. t.plain refl) (λ x. refl)) [
      | inl p ↦ no_tail is.1 k b (l ∷ c ∷ end ∷ []) p.0
      | inr p ↦ no_tail is.1 l c (end ∷ []) p.0
    ]

-- events one by one
one_more : (text : List ℕ) (e : Event) (es : List Event) → IsWithin (length text) e → IsInPlace text e → All (IsWithin (length text)) es × All (IsInPlace text) es
    → All (IsWithin (length text)) (e ∷ es) × All (IsInPlace text) (e ∷ es)
one_more text e es within place more = (All-cons (IsWithin (length text)) e es within more.0, All-cons (IsInPlace text) e es place more.1)

none : (text : List ℕ) → All (IsWithin (length text)) [] × All (IsInPlace text) []
none text = (All-nil (IsWithin (length text)), All-nil (IsInPlace text))

quoted_events : AreEventsOf rows.quoted (rows.quoted_event ∷ [])
quoted_events =
    let all = one_more rows.quoted rows.quoted_event [] (omega arith, omega arith) (refl, λ h. refl) (none rows.quoted) in
    (all.0, all.1, omega arith)

pub quoted_read : IsYamlOf rows.quoted (string (codes "it's"))
quoted_read = (rows.quoted_event ∷ [], quoted_events, quoted_value)

named_events : AreEventsOf rows.named rows.named_events
named_events =
    let begin = rows.event BeginObject 0 0 in
    let key = rows.key Plain 1 2 in
    let b = rows.event SingleQuoted 4 7 in
    let end = rows.event EndObject 7 8 in
    let last = one_more rows.named end [] (omega arith, omega arith) (refl, λ h. refl) (none rows.named) in
    let two = one_more rows.named b (end ∷ []) (omega arith, omega arith) (refl, λ h. refl) last in
    let three = one_more rows.named key (b ∷ end ∷ []) (omega arith, omega arith) (refl, λ h. refl) two in
    let all = one_more rows.named begin (key ∷ b ∷ end ∷ []) (omega arith, omega arith) (refl, λ h. refl) three in
    (all.0, all.1, omega arith)

pub named_read : IsYamlOf rows.named (object (put (codes "a") (string (codes "b")) no_members))
named_read = (rows.named_events, named_events, named_value)
