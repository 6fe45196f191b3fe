-- The parts of values: how deep they nest, and what they make.
use Rattle.std.proofs.Common.{◌≡◌, ℕ, ◌≤◌, List, [], ◌∷◌, ◌++◌, true, false, Option, Some, None, Result, Ok, Err, IfOk, IfSome, Bor, IsTrue, is_some, All, refl, ap, ◌∙◌, arith, Ordering, Less, Equal, Greater}
use Rattle.std.specs.Ordering.{match_ordering, nat_cmp}
use Rattle.std.specs.Cmp.Lexicographic.{slice_cmp}
use Rattle.serde_json.specs.Data.{Data, null, boolean, number, string, array, object, Members, no_members, member, put, depth, items_depth, members_depth}
use Rattle.serde_json.specs.Find.{as_number, get_member}
use Rattle.serde_json.specs.View.{view, items_of}
use Rattle.serde_json.specs.declared.value.Value.{Value}
use Rattle.ref_yaml.specs.Values.{IsValue, AreItems, AreMembers, IsText, IsScalar, fits, scalar, list, members, one_more_item, one_more_member}
use Rattle.ref_yaml.specs.Passing.{IsWithoutMark}
use Rattle.ref_yaml.specs.Scalars.{part, plain_text}
use Rattle.ref_yaml.proofs.OneLine.{plain_same}
use Rattle.ref_yaml.specs.declared.event.Event.{Event}
use Rattle.ref_yaml.specs.declared.fault.Stop.{Stop}
use Rattle.ref_yaml.specs.declared.event.Kind.TheVariants.{BeginArray, EndArray, BeginObject, EndObject, Plain}

pub number_depth : (d : Data) → is_some (as_number d) ≡ true → depth d ≡ 0
number_depth null h = cc
number_depth (boolean b) h = cc
number_depth (number n) h = refl
number_depth (string s) h = cc
number_depth (array ds) h = cc
number_depth (object ms) h = cc

pub is_none : (o : Option Data) → is_some o ≡ false → o ≡ None
is_none None h = refl
is_none (Some d) h = cc

pub plain_is : (text : List ℕ) (e : Event) (s : List ℕ) → e.kind ≡ Plain → s ≡ part text e.start e.end → All (IsWithoutMark 10) s → IsText text e s
plain_is text e s k is all = record {
  is_one = rw k refl;
  plain = λ h. plain_same 10 s all ∙ ap plain_text is;
  single = λ h. absurd (cc);
  double = λ h. absurd (cc);
  literal = λ h. absurd (cc);
  folded = λ h. absurd (cc);
}

pub plain_line_is : (text : List ℕ) (e : Event) (r : Option (Bor (List ℕ))) → e.kind ≡ Plain → IfSome r (λ s. s.now ≡ part text e.start e.end) → IfSome r (λ s. All (IsWithoutMark 10) s.now)
    → IfSome r (λ s. IsText text e s.now)
plain_line_is text e None k is all = tt
plain_line_is text e (Some s) k is all = plain_is text e s.now k is all

pub scalar_is : (text : List ℕ) (e : Event) (es rest : List Event) (r : Result Value Stop) → IfOk r (λ v. IsScalar text e (view v)) → IfOk r (λ v. IsTrue (fits e.tag (view v)))
    → e.is_key ≡ false → es ≡ e ∷ rest → IfOk r (λ v. IsValue text es (view v) rest)
scalar_is text e es rest (Ok v) is f plain step = rw step (scalar e (view v) rest plain is f)
scalar_is text e es rest (Err stop) is f plain step = tt

pub one_more_depth : (n : ℕ) (ds : List Data) (d : Data) → items_depth (items_of ds) ≤ n → depth d ≤ n → items_depth (items_of (ds ++ d ∷ [])) ≤ n
one_more_depth n [] d h k = omega arith
one_more_depth n (x ∷ ds) d h k =
    let later : items_depth (items_of (ds ++ d ∷ [])) ≤ n = one_more_depth n ds d (omega arith) k in
    omega arith

at_most : (o : Ordering) (n : ℕ) (a b c : Members) → members_depth a ≤ n → members_depth b ≤ n → members_depth c ≤ n → members_depth (match_ordering o a b c) ≤ n
at_most Less n a b c h i j = h
at_most Equal n a b c h i j = i
at_most Greater n a b c h i j = j

pub put_depth : (n : ℕ) (k : List ℕ) (d : Data) (ms : Members) → members_depth ms ≤ n → depth d ≤ n → members_depth (put k d ms) ≤ n
put_depth n k d no_members h i = omega arith
put_depth n k d (member l e ms) h i =
    let later : members_depth (put k d ms) ≤ n = put_depth n k d ms (omega arith) i in
    at_most (slice_cmp nat_cmp k l) n (member k d (member l e ms)) (member l d ms) (member l e (put k d ms)) (omega arith) (omega arith) (omega arith)

pub list_is : (text : List ℕ) (begin end : Event) (es rest after : List Event) (ds : List Data) (d : Data) → d ≡ array (items_of ds) → begin.is_key ≡ false → begin.kind ≡ BeginArray → end.kind ≡ EndArray
    → IsTrue (fits begin.tag (array (items_of ds))) → AreItems text es ds rest → rest ≡ end ∷ after → IsValue text (begin ∷ es) d after
list_is text begin end es rest after ds d is plain b e f items step = rw is (list begin end es after ds plain b e (rw step at items) f)

pub object_is : (text : List ℕ) (begin end : Event) (es rest after : List Event) (ms : Members) (d : Data) → d ≡ object ms → begin.is_key ≡ false → begin.kind ≡ BeginObject → end.kind ≡ EndObject
    → IsTrue (fits begin.tag (object ms)) → AreMembers text es ms rest → rest ≡ end ∷ after → IsValue text (begin ∷ es) d after
object_is text begin end es rest after ms d is plain b e f found step = rw is (members begin end es after ms plain b e (rw step at found) f)

pub item_more : (text : List ℕ) (es next rest : List Event) (ds more : List Data) (d : Data) → more ≡ ds ++ d ∷ [] → AreItems text es ds next → IsValue text next d rest → AreItems text es more rest
item_more text es next rest ds more d is items value = rw is (one_more_item es next rest ds d items value)

pub member_more : (text : List ℕ) (es at next rest : List Event) (ms more : Members) (key : Event) (name : List ℕ) (d : Data) → more ≡ put name d ms → at ≡ key ∷ next → AreMembers text es ms at
    → key.is_key ≡ true → IsText text key name → get_member name ms ≡ None → IsValue text next d rest → AreMembers text es more rest
member_more text es at next rest ms more key name d is step found marked named new value = rw is (one_more_member es next rest ms key name d (rw step at found) marked named new value)
