-- What a validator returns, schema by schema.
use Rattle.std.proofs.Common.{◌≡◌, ℕ, zero, suc, arith, ◌+◌, ◌-◌, ◌<◌, ◌≤◌, true, false, List, ◌∷◌, length, map, drop, get_or, Option, None, Some, Result, Ok, Err, sym, ap, ◌∙◌, if◌then◌else◌}
use Rattle.std.proofs.lemmas.List.{drop_more, drop_all}
use Rattle.serde_json.specs.Data.{Data}
use Rattle.referencing.specs.Draft.{Draft}
use Rattle.referencing.specs.Child.{Child}
use Rattle.referencing.specs.Children.{Walked, walked_children}
use Rattle.referencing.specs.Views.{walked_child}
use Rattle.referencing.specs.Results.{◌>>=◌}
use Rattle.referencing.specs.Targets.{Refusal}
use Rattle.referencing.specs.World.{World}
use Rattle.referencing.specs.Fault.{Fault, as_invalid_uri}
use Rattle.referencing.specs.Lookup.{Resolver, Found, in_subresource}
use Rattle.referencing.specs.Error.{Error}
use Rattle.referencing.specs.Error.TheVariants as error
use Rattle.referencing.specs.Errors.{IsFaultOf}
use Rattle.uses.specs.declared.validator.Verdict.{Verdict}
use Rattle.uses.specs.declared.validator.Verdict.TheVariants.{Valid, Invalid, TooDeep}
use Rattle.uses.specs.Validating.{is_valid, is_of_type, referred_from, part_for, unless_valid, Validator, after_reference, at_child, at_children, validated_within}

-- ---- faults

-- where each fault of one answer is one of another, an error that says the first says the second
pub fault_as : {A B : Type 0} (answer : Result A Fault) (other : Result B Fault) (e : Error) → ((fault : Fault) → answer ≡ Err fault → other ≡ Err fault) → IsFaultOf answer e → IsFaultOf other e
fault_as answer other (error.Unretrievable uri source) also (fault, is, says) = (fault, also fault is, says)
fault_as answer other (error.PointerToNowhere pointer) also (fault, is, says) = (fault, also fault is, says)
fault_as answer other (error.InvalidPercentEncoding pointer) also (fault, is, says) = (fault, also fault is, says)
fault_as answer other (error.InvalidArrayIndex pointer index) also (fault, is, says) = (fault, also fault is, says)
fault_as answer other (error.NoSuchAnchor anchor) also (fault, is, says) = (fault, also fault is, says)
fault_as answer other (error.InvalidAnchor anchor) also (fault, is, says) = (fault, also fault is, says)
fault_as answer other (error.InvalidUri uri) also (fault, is, says) = (fault, also fault is, says)
fault_as answer other (error.UnknownSpecification specification) also (fault, is, says) = (fault, also fault is, says)
fault_as answer other (error.CircularMetaschema uri) also (fault, is, says) = (fault, also fault is, says)
fault_as answer other (error.RetrievalLimit uri limit) also (fault, is, says) = (fault, also fault is, says)
fault_as answer other (error.Memory memory) also is = tt

-- what a URI's meaning is where it is no fault
pub meant : {A : Type 0} (meaning : Result A Refusal) (x : A) → as_invalid_uri meaning ≡ Ok x → meaning ≡ Ok x
meant (Ok y) x is = (let same : y ≡ x = cc in ap (λ z. Ok z) same)
meant (Err refusal) x is = cc

-- ---- one answer, unless it is valid

pub goes_on : (first more : Result Verdict Fault) (v : Verdict) → first ≡ Ok v → is_valid v ≡ true → unless_valid first more ≡ more
goes_on first more v is valid = ap (λ a. unless_valid a more) is ∙ ap (λ b. if b then more else Ok v) valid

pub stops : (first more : Result Verdict Fault) (v : Verdict) → first ≡ Ok v → is_valid v ≡ false → unless_valid first more ≡ Ok v
stops first more v is other = ap (λ a. unless_valid a more) is ∙ ap (λ b. if b then more else Ok v) other

pub ends : (first more : Result Verdict Fault) (e : Error) → IsFaultOf first e → IsFaultOf (unless_valid first more) e
ends first more e = fault_as first (unless_valid first more) e (λ fault is. ap (λ a. unless_valid a more) is)

-- ---- one schema

pub too_deep : (w : World) (n : ℕ) (r : Resolver) (d : Draft) (s i : Data) → n ≡ 0 → validated_within w n r d s i ≡ Ok TooDeep
unfolding validated_within
too_deep w n r d s i is = rw is

below : (w : World) (n : ℕ) (r : Resolver) (d : Draft) (s i : Data) → 0 < n
    → validated_within w n r d s i ≡ (if is_of_type s i then unless_valid (after_reference (validated_within w (n - 1)) i (referred_from w r s)) (at_children (validated_within w (n - 1)) r i (walked_children d s)) else Ok Invalid)
unfolding validated_within
below w zero r d s i h = absurd (omega arith)
below w (suc n) r d s i h = let e : suc n - 1 ≡ n = omega arith in rw e

pub of_other_type : (w : World) (n : ℕ) (r : Resolver) (d : Draft) (s i : Data) → 0 < n → is_of_type s i ≡ false → validated_within w n r d s i ≡ Ok Invalid
of_other_type w n r d s i h is = below w n r d s i h ∙ ap (λ b. if b then unless_valid (after_reference (validated_within w (n - 1)) i (referred_from w r s)) (at_children (validated_within w (n - 1)) r i (walked_children d s)) else Ok Invalid) is

pub of_its_type : (w : World) (n : ℕ) (r : Resolver) (d : Draft) (s i : Data) → 0 < n → is_of_type s i ≡ true
    → validated_within w n r d s i ≡ unless_valid (after_reference (validated_within w (n - 1)) i (referred_from w r s)) (at_children (validated_within w (n - 1)) r i (walked_children d s))
of_its_type w n r d s i h is = below w n r d s i h ∙ ap (λ b. if b then unless_valid (after_reference (validated_within w (n - 1)) i (referred_from w r s)) (at_children (validated_within w (n - 1)) r i (walked_children d s)) else Ok Invalid) is

-- ---- after a reference

pub no_reference : (next : Validator) (i : Data) (o : Option (Result Found Fault)) → o ≡ None → after_reference next i o ≡ Ok Valid
no_reference next i o is = ap (after_reference next i) is

pub nowhere : (next : Validator) (i : Data) (o : Option (Result Found Fault)) (meaning : Result Found Fault) (e : Error) → o ≡ Some meaning → IsFaultOf meaning e → IsFaultOf (after_reference next i o) e
nowhere next i o meaning e is =
    fault_as meaning (after_reference next i o) e (λ fault ends. ap (after_reference next i) is ∙ ap (λ m. m >>= λ found. next found.resolver found.draft found.value i) ends)

pub there : (w v : World) (m : ℕ) (i : Data) (o : Option (Result Found Fault)) (found : Found) (r : Resolver) (d : Draft) (t : Data)
    → o ≡ Some (Ok found) → v ≡ w → r ≡ found.resolver → d ≡ found.draft → t ≡ found.value → after_reference (validated_within w m) i o ≡ validated_within v m r d t i
there w v m i o found r d t is world resolver draft value =
    ap (after_reference (validated_within w m) i) is
    ∙ ap (λ v. validated_within v m found.resolver found.draft found.value i) (sym world)
    ∙ ap (λ r. validated_within v m r found.draft found.value i) (sym resolver)
    ∙ ap (λ d. validated_within v m r d found.value i) (sym draft)
    ∙ ap (λ t. validated_within v m r d t i) (sym value)

-- ---- at a subschema

pub not_asked : (next : Validator) (r : Resolver) (i : Data) (child : Walked) → part_for child.path i ≡ None → at_child next r i child ≡ Ok Valid
not_asked next r i child is = rw is

part_of : (next : Validator) (r : Resolver) (i part : Data) (child : Walked) → part_for child.path i ≡ Some part
    → at_child next r i child ≡ (as_invalid_uri (in_subresource r child.draft child.value) >>= λ inner. next inner child.draft child.value part)
part_of next r i part child is = rw is

pub asked : (w v : World) (m : ℕ) (r inner : Resolver) (i part : Data) (child : Walked) → part_for child.path i ≡ Some part → in_subresource r child.draft child.value ≡ Ok inner → v ≡ w
    → at_child (validated_within w m) r i child ≡ validated_within v m inner child.draft child.value part
asked w v m r inner i part child is entered world =
    part_of (validated_within w m) r i part child is
    ∙ ap (λ a. as_invalid_uri a >>= λ inner. validated_within w m inner child.draft child.value part) entered
    ∙ ap (λ w. validated_within w m inner child.draft child.value part) (sym world)

pub not_entered : (next : Validator) (r : Resolver) (i part : Data) (child : Walked) (e : Error) → part_for child.path i ≡ Some part → IsFaultOf (as_invalid_uri (in_subresource r child.draft child.value)) e
    → IsFaultOf (at_child next r i child) e
not_entered next r i part child e is =
    fault_as (as_invalid_uri (in_subresource r child.draft child.value)) (at_child next r i child) e
    (λ fault refused. part_of next r i part child is ∙ ap (λ a. a >>= λ inner. next inner child.draft child.value part) refused)

-- the first of the subschemas that are left
pub one_more : (next : Validator) (r : Resolver) (i : Data) (children : List Child) (at : ℕ) (child : Child) → at < length children → child ≡ get_or children at child
    → at_children next r i (map walked_child (drop at children)) ≡ unless_valid (at_child next r i (walked_child child)) (at_children next r i (map walked_child (drop (at + 1) children)))
unfolding at_children
one_more next r i children at child h is =
    ap (λ cs. at_children next r i (map walked_child cs)) (drop_more children at child h ∙ ap (λ c. c ∷ drop (at + 1) children) (sym is))

-- none is left
pub none_left : (next : Validator) (r : Resolver) (i : Data) (children : List Child) (at : ℕ) → length children ≤ at → at_children next r i (map walked_child (drop at children)) ≡ Ok Valid
unfolding at_children
none_left next r i children at h = ap (λ cs. at_children next r i (map walked_child cs)) (drop_all at children h)

-- past the reference, at the first subschema
pub past_reference : (w : World) (n : ℕ) (r : Resolver) (d : Draft) (s i : Data) (v : Verdict) (children : List Child) → 0 < n → is_of_type s i ≡ true
    → after_reference (validated_within w (n - 1)) i (referred_from w r s) ≡ Ok v → is_valid v ≡ true → walked_children d s ≡ map walked_child children
    → validated_within w n r d s i ≡ at_children (validated_within w (n - 1)) r i (map walked_child (drop 0 children))
past_reference w n r d s i v children h its led valid are =
    of_its_type w n r d s i h its
    ∙ goes_on (after_reference (validated_within w (n - 1)) i (referred_from w r s)) (at_children (validated_within w (n - 1)) r i (walked_children d s)) v led valid
    ∙ ap (at_children (validated_within w (n - 1)) r i) are
