-- What was passed of tokens, after one more.
use Rattle.std.proofs.Common.{◌≡◌, ℕ, ◌+◌, List, [], ◌∷◌, ◌++◌, Option, length, zero, suc, refl, ap, sym, ◌∙◌, arith, replicate, None, Some, get_or}
use Rattle.std.proofs.lemmas.Grind.{common_steps}
use Rattle.std.proofs.lemmas.List.{append_assoc}
use Rattle.std.proofs.lemmas.List.Elements.{All-head, All-tail}
use Rattle.std.proofs.lemmas.List.Sums.{fold-append}
use Rattle.ref_positions.specs.Paths.{Path}
use Rattle.ref_positions.specs.Parts.{Token, Next, next, Part, begun, parts, passed}
use Rattle.std.proofs.Common.{◌<◌, ◌≤◌, ◌-◌, ◌^◌, take, Bool, true, false, IsTrue, IsSome, is_some, subst, slice_get, IsUtf8, All}
use Rattle.ref_positions.specs.Parts.{value, name, nothing, key, object, array, scalar, close}
use Rattle.ref_positions.specs.Paths.{member, number_of}
use Rattle.ref_positions.specs.Places.{IsTree}
use Rattle.ref_positions.specs.Walks.{IsWalk, IsComing, IsTable, AreOpen, Passes, IsOtherKey, is_asked, has_number, IsCounted}
use Rattle.ref_positions.specs.Events.{IsTokenOf, IsScalarOf, IsAsked, AreTokens, Takes, ArePassed, AreFoundIn, Stops, HasUnnamed}
use Rattle.ref_positions.specs.declared.walk.Found.{Found}
use Rattle.ref_positions.specs.declared.walk.Level.{Level}
use Rattle.ref_positions.specs.declared.walk.Walk.{Walk}
use Rattle.ref_positions.specs.declared.walk.Coming.{Coming}
use Rattle.ref_positions.specs.declared.walk.Coming.TheVariants.{Value, Key, Nothing}
use Rattle.ref_positions.proofs.Walks.{stays, few_more, other_member, key_table, cons_nil, false_true}
use Rattle.ref_yaml.specs.Events.{is_scalar, IsWithin}
use Rattle.ref_yaml.specs.Values.{IsText, IsTextStop}
use Rattle.ref_yaml.specs.declared.fault.Fault.{Fault}
use Rattle.ref_yaml.specs.declared.fault.Stop.{Stop}
use Rattle.ref_yaml.specs.declared.fault.Stop.TheVariants.{At}
use Rattle.ref_yaml.specs.declared.event.Event.{Event}
use Rattle.ref_yaml.specs.declared.event.Kind.{Kind}
use Rattle.ref_yaml.specs.declared.event.Kind.TheVariants.{BeginArray, EndArray, BeginObject, EndObject, Plain, SingleQuoted, DoubleQuoted, Literal, Folded, Alias}

pub passed_snoc : (before : Next) (ts : List Token) (t : Token) → passed before (ts ++ t ∷ []) ≡ next (passed before ts) t
passed_snoc before ts t = fold-append next before ts (t ∷ [])

pub parts_snoc : (before : Next) (n m : ℕ) (ts : List Token) (t : Token) → m ≡ n + length ts → parts before n (ts ++ t ∷ []) ≡ parts before n ts ++ begun (passed before ts) m t
parts_snoc before n m [] t is = rw (let e : m ≡ n = omega arith in e) (grind (arith, common_steps))
parts_snoc before n m (x ∷ ts) t is =
    ap (λ ps. begun before n x ++ ps) (parts_snoc (next before x) (n + 1) m ts t (omega arith)) ∙ sym (append_assoc (begun before n x) (parts (next before x) (n + 1) ts) (begun (passed (next before x) ts) m t))

pub tokens_snoc : (text : List ℕ) (paths : List (Option Path)) (before : Next) (es : List Event) (ts : List Token) (e : Event) (t : Token) → AreTokens text paths before es ts
    → IsTokenOf text paths (passed before ts) e e.kind t → AreTokens text paths before (es ++ e ∷ []) (ts ++ t ∷ [])
tokens_snoc text paths before [] [] e t are is = (is, tt)
tokens_snoc text paths before [] (x ∷ ts) e t are is = absurd are
tokens_snoc text paths before (y ∷ es) [] e t are is = absurd are
tokens_snoc text paths before (y ∷ es) (x ∷ ts) e t are is = (are.0, tokens_snoc text paths (next before x) es ts e t are.1 is)

pub takes : (text : List ℕ) (paths : List (Option Path)) (old new : Walk) (n : ℕ) (e : Event) (t : Token) (k : Kind) → e.kind ≡ k → ((before : Next) → IsTokenOf text paths before e k t) → Passes paths old new n t → Takes text paths old new n e
takes text paths old new n e t k of is passes before ps lt w = (t, subst (λ (x : Kind). IsTokenOf text paths before e x t) (sym of) (is before), passes before ps lt w)

scalar_of : (text : List ℕ) (paths : List (Option Path)) (before : Next) (e : Event) (t : Token) (k : Kind) → IsTrue (is_scalar k) → IsScalarOf text paths before e e.is_key t → IsTokenOf text paths before e k t
scalar_of text paths before e t BeginObject one is = absurd (false_true one)
scalar_of text paths before e t BeginArray one is = absurd (false_true one)
scalar_of text paths before e t EndObject one is = absurd (false_true one)
scalar_of text paths before e t EndArray one is = absurd (false_true one)
scalar_of text paths before e t Alias one is = absurd (false_true one)
scalar_of text paths before e t Plain one is = is
scalar_of text paths before e t SingleQuoted one is = is
scalar_of text paths before e t DoubleQuoted one is = is
scalar_of text paths before e t Literal one is = is
scalar_of text paths before e t Folded one is = is

pub takes_scalar : (text : List ℕ) (paths : List (Option Path)) (old new : Walk) (n : ℕ) (e : Event) → IsTrue (is_scalar e.kind) → e.is_key ≡ false → Passes paths old new n (scalar e.start) → Takes text paths old new n e
takes_scalar text paths old new n e one is passes before ps lt w =
    (scalar e.start, scalar_of text paths before e (scalar e.start) e.kind one (subst (λ (b : Bool). IsScalarOf text paths before e b (scalar e.start)) (sym is) refl), passes before ps lt w)

pub takes_key : (text : List ℕ) (paths : List (Option Path)) (old new : Walk) (n : ℕ) (e : Event) (k : List ℕ) → IsTrue (is_scalar e.kind) → e.is_key ≡ true → IsText text e k → Passes paths old new n (key k e.start)
    → Takes text paths old new n e
takes_key text paths old new n e k one is has passes before ps lt w =
    (key k e.start, scalar_of text paths before e (key k e.start) e.kind one (subst (λ (b : Bool). IsScalarOf text paths before e b (key k e.start)) (sym is) (k, refl, λ _. has)), passes before ps lt w)

none_some : (o : Option ℕ) → is_some o ≡ false → o ≡ None
none_some None h = refl
none_some (Some n) h = cc

no_number : (paths : List (Option Path)) (level : Option Level) (outer : List Level) (p : Path) → has_number level ≡ false → AreOpen paths level outer (member [] ∷ p) → number_of paths p ≡ None
no_number paths None outer p has lie = absurd (cons_nil (member []) p lie.1)
no_number paths (Some l) outer p has lie = sym lie.0 ∙ none_some l.place has

same_walk : (paths : List (Option Path)) (old new : Walk) (n : ℕ) (before : Next) (ps : List Part) → new.level ≡ old.level → new.outer ≡ old.outer → new.found ≡ old.found → new.next ≡ old.next → IsWalk paths old n before ps → IsWalk paths new n before ps
same_walk paths old new n before ps level outer found is w = record {
  tree = w.tree;
  table = rw found w.table;
  coming = rw (level, outer, is) w.coming;
  few = w.few;
}

other_next : (paths : List (Option Path)) (level : Option Level) (outer : List Level) (old new : Coming) (p : Path) → IsOtherKey old new → IsComing paths level outer old (value p) → new ≡ old
other_next paths level outer (Value c) new p is h = is
other_next paths level outer Key new p is h = absurd h
other_next paths level outer Nothing new p is h = absurd h

other_nothing : (paths : List (Option Path)) (level : Option Level) (outer : List Level) (old new : Coming) → IsOtherKey old new → IsComing paths level outer old nothing → new ≡ old
other_nothing paths level outer (Value c) new is h = absurd h
other_nothing paths level outer Key new is h = absurd h
other_nothing paths level outer Nothing new is h = is

other_key : (paths : List (Option Path)) (level : Option Level) (outer : List Level) (old new : Coming) (p : Path) → IsOtherKey old new → is_asked level old ≡ false → IsComing paths level outer old (name p)
    → (new ≡ Value None) × (has_number level ≡ false) × (AreOpen paths level outer (member [] ∷ p))
other_key paths level outer (Value c) new p is asked h = absurd h
other_key paths level outer Key new p is asked h = (is, asked, h)
other_key paths level outer Nothing new p is asked h = absurd h

none_is : (o : Option ℕ) → o ≡ None → IsSome o → ⊥
none_is None h k = false_true k
none_is (Some n) h k = cc

other_passes : (text : List ℕ) (paths : List (Option Path)) (old new : Walk) (n : ℕ) (e : Event) → new.level ≡ old.level → new.outer ≡ old.outer → new.found ≡ old.found → IsOtherKey old.next new.next → is_asked old.level old.next ≡ false
    → (before : Next) (ps : List Part) → IsWalk paths old n before ps → (IsWalk paths new (n + 1) (next before (key [] e.start)) (ps ++ begun before n (key [] e.start))) × (IsAsked paths before → ⊥)
other_passes text paths old new n e level outer found is asked (value p) ps w =
    (stays paths new n (value p) ps (same_walk paths old new n (value p) ps level outer found (other_next paths old.level old.outer.items old.next new.next p is w.coming) w), λ h. h)
other_passes text paths old new n e level outer found is asked nothing ps w =
    (stays paths new n nothing ps (same_walk paths old new n nothing ps level outer found (other_nothing paths old.level old.outer.items old.next new.next is w.coming) w), λ h. h)
other_passes text paths old new n e level outer found is asked (name p) ps w =
    let parts = other_key paths old.level old.outer.items old.next new.next p is asked w.coming in
    let none : number_of paths p ≡ None = no_number paths old.level old.outer.items p parts.1 parts.2 in
    let below : number_of paths (member [] ∷ p) ≡ None = w.tree.closed (member []) p none in (
      record {
        tree = w.tree;
        table = rw found (key_table paths old.found.items ps (member [] ∷ p) None (n, e.start) w.tree w.table (sym below));
        coming = rw (parts.0, level, outer) (parts.2, sym below);
        few = few_more n p w.few;
      },
      none_is (number_of paths p) none,
    )

pub takes_other : (text : List ℕ) (paths : List (Option Path)) (old new : Walk) (n : ℕ) (e : Event) → IsTrue (is_scalar e.kind) → e.is_key ≡ true
    → new.level ≡ old.level → new.outer ≡ old.outer → new.found ≡ old.found → IsOtherKey old.next new.next → is_asked old.level old.next ≡ false → Takes text paths old new n e
takes_other text paths old new n e one is level outer found other asked before ps lt w =
    let passes = other_passes text paths old new n e level outer found other asked before ps w in
    (key [] e.start, scalar_of text paths before e (key [] e.start) e.kind one (subst (λ (b : Bool). IsScalarOf text paths before e b (key [] e.start)) (sym is) ([], refl, λ h. absurd (passes.1 h))), passes.0)

pub one_more_event : (text : List ℕ) (paths : List (Option Path)) (old new : Walk) (events : List Event) (n : ℕ) (e : Event) → n < 2 ^ 64 - 1 → take (n + 1) events ≡ take n events ++ e ∷ [] → Takes text paths old new n e
    → ArePassed text paths old events n → ArePassed text paths new events (n + 1)
one_more_event text paths old new events n e lt more step are =
    let ts = are.0 in
    let one = step (passed (value []) ts) (parts (value []) 0 ts) lt are.3 in
    let t = one.0 in (
      ts ++ t ∷ [],
      rw more (tokens_snoc text paths (value []) (take n events) ts e t are.1 one.1),
      grind (arith, common_steps, are.2),
      rw (passed_snoc (value []) ts t, parts_snoc (value []) 0 n ts t (omega (arith, are.2))) one.2,
    )

pub all_passed : (text : List ℕ) (paths : List (Option Path)) (walk : Walk) (events : List Event) (n : ℕ) (found : List Found) → take n events ≡ events → ArePassed text paths walk events n
    → ((ps : List Part) → IsTable paths walk.found.items ps → IsCounted paths found ps) → AreFoundIn text paths events found
all_passed text paths walk events n found all are counts = (are.0, subst (λ (es : List Event). AreTokens text paths (value []) es are.0) all are.1, counts (parts (value []) 0 are.0) are.3.table)

pub none_passed : (text : List ℕ) (paths : List (Option Path)) (walk : Walk) (events : List Event) → IsWalk paths walk 0 (value []) [] → ArePassed text paths walk events 0
none_passed text paths walk [] w = ([], tt, refl, w)
none_passed text paths walk (e ∷ es) w = ([], tt, refl, w)

pub take_all : {X : Type 0} (xs : List X) (n : ℕ) → length xs ≤ n → take n xs ≡ xs
take_all [] zero h = refl
take_all [] (suc n) h = refl
take_all (x ∷ xs) zero h = absurd (omega arith)
take_all (x ∷ xs) (suc n) h = ap (λ l. x ∷ l) (take_all xs n (omega arith))

-- a key that comes in an object with a number
has_some : (o : Option ℕ) → is_some o ≡ true → IsSome o
has_some o h = h

asked_at : (paths : List (Option Path)) (level : Option Level) (outer : List Level) (k : Coming) (before : Next) → is_asked level k ≡ true → IsComing paths level outer k before → IsAsked paths before
asked_at paths level outer (Value c) before is h = absurd (false_true is)
asked_at paths level outer Nothing before is h = absurd (false_true is)
asked_at paths level outer Key (value p) is h = absurd h
asked_at paths level outer Key nothing is h = absurd h
asked_at paths None outer Key (name p) is h = absurd (false_true is)
asked_at paths (Some l) outer Key (name p) is h = subst (λ (o : Option ℕ). IsSome o) h.0 (has_some l.place is)

pub stops : (text : List ℕ) (paths : List (Option Path)) (w : Walk) (e : Event) → e.is_key ≡ true → is_asked w.level w.next ≡ true → ((s : List ℕ) → IsUtf8 s → IsText text e s → ⊥) → Stops text paths w e
stops text paths w e is asked none n before ps walk = (is, asked_at paths w.level w.outer.items w.next before asked walk.coming, none)

-- the loop ends before a key without a text
pub has_unnamed : (text : List ℕ) (paths : List (Option Path)) (walk : Walk) (events : List Event) (n : ℕ) (e : Event) → slice_get events n ≡ Some e → Stops text paths walk e → ArePassed text paths walk events n
    → HasUnnamed text paths events
has_unnamed text paths walk events n e at stop are = (n, e, at, are.0, are.1, stop n (passed (value []) are.0) (parts (value []) 0 are.0) are.3)

pub none_of : (text : List ℕ) (e : Event) (stop : Stop) (fault : Fault) (o : ℕ) → stop ≡ At fault o → IsTextStop text e stop → IsWithin (length text) e → (s : List ℕ) → IsUtf8 s → IsText text e s → ⊥
none_of text e stop fault o is refused = subst (λ (x : Stop). IsTextStop text e x) is refused

none_within : (n : ℕ) → n < length {A = Event} [] → ⊥
none_within n h = omega arith

-- an item of events, and where it is
pub got : (xs : List Event) (n : ℕ) (d : Event) → n < length xs → slice_get xs n ≡ Some (get_or xs n d)
got [] n d h = absurd (none_within n h)
got (x ∷ xs) zero d h = refl
got (x ∷ xs) (suc n) d h = got xs n d (omega arith)

pub within_at : (count : ℕ) (xs : List Event) (n : ℕ) (d : Event) → All (IsWithin count) xs → n < length xs → IsWithin count (get_or xs n d)
within_at count [] n d all h = absurd (none_within n h)
within_at count (x ∷ xs) zero d all h = All-head (IsWithin count) x xs all
within_at count (x ∷ xs) (suc n) d all h = within_at count xs n d (All-tail (IsWithin count) x xs all) (omega arith)
