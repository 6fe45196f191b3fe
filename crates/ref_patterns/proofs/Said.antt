-- Looking for the first of several patterns, and for the last that says something.
use Rattle.std.proofs.Common.{◌≡◌, ◌≢◌, ◌<◌, ◌+◌, ◌-◌, ℕ, zero, suc, List, [], ◌∷◌, Bool, true, false, ◌||◌, length, drop, get_or, refl, sym, ap, ap₂, ◌∙◌, arith, Option, None, Some, map, Vec, ◌++◌, ◌&&◌, not, if◌then◌else◌, nat_eq, string_bytes, rules}
use Rattle.std.specs.Global.{Global}
use Rattle.std.proofs.lemmas.List.{drop_more}
use Rattle.ref_patterns.specs.declared.pattern.Part.{Part}
use Rattle.ref_patterns.specs.Patterns.{any_matches, matches, parts_in}
use Rattle.ref_patterns.specs.Ignoring.{below, last_said, or_before, said_by, said_by_line, said_of}
use Rattle.ref_patterns.specs.declared.ignoring.Ignore.{Ignore}
use Rattle.ref_patterns.specs.declared.ignoring.Line.{Line}

-- what is left of a list begins with what is at the index
pub left_at : {X : Type 0} (xs : List X) (i : ℕ) (x : X) → i < length xs → x ≡ get_or xs i x → drop i xs ≡ x ∷ drop (i + 1) xs
left_at xs i x h is = drop_more xs i x h ∙ ap (λ y. y ∷ drop (i + 1) xs) (sym is)

pub any_left : (ps : List (Vec Part Global)) (path : List ℕ) (i : ℕ) (p : Vec Part Global) (b : Bool) → i < length ps → p ≡ get_or ps i p → b ≡ matches p.items path
    → any_matches (parts_in (drop i ps)) path ≡ (b || any_matches (parts_in (drop (i + 1) ps)) path)
any_left ps path i p b h is found =
    ap (λ (l : List (Vec Part Global)). any_matches (parts_in l) path) (left_at ps i p h is)
    ∙ ap (λ (t : Bool). t || any_matches (parts_in (drop (i + 1) ps)) path) (sym found)

-- where the later ones say nothing, what the one before them says is the last
pub said_left : {X : Type 0} (says : X → Option Bool) (xs : List X) (n : ℕ) (x : X) → n < length xs → x ≡ get_or xs (length xs - 1 - n) x
    → last_said (map says (drop (length xs - n) xs)) ≡ None → last_said (map says (drop (length xs - (n + 1)) xs)) ≡ says x
said_left says xs n x h is none =
    let i = length xs - 1 - n in
    let first : length xs - (n + 1) ≡ i = omega (arith, h) in
    let next : i + 1 ≡ length xs - n = omega (arith, h) in
    let within : i < length xs = omega (arith, h) in
    ap (λ k. last_said (map says (drop k xs))) first
    ∙ ap (λ l. last_said (map says l)) (left_at xs i x within is)
    ∙ ap (λ k. or_before (last_said (map says (drop k xs))) (says x)) next
    ∙ ap (λ s. or_before s (says x)) none

-- and what the last one says, all of them say
pub said_by_all : {X : Type 0} (says : X → Option Bool) (xs : List X) (i : ℕ) (b : Bool) → last_said (map says (drop i xs)) ≡ Some b → last_said (map says xs) ≡ Some b
said_by_all says xs zero b said = said
said_by_all says [] (suc i) b said = said
said_by_all says (x ∷ xs) (suc i) b said = ap (λ s. or_before s (says x)) (said_by_all says xs i b said)

-- nothing is left out
pub none_left : {X : Type 0} (says : X → Option Bool) (xs : List X) (n : ℕ) → n ≡ length xs → last_said (map says (drop (length xs - n) xs)) ≡ last_said (map says xs)
none_left says xs n e = let none : length xs - n ≡ 0 = omega (arith, e) in ap (λ k. last_said (map says (drop k xs))) none

cond_self : (b : ℕ) (text front : List ℕ) (e : Bool) → nat_eq b b ≡ e → (if e then below front text else None) ≡ below front text
cond_self b text front true e = refl
cond_self b text front false e = search (rules, e)

-- what stands after a beginning follows it
pub below_is : (front rest text : List ℕ) → text ≡ front ++ rest → below front text ≡ Some rest
below_is [] rest text is = ap Some is
below_is (b ∷ front) rest text is =
    ap (below (b ∷ front)) is ∙ cond_self b (front ++ rest) front (nat_eq b b) refl ∙ below_is front rest (front ++ rest) refl

below_other : (b : ℕ) (front : List ℕ) (c : ℕ) (text : List ℕ) (e : Bool) → nat_eq c b ≡ e → ((rest : List ℕ) → c ∷ text ≢ b ∷ front ++ rest) → (((rest : List ℕ) → text ≢ front ++ rest) → below front text ≡ None)
    → (if e then below front text else None) ≡ None
below_other b front c text true e other later =
    let same : c ≡ b = search (rules, e) in
    later (λ rest is. other rest (ap (λ d. d ∷ text) same ∙ ap (λ t. b ∷ t) is))
below_other b front c text false e other later = refl

-- a text without the beginning has nothing after it
pub below_none : (front text : List ℕ) → ((rest : List ℕ) → text ≢ front ++ rest) → below front text ≡ None
below_none [] text other = absurd (other text refl)
below_none (b ∷ front) [] other = refl
below_none (b ∷ front) (c ∷ text) other = below_other b front c text (nat_eq c b) refl other (below_none front text)

-- what a file says of a path that is below its folder, and of another
pub said_below : (is_folder : Bool) (path : List ℕ) (ignore : Ignore) (front rest : List ℕ) (n : ℕ) → path ≡ front ++ drop n path → rest ≡ drop n path → front ≡ string_bytes ignore.folder
    → said_by is_folder path ignore ≡ last_said (map (said_by_line is_folder rest) ignore.lines.items)
said_below is_folder path ignore front rest n cut is same =
    ap (said_of is_folder ignore.lines.items) (ap (λ f. below f path) (sym same) ∙ below_is front rest path (cut ∙ ap (λ r. front ++ r) (sym is)))

pub said_elsewhere : (is_folder : Bool) (path : List ℕ) (ignore : Ignore) (front : List ℕ) → ((rest : List ℕ) → path ≢ front ++ rest) → front ≡ string_bytes ignore.folder
    → said_by is_folder path ignore ≡ None
said_elsewhere is_folder path ignore front other same =
    ap (said_of is_folder ignore.lines.items) (ap (λ f. below f path) (sym same) ∙ below_none front path other)

-- what a line says that speaks of a path
pub said_line : (is_folder : Bool) (path : List ℕ) (line : Line) → (is_folder || not line.is_folder) ≡ true → any_matches (parts_in line.alternatives.items) path ≡ true
    → said_by_line is_folder path line ≡ Some (not line.is_taken_back)
said_line is_folder path line speaks found =
    ap₂ (λ (a b : Bool). if a && b then Some (not line.is_taken_back) else None) speaks found
