-- What is read of a text with braces, a byte more.
use Rattle.std.specs.Prelude.{flat_map, Vec}
use Rattle.std.specs.declared.alloc.Global.{Global}
use Rattle.std.proofs.lemmas.Grind.{flat_map-append}
use Rattle.std.proofs.lemmas.List.{append-nil, take_more, length-map}
use Rattle.std.proofs.lemmas.Bool.{le-leb}
use Rattle.std.proofs.Common.{◌≡◌, ℕ, List, [], ◌∷◌, ◌++◌, Bool, true, false, ◌==◌, if◌then◌else◌, None, map, refl, sym, ap, ap₂, ◌∙◌, append_assoc, ◌+◌, ◌*◌, ◌<◌, ◌≤◌, length, take, get_or, min, ◌^◌, ◌-◌, arith}
use Rattle.ref_patterns.specs.Choices.{is_few, outside, within, with_choices}

-- each text with a byte more
pub longer : (texts : List (List ℕ)) (before : List ℕ) (b : ℕ)
    → map (λ t. t ++ (before ++ b ∷ [])) texts ≡ map (λ t. t ++ b ∷ []) (map (λ t. t ++ before) texts)
longer [] before b = refl
longer (t ∷ ts) before b = ap₂ (λ (x : List ℕ) (l : List (List ℕ)). x ∷ l) (sym (append_assoc t before (b ∷ []))) (longer ts before b)

-- a byte that is no brace is itself
pub literal : (texts : List (List ℕ)) (b : ℕ) (s : List ℕ) → (b == 123) ≡ false → (b == 125) ≡ false
    → outside (map (λ t. t ++ b ∷ []) texts) s ≡ outside texts (b ∷ s)
literal texts b s opens closes =
    sym (ap (λ (c : Bool). if c then within texts [] [] s else (if b == 125 then None else outside (map (λ t. t ++ b ∷ []) texts) s)) opens
    ∙ ap (λ (c : Bool). if c then None else outside (map (λ t. t ++ b ∷ []) texts) s) closes)

-- texts with nothing after them
pub with_nothing : (texts : List (List ℕ)) → map (λ t. t ++ []) texts ≡ texts
with_nothing [] = refl
with_nothing (t ∷ ts) = ap₂ (λ (x : List ℕ) (l : List (List ℕ)). x ∷ l) (append-nil t) (with_nothing ts)

-- each text with each choice, at once
pub each_choice : (texts : List (Vec ℕ Global)) (before : List ℕ) (choices : List (List ℕ))
    → flat_map (λ (t : Vec ℕ Global). map (λ c. (t.items ++ before) ++ c) choices) texts
    ≡ with_choices (map (λ t. t ++ before) (map (λ (t : Vec ℕ Global). t.items) texts)) choices
each_choice [] before choices = refl
each_choice (t ∷ ts) before choices = ap (λ l. map (λ c. (t.items ++ before) ++ c) choices ++ l) (each_choice ts before choices)

-- those of the first texts and of one more
pub more_choices : (g : Vec ℕ Global → List (List ℕ)) (xs : List (Vec ℕ Global)) (i : ℕ) (x : Vec ℕ Global) → i < length xs → x ≡ get_or xs i x
    → flat_map g (take (i + 1) xs) ≡ flat_map g (take i xs) ++ g x
more_choices g xs i x within is =
    ap (flat_map g) (take_more xs i x within)
    ∙ flat_map-append g (take i xs) (get_or xs i x ∷ [])
    ∙ ap (λ y. flat_map g (take i xs) ++ (g y ++ [])) (sym is)
    ∙ ap (λ l. flat_map g (take i xs) ++ l) (append-nil (g x))

-- whether there are few of them
pub few_of : (xs ys : List (Vec ℕ Global)) (before : List ℕ) (a b n : ℕ) → a ≡ length xs → b ≡ length ys → n ≡ min (a * b) (2 ^ 64 - 1) → n ≤ 256
    → is_few (map (λ t. t ++ before) (map (λ (t : Vec ℕ Global). t.items) xs)) (map (λ (t : Vec ℕ Global). t.items) ys) ≡ true
few_of xs ys before a b n left right product few =
    let texts = map (λ (t : Vec ℕ Global). t.items) xs in
    let sizes : length (map (λ t. t ++ before) texts) * length (map (λ (t : Vec ℕ Global). t.items) ys) ≡ a * b =
    ap₂ (λ p q. p * q)
    (length-map texts (λ t. t ++ before) ∙ length-map xs (λ (t : Vec ℕ Global). t.items) ∙ sym left)
    (length-map ys (λ (t : Vec ℕ Global). t.items) ∙ sym right) in
    le-leb _ 256 (omega (arith, sizes, product, few))
