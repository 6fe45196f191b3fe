-- The path of names, each in the folder that those before it mean, and the names of that path.
use Rattle.std.proofs.Common.{◌≡◌, ◌≢◌, ℕ, ◌<◌, ◌-◌, Bool, false, List, [], ◌∷◌, ◌++◌, length, get_or, if◌then◌else◌, All, nat_eq, ne_eqb, refl, ap, ◌∙◌, append_assoc, arith}
use Rattle.std.specs.List.{slice_split, join_with_byte}
use Rattle.std.proofs.lemmas.List.{length-append, get_or-append_right}
use Rattle.std.proofs.lemmas.List.Elements.{All-head, All-tail}
use Rattle.std.proofs.lemmas.List.Splits.{slice_split_none, slice_split_at}
use lib.Dec.{eqb}
use Rattle.ref_files.specs.Plain.{IsPlain, ends_in_slash, path_in, path_of}
use Rattle.ref_files.proofs.Names.{plain_bytes}

nonempty : (name : List ℕ) → name ≢ [] → 0 < length name
nonempty [] other = absurd (other refl)
nonempty (b ∷ name) other = omega arith

last_of : (front name : List ℕ) → 0 < length name → get_or (front ++ name) (length (front ++ name) - 1) 0 ≡ get_or name (length name - 1) 0
last_of front name some =
    get_or-append_right front name (length front) (length (front ++ name) - 1) 0 refl (omega (arith, length-append front name))
    ∙ ap (λ k. get_or name k 0) (omega (arith, length-append front name))

-- a path that ends in a name doesn't end in a slash
no_end : (front name : List ℕ) → IsPlain name → ends_in_slash (front ++ name) ≡ false
no_end front name plain =
    let some = nonempty name plain.some in
    ap (λ b. nat_eq b 47) (last_of front name some) ∙ ne_eqb (get_or name (length name - 1) 0) 47 (plain.no_slash (length name - 1) (omega arith))

-- so the next name comes after one more slash
next_name : (folder name next : List ℕ) → IsPlain name → path_in (path_in folder name) next ≡ path_in folder (name ++ 47 ∷ next)
next_name folder name next plain =
    let front = if ends_in_slash folder then folder else folder ++ 47 ∷ [] in
    ap (λ (b : Bool). (if b then front ++ name else (front ++ name) ++ 47 ∷ []) ++ next) (no_end front name plain)
    ∙ append_assoc (front ++ name) (47 ∷ []) next ∙ append_assoc front name (47 ∷ next)

pub path_of_names : (folder name : List ℕ) (names : List (List ℕ)) → All IsPlain (name ∷ names) → path_of folder (name ∷ names) ≡ path_in folder (join_with_byte 47 (name ∷ names))
path_of_names folder name [] plain = refl
path_of_names folder name (next ∷ names) plain =
    path_of_names (path_in folder name) next names (All-tail IsPlain name (next ∷ names) plain)
    ∙ next_name folder name (join_with_byte 47 (next ∷ names)) (All-head IsPlain name (next ∷ names) plain)

pub names_of_path : (name : List ℕ) (names : List (List ℕ)) → All IsPlain (name ∷ names) → slice_split (λ b. eqb b 47) (join_with_byte 47 (name ∷ names)) ≡ name ∷ names
names_of_path name [] plain = slice_split_none (λ b. eqb b 47) name (plain_bytes name (All-head IsPlain name [] plain).no_slash)
names_of_path name (next ∷ names) plain =
    slice_split_at (λ b. eqb b 47) name 47 (join_with_byte 47 (next ∷ names)) (plain_bytes name (All-head IsPlain name (next ∷ names) plain).no_slash) refl
    ∙ ap (λ parts. name ∷ parts) (names_of_path next names (All-tail IsPlain name (next ∷ names) plain))
