-- What a map has under a URI, after pairs were put into it in turn, is the last of them.
use Rattle.std.proofs.Common.{◌≡◌, refl, ap, ℕ, Bool, true, false, cond, List, [], ◌∷◌, filter, bytes_eq, Option, Some, None, option_map}
use Rattle.std.specs.List.{last_or}
use Rattle.std.specs.Map.{update, update_all}
use Rattle.serde_json.specs.Data.{Data}
use Rattle.serde_json.specs.View.{view}
use Rattle.serde_json.specs.declared.value.Value.{Value}
use Rattle.ref_definitions.specs.Resources.{last_under}
use Rattle.ref_error.specs.Retrieving.{trees_of}

abbrev second : {A B : Type 0} → Option (A × B) → Option B
second o = option_map (λ e. e.1) o

either_way : {A B : Type 0} (taken : Bool) (e : A × B) (rest : List (A × B)) (o : Option (A × B)) (found : Option B) → (taken ≡ true → found ≡ second (last_or (Some e) rest)) → (taken ≡ false → found ≡ second (last_or o rest)) → found ≡ second (last_or o (cond taken (e ∷ rest) rest))
either_way true e rest o found here not_here = here refl
either_way false e rest o found here not_here = not_here refl

last_put : (uri : List ℕ) (pairs : List (List ℕ × Value)) (before : List ℕ → Option Value) (o : Option (List ℕ × Data)) → option_map view (before uri) ≡ second o → option_map view (update_all bytes_eq before pairs uri) ≡ second (last_or o (filter (λ e. bytes_eq e.0 uri) (trees_of pairs)))
last_put uri [] before o same = same
last_put uri (p ∷ ps) before o same =
    let next = update bytes_eq before p.0 (Some p.1) in
    either_way (bytes_eq p.0 uri) (p.0, view p.1) (filter (λ e. bytes_eq e.0 uri) (trees_of ps)) o (option_map view (update_all bytes_eq next ps uri))
    (λ is. last_put uri ps next (Some (p.0, view p.1)) (rw is refl))
    (λ is. last_put uri ps next o (rw is same))

-- maps with the same values have them still once the same pairs were put
pub put_alike : (f g : List ℕ → Option Value) (pairs : List (List ℕ × Value)) (uri : List ℕ) → ((q : List ℕ) → f q ≡ g q) → update_all bytes_eq f pairs uri ≡ update_all bytes_eq g pairs uri
put_alike f g [] uri same = same uri
put_alike f g (p ∷ ps) uri same =
    put_alike (update bytes_eq f p.0 (Some p.1)) (update bytes_eq g p.0 (Some p.1)) ps uri (λ q. ap (cond (bytes_eq p.0 q) (Some p.1)) (same q))

-- it is the last of them as a tree
pub put_in_turn : (uri : List ℕ) (pairs : List (List ℕ × Value)) → option_map view (update_all bytes_eq (λ _. None) pairs uri) ≡ option_map (λ e. e.1) (last_under uri (trees_of pairs))
put_in_turn uri pairs = last_put uri pairs (λ _. None) None refl

-- and where none is there, none was put
pub none_put : (o : Option (List ℕ × Data)) → second o ≡ None → o ≡ None
none_put None is = refl
none_put (Some e) is = cc

-- where one is there, some were put
pub some_put : (o : Option (List ℕ × Data)) (tree : Data) → Some tree ≡ second o → o ≡ None → ⊥
some_put None tree is none = cc
some_put (Some e) tree is none = cc
