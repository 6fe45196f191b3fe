-- What a name means has that name.
use Rattle.std.proofs.Common.{◌≡◌, ℕ, Bool, true, false, ◌&&◌, List, [], ◌∷◌, Option, Some, None, option_and_then, Result, Ok, Err, ap, ◌∙◌, bytes_eq}
use Rattle.std.specs.Option.{option_or, ok_or}
use Rattle.std.specs.Result.{result_ok}
use Rattle.std.proofs.lemmas.Slice.Eq.{bytes_eq-Decides}
use Rattle.ref_definitions.specs.World.{World}
use Rattle.ref_definitions.specs.Resources.{own_uri, meant_place}
use Rattle.ref_definitions.specs.Fault.{Fault}
use Rattle.ref_definitions.specs.Anchors.{Named, last_named, names, named_entry, named_by_identifier, not_named, anchor}
use Rattle.ref_definitions.specs.Lookup.{Resolver}
use Rattle.ref_index.proofs.Looking.{last_passes}

second : (a b : Bool) → (a && b) ≡ true → b ≡ true
second true b is = is
second false b is = cc

last_has : (uri name : List ℕ) (entries : List Named) (n : Named) → last_named uri name entries ≡ Some n → n.name ≡ name
last_has uri name entries n is =
    let here = last_passes (λ e. bytes_eq e.uri uri && bytes_eq e.name name) entries None (λ x no. cc) n is in
    (bytes_eq-Decides n.name name).0 (second (bytes_eq n.uri uri) (bytes_eq n.name name) here)

either : (o p : Option Named) (n : Named) (name : List ℕ) → (o ≡ Some n → n.name ≡ name) → (p ≡ Some n → n.name ≡ name) → option_or o p ≡ Some n → n.name ≡ name
either None p n name near far is = far is
either (Some m) p n name near far is = near is

pub named_has : (world : World) (uri name : List ℕ) (n : Named) → named_entry world uri name ≡ Some n → n.name ≡ name
named_has [] uri name n is = cc
named_has (layer ∷ world) uri name n is = either (last_named uri name (names layer)) (named_entry world uri name) n name (last_has uri name (names layer) n) (named_has world uri name n) is

under_own : (world : World) (own : Option (List ℕ)) (name : List ℕ) (n : Named) → option_and_then (λ own. named_entry world own name) own ≡ Some n → n.name ≡ name
under_own world None name n is = cc
under_own world (Some own) name n is = named_has world own name n is

there : (o : Option Named) (fault : Fault) (n : Named) → result_ok (ok_or o fault) ≡ Some n → o ≡ Some n
there None fault n is = cc
there (Some m) fault n is = is

pub anchor_has : (world : World) (uri name : List ℕ) (n : Named) → result_ok (anchor world uri name) ≡ Some n → n.name ≡ name
unfolding anchor
anchor_has world uri name n is =
    either (named_entry world uri name) (named_by_identifier world uri name) n name (named_has world uri name n) (under_own world (option_and_then own_uri (meant_place world uri)) name n)
    (there (option_or (named_entry world uri name) (named_by_identifier world uri name)) (not_named name) n is)

pub answered : {A : Type 0} (answer : Result A Fault) (a : A) → result_ok answer ≡ Some a → answer ≡ Ok a
answered (Ok b) a is = (let same : b ≡ a = cc in ap (λ x. Ok x) same)
answered (Err fault) a is = cc

-- what the first name means is under the base of a resolver that moved there
pub moved_anchor : (v w : World) (s r : Resolver) (name : List ℕ) (n : Named) → v ≡ w → s ≡ r → anchor w r.base name ≡ Ok n → anchor v s.base name ≡ Ok n
moved_anchor v w s r name n world at is = ap (λ x. anchor x s.base name) world ∙ ap (λ (x : Resolver). anchor w x.base name) at ∙ is

-- what a name means is one thing
pub only_one : {A : Type 0} (answer : Result A Fault) (k m : A) → result_ok answer ≡ Some k → answer ≡ Ok m → k ≡ m
only_one (Ok a) k m found is = cc
only_one (Err fault) k m found is = cc

pub fault_ok : {A : Type 0} (answer : Result A Fault) (fault : Fault) (a : A) → answer ≡ Err fault → answer ≡ Ok a → ⊥
fault_ok (Ok b) fault a none is = cc
fault_ok (Err f) fault a none is = cc
