use Rattle.std.proofs.Common.{rules, ◌≡◌, [], ◌∷◌, true, codes, refl}
use Rattle.std.specs.Str.{is_utf8}
use Rattle.std.proofs.lemmas.Str.{IsUtf8-from_is_utf8, is_utf8-from_IsUtf8}
use Rattle.std.proofs.lemmas.List.Elements.{All-nil, All-cons}
use Rattle.ref_files.specs.Meant.{IsName}
use Rattle.ref_files.proofs.OnLiterals.{ref_files_on_literals}
use Rattle.ref_files.proofs.examples.names.Goals as goal

pub returns-clause-of_two_bytes : goal.returns-clause-of_two_bytes
unfolding ref_files_on_literals
returns-clause-of_two_bytes c = record { utf8 = IsUtf8-from_is_utf8 (195 ∷ 169 ∷ []) refl; plain = search rules }

pub returns-clause-no_utf8 : goal.returns-clause-no_utf8
unfolding ref_files_on_literals
returns-clause-no_utf8 c = λ name. let no : is_utf8 (255 ∷ []) ≡ true = is_utf8-from_IsUtf8 (255 ∷ []) name.utf8 in cc

name_a : IsName (codes "a")
unfolding ref_files_on_literals
name_a = record { utf8 = IsUtf8-from_is_utf8 (codes "a") refl; plain = search rules }

name_b : IsName (codes "b.json")
unfolding ref_files_on_literals
name_b = record { utf8 = IsUtf8-from_is_utf8 (codes "b.json") refl; plain = search rules }

pub returns-clause-all : goal.returns-clause-all
returns-clause-all c = All-cons IsName (codes "a") (codes "b.json" ∷ []) name_a (All-cons IsName (codes "b.json") [] name_b (All-nil IsName))
