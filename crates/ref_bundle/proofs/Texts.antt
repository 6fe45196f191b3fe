-- The texts of problems with two parts in them, as they are written from the front.
use Rattle.std.proofs.Common.{◌≡◌, ℕ, List, ◌++◌, codes, decimal, append_assoc}
use Rattle.ref_paths.specs.Path.{Part}
use Rattle.ref_bundle.specs.Bundle.{SharedUri, ReplacedUri, ShadowedUri, AddedMember}
use Rattle.ref_bundle.specs.Saying.{problem_text}

abbrev has : List ℕ
has = codes " has the URI '"

pub shared : (document : ℕ) (uri : List ℕ) (path : List Part) → codes "a subschema of document " ++ (decimal document ++ (has ++ (uri ++ codes "' too"))) ≡ problem_text (SharedUri uri document path)
shared document uri path = simp append_assoc

abbrev replaces : List ℕ
replaces = codes "' replaces that URI by '"

pub replaced : (uri base : List ℕ) → codes "the identifier of the document '" ++ (uri ++ (replaces ++ (base ++ codes "'"))) ≡ problem_text (ReplacedUri uri base)
replaced uri base = simp append_assoc

abbrev gives : List ℕ
gives = codes "' gives the URI '"

abbrev which : List ℕ
which = codes "', which document "

pub shadowed : (uri base : List ℕ) (document : ℕ) (path : List Part) → codes "the identifier of '" ++ (uri ++ (gives ++ (base ++ (which ++ (decimal document ++ codes " has"))))) ≡ problem_text (ShadowedUri uri base document path)
shadowed uri base document path = simp append_assoc

abbrev in_document : List ℕ
in_document = codes "' in the document '"

pub added : (uri key : List ℕ) → codes "the pointer leads to the member '" ++ (key ++ (in_document ++ (uri ++ codes "', which the bundle adds or changes"))) ≡ problem_text (AddedMember uri key)
added uri key = simp append_assoc
