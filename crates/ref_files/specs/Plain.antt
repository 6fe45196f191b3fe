-- Names that lead into the folder that they are looked up in, and nowhere else.
use Rattle.std.specs.Prelude.{◌≢◌, ℕ, ◌-◌, ◌==◌, Bool, if◌then◌else◌, List, [], ◌∷◌, ◌++◌, length, codes, EachIndex, slice_index}
use Rattle.std.specs.List.{after_last, before_last, list_any}

-- `/`, between the names of a path
abbrev pub slash : ℕ
slash = 47

abbrev pub is_slash : ℕ → Bool
is_slash b = b == 47

-- what is before the last slash of a path; nothing where it has none
abbrev pub folder_of : List ℕ → List ℕ
folder_of path = if list_any is_slash path then before_last is_slash path else []

-- what is after the last slash; all of it where it has none
abbrev pub last_name : List ℕ → List ℕ
last_name path = if list_any is_slash path then after_last is_slash path else path

-- a text without a byte
abbrev pub Lacks : ℕ → List ℕ → Type 0
Lacks b text = EachIndex text (λ k. slice_index text k ≢ b)

-- a name that means neither the folder itself nor the one above it, nor anything below another folder
pub record IsPlain (name : List ℕ) : Type 0 where
  pub some : name ≢ []
  pub not_itself : name ≢ codes "."
  pub not_above : name ≢ codes ".."
  pub no_slash : Lacks slash name
  pub no_nul : Lacks 0 name

-- whether a path ends in a slash; the empty path doesn't
abbrev pub ends_in_slash : List ℕ → Bool
ends_in_slash path = slice_index path (length path - 1) == slash

-- the path of what a name means in a folder
abbrev pub path_in : List ℕ → List ℕ → List ℕ
path_in folder name = (if ends_in_slash folder then folder else folder ++ slash ∷ []) ++ name

-- the path of what names mean, each in the folder that those before it mean
abbrev pub path_of : List ℕ → List (List ℕ) → List ℕ
path_of folder [] = folder
path_of folder (name ∷ names) = path_of (path_in folder name) names

-- the path of what is at a path from a folder: the path itself where it begins with a slash, or the folder is the working folder, which is empty
abbrev pub path_from : List ℕ → List ℕ → List ℕ
path_from [] path = path
path_from (b ∷ folder) path = if slice_index path 0 == slash then path else path_in (b ∷ folder) path
