-- The texts that a text with braces stands for, as `{a,b}.json` for `a.json` and `b.json`. Texts are their bytes.
use Rattle.std.specs.Prelude.{◌==◌, ◌*◌, ℕ, List, [], ◌∷◌, ◌++◌, Bool, true, false, nat_le, if◌then◌else◌, map, flat_map, length, Option, None, Some, Vec}
use Rattle.std.specs.declared.alloc.Global.{Global}
use Rattle.ref_patterns.specs.declared.choices.Read.{Read}

-- each text with each of these after it
abbrev pub with_choices : List (List ℕ) → List (List ℕ) → List (List ℕ)
with_choices texts choices = flat_map (λ text. map (λ choice. text ++ choice) choices) texts

-- at most 256
abbrev pub is_few : List (List ℕ) → List (List ℕ) → Bool
is_few texts choices = nat_le (length texts * length choices) 256

abbrev mutual
  -- the texts that a text stands for, where these are what is before it; 123 and 125 are the braces
  pub outside : List (List ℕ) → List ℕ → Option (List (List ℕ))
  outside texts [] = Some texts
  outside texts (b ∷ s) =
      if b == 123 then within texts [] [] s
      else (if b == 125 then None else outside (map (λ text. text ++ b ∷ []) texts) s)

  -- the same within a brace, with its choices so far, and what is read of the last one; 44 is the comma
  pub within : List (List ℕ) → List (List ℕ) → List ℕ → List ℕ → Option (List (List ℕ))
  within texts choices last [] = None
  within texts choices last (b ∷ s) =
      if b == 125 then (if is_few texts (choices ++ last ∷ []) then outside (with_choices texts (choices ++ last ∷ [])) s else None)
      else (if b == 123 then None
      else (if b == 44 then within texts (choices ++ last ∷ []) [] s
      else within texts choices (last ++ b ∷ []) s))

-- the texts that a text stands for
abbrev pub texts_of : List ℕ → Option (List (List ℕ))
texts_of text = outside ([] ∷ []) text

-- ---- what the program has read

abbrev pub lists_of : Vec (Vec ℕ Global) Global → List (List ℕ)
lists_of lists = map (λ (l : Vec ℕ Global). l.items) lists.items

-- its texts with what is read after the last brace
abbrev pub texts_before : Read → List (List ℕ)
texts_before r = map (λ text. text ++ r.before.items) (lists_of r.texts)

-- the texts that all stands for, where a part of it is read
abbrev pub texts_with : Bool → Read → List ℕ → Option (List (List ℕ))
texts_with true r s = within (texts_before r) (lists_of r.choices) r.last.items s
texts_with false r s = outside (texts_before r) s

abbrev pub texts_after : Read → List ℕ → Option (List (List ℕ))
texts_after r s = texts_with r.is_open r s

-- the same where a brace was closed whose choices are all read
abbrev pub closed : Read → List ℕ → Option (List (List ℕ))
closed r s =
    if is_few (texts_before r) (lists_of r.choices)
    then outside (with_choices (texts_before r) (lists_of r.choices)) s else None
