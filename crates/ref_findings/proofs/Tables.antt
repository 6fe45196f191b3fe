-- The tables of URIs and names.
use Rattle.std.specs.Prelude.{slice_get, if◌then◌else◌}
use Rattle.std.proofs.Common.{◌==◌, Bool, false, Bor, option_copied, ◌≡◌, ℕ, List, [], reverse, String, string_bytes, Option, Some, None, option_map, is_some, filter, refl, sym, ap, ◌∙◌}
use Rattle.std.specs.List.{last_or}
use Rattle.std.specs.declared.alloc.Global.{Global}
use Rattle.ref_parts.specs.Table.{Entry, entries_of, is_under, last_value}
use Rattle.ref_index.proofs.Paths.{map-reverse}
use Rattle.ref_findings.specs.Bearers.{Site, first_under, other_than}
use Rattle.ref_findings.specs.Findings.{is_among}
use Rattle.ref_findings.proofs.Lists.{first_of_reversed, any_is_last}

-- entries that are turned round
pub entries_of-reverse : (es turned : List (String Global × String Global × ℕ)) {all : List (Entry ℕ)} → turned ≡ reverse es → entries_of es ≡ all → entries_of turned ≡ reverse all
entries_of-reverse es turned is all = ap entries_of is ∙ map-reverse (λ (e : String Global × String Global × ℕ). (string_bytes e.0, string_bytes e.1, e.2)) es ∙ ap reverse all

-- the last under two texts is the first of the list turned round
pub last_is_first : (first second : List ℕ) (entries : List (Entry ℕ)) → last_value first second entries ≡ first_under first second (reverse entries)
last_is_first first second entries = ap (option_map (λ (e : Entry ℕ). e.2)) (first_of_reversed (is_under first second) entries)

pub some_mapped : {X Y : Type 0} (f : X → Y) (o : Option X) → is_some (option_map f o) ≡ is_some o
some_mapped f None = refl
some_mapped f (Some x) = refl

-- whether there is a value under a URI
pub among_is : (uri : List ℕ) (entries : List (Entry ℕ)) → is_some (last_value uri [] entries) ≡ is_among uri entries
among_is uri entries = some_mapped (λ (e : Entry ℕ). e.2) (last_or None (filter (is_under uri []) entries)) ∙ sym (any_is_last (is_under uri []) entries)

-- a copy is there where its original is
pub copied_some : {X : Type 0} (o : Option (Bor X)) (p : Option X) (b : Bool) → b ≡ is_some o → option_copied o ≡ p → b ≡ is_some p
copied_some None p b is copied = is ∙ ap is_some copied
copied_some (Some x) p b is copied = is ∙ ap is_some copied

-- the place with a number that is another one
pub other_is : (sites : List Site) (number first : ℕ) (s : Site) → (first == number) ≡ false → slice_get sites first ≡ Some s → other_than sites number first ≡ Some s
other_is sites number first s differ got = ap (λ b. if b then None else slice_get sites first) differ ∙ got

pub copied_map : {X Y : Type 0} (f : X → Y) (o : Option (Bor X)) → option_map (λ x. f x.now) o ≡ option_map f (option_copied o)
copied_map f None = refl
copied_map f (Some x) = refl
