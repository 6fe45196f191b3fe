-- The components of a target.
use Rattle.std.proofs.Common.{◌≡◌, ◌≢◌, ℕ, Bool, true, false, not, ◌&&◌, ◌+◌, ◌*◌, List, ◌∷◌, ◌++◌, length, get_or, eqb, refl, sym, ap, ◌∙◌, arith, inl, inr, Option, Some, None, is_some, Bor, option_copied, option_map, subst}
use Rattle.std.specs.List.{list_any, before_first}
use Rattle.std.specs.Option.{option_or}
use Rattle.std.specs.Char.{is_ascii_hexdigit, to_ascii_uppercase}
use Rattle.std.proofs.lemmas.Bool.{and_parts, not-true, cases_Bool, ne_eqb, false≢true}
use Rattle.std.proofs.lemmas.Bool.Decides.{nat_tests}
use Rattle.ref_uri.specs.Characters.{has_whole_triples, is_unreserved}
use Rattle.ref_uri.specs.Components.{Components, are_components, is_path_after, begins_with_slashes, if_there}
use Rattle.ref_uri.specs.Resolution.{resolved_components, target_components, target_path, with_guard, query_or}
use Rattle.ref_uri.specs.DotSegments.{remove_dot_segments}
use Rattle.ref_uri.specs.Normal.{guarded_path, normal_path, normal_text, normal_triple, hex_value}
use Rattle.ref_uri.specs.inner.Written.{the_front, the_rest, written_text}
use Rattle.ref_uri.specs.declared.written.Form.{Form}
use Rattle.ref_uri.specs.declared.written.Form.TheVariants.{Given}
use Rattle.ref_uri.proofs.UniqueLemmas.{Tested, tested}
use Rattle.ref_uri.proofs.Induction.{by_units}
use Rattle.ref_uri.proofs.NormalLemmas.{normal_none, normal_character, normal_triple_front}

-- a slash in front comes from a slash in front
pub slash_in_front : (text : List ℕ) → has_whole_triples text ≡ true → eqb (get_or (normal_text text) 0 0) 47 ≡ eqb (get_or text 0 0) 47
slash_in_front =
    by_units (λ t. eqb (get_or (normal_text t) 0 0) 47 ≡ eqb (get_or t 0 0) 47)
    (rw (normal_none (λ c. c)) refl)
    (λ c t ne whole rest. rw (normal_character (λ c. c) c t ne) refl)
    (λ high low t h l whole rest. rw (normal_triple_front (λ c. c) high low t h l) (no_slash high low (normal_text t)))
  where
    unreserved_no_slash : (c : ℕ) → is_unreserved c ≡ true → eqb c 47 ≡ false
    unreserved_no_slash c h = grind (arith, nat_tests)

    no_slash : (high low : ℕ) (rest : List ℕ) → eqb (get_or (normal_triple (λ c. c) high low ++ rest) 0 0) 47 ≡ false
    no_slash high low rest = elim (cases_Bool (is_unreserved (16 * hex_value high + hex_value low))) [ inl e ↦ rw e (unreserved_no_slash (16 * hex_value high + hex_value low) e) | inr e ↦ rw e refl ]

-- no text comes from no text
pub none_in_front : (text : List ℕ) → has_whole_triples text ≡ true → eqb (length (normal_text text)) 0 ≡ eqb (length text) 0
none_in_front =
    by_units (λ t. eqb (length (normal_text t)) 0 ≡ eqb (length t) 0)
    (rw (normal_none (λ c. c)) refl)
    (λ c t ne whole rest. rw (normal_character (λ c. c) c t ne) (some c (normal_text t) ∙ sym (some c t)))
    (λ high low t h l whole rest. rw (normal_triple_front (λ c. c) high low t h l) (of_triple high low (normal_text t) ∙ sym (some 37 (high ∷ low ∷ t))))
  where
    some : (c : ℕ) (t : List ℕ) → eqb (length (c ∷ t)) 0 ≡ false
    some c t = ne_eqb (length (c ∷ t)) 0 (λ e. absurd (omega arith))

    of_triple : (high low : ℕ) (rest : List ℕ) → eqb (length (normal_triple (λ c. c) high low ++ rest)) 0 ≡ false
    of_triple high low rest =
        elim (cases_Bool (is_unreserved (16 * hex_value high + hex_value low))) [
          | inl e ↦ rw e (some (16 * hex_value high + hex_value low) rest)
          | inr e ↦ rw e (some 37 (to_ascii_uppercase high ∷ to_ascii_uppercase low ∷ rest))
        ]

-- two slashes in front come from two
pub slashes_in_front : (text : List ℕ) → has_whole_triples text ≡ true → begins_with_slashes (normal_text text) ≡ begins_with_slashes text
slashes_in_front =
    by_units (λ t. begins_with_slashes (normal_text t) ≡ begins_with_slashes t)
    (rw (normal_none (λ c. c)) refl)
    (λ c t ne whole rest. rw (normal_character (λ c. c) c t ne) (ap (λ b. eqb c 47 && b) (slash_in_front t whole)))
    (λ high low t h l whole rest. ap (λ b. b && eqb (get_or (normal_text (37 ∷ high ∷ low ∷ t)) 1 0) 47) (slash_in_front (37 ∷ high ∷ low ∷ t) (whole_triple high low t h l whole)))
  where
    whole_triple : (high low : ℕ) (t : List ℕ) → is_ascii_hexdigit high ≡ true → is_ascii_hexdigit low ≡ true → has_whole_triples t ≡ true → has_whole_triples (37 ∷ high ∷ low ∷ t) ≡ true
    whole_triple high low t h l k = rw (h, l) (plain high (low ∷ t) h (plain low t l k))
      where
        plain : (c : ℕ) (s : List ℕ) → is_ascii_hexdigit c ≡ true → has_whole_triples s ≡ true → has_whole_triples (c ∷ s) ≡ true
        plain c s h k = rw (ne_eqb c 37 (λ e. apart c h e)) k
          where
            apart : (c : ℕ) → is_ascii_hexdigit c ≡ true → c ≢ 37
            apart c h = λ e. grind (arith, nat_tests)

-- no guard is needed where there is neither scheme nor authority
no_slashes : (c : Components) → Tested c → c.scheme ≡ None → c.authority ≡ None → begins_with_slashes c.path ≡ false
no_slashes c t s a =
    not-true (begins_with_slashes c.path) (and_parts (not (begins_with_slashes c.path)) (not (list_any (λ x. eqb x 58) (before_first (λ x. eqb x 47) c.path))) (ap (λ x. is_path_after x None c.path) (sym s) ∙ ap (λ x. is_path_after c.scheme x c.path) (sym a) ∙ t.place_test)).0

-- the path of a reference itself, guarded
pub own_path : (c : Components) → are_components c ≡ true → (path : List ℕ) → (is_some c.scheme ≡ true → path ≡ remove_dot_segments (normal_text c.path)) → (c.scheme ≡ None → path ≡ normal_text c.path) → guarded_path c.authority path ≡ normal_path c.scheme c.authority c.path
own_path c h path some none = by_scheme c.scheme refl
  where
    unguarded : (a : Option (List ℕ)) → c.scheme ≡ None → c.authority ≡ a → guarded_path a (normal_text c.path) ≡ normal_text c.path
    unguarded (Some x) s a = refl
    unguarded None s a =
        let none : begins_with_slashes (normal_text c.path) ≡ false = slashes_in_front c.path (and_parts _ _ (tested c h).path_test).1 ∙ no_slashes c (tested c h) s a in
        rw none refl

    by_scheme : (s : Option (List ℕ)) → c.scheme ≡ s → guarded_path c.authority path ≡ normal_path s c.authority c.path
    by_scheme (Some x) is = ap (guarded_path c.authority) (some (ap is_some is))
    by_scheme None is = ap (guarded_path c.authority) (none is) ∙ unguarded c.authority is refl

abbrev pub the_components : Option (List ℕ) → Option (List ℕ) → List ℕ → Option (List ℕ) → Option (List ℕ) → Components
the_components s a p q f = record { scheme = s; authority = a; path = p; query = q; fragment = f }

pub some_there : (o : Option (List ℕ)) → is_some o ≡ true → (x : List ℕ) × (o ≡ Some x)
some_there None h = absurd (false≢true h)
some_there (Some x) h = (x, refl)

-- the target by the cases of the standard (5.2.2): with a scheme
pub target_of_scheme : (base reference : Components) (s : List ℕ) → reference.scheme ≡ Some s → target_components base reference ≡ the_components (Some s) reference.authority (remove_dot_segments reference.path) reference.query reference.fragment
target_of_scheme base reference s is = rw is refl

-- with an authority
pub target_of_authority : (base reference : Components) (a : List ℕ) → reference.scheme ≡ None → reference.authority ≡ Some a → target_components base reference ≡ the_components base.scheme (Some a) (remove_dot_segments reference.path) reference.query reference.fragment
target_of_authority base reference a none is = rw (none, is) refl

-- with no path
pub target_of_base : (base reference : Components) → reference.scheme ≡ None → reference.authority ≡ None → eqb (length reference.path) 0 ≡ true → target_components base reference ≡ the_components base.scheme base.authority base.path (query_or reference.query base.query) reference.fragment
target_of_base base reference s a empty = rw (s, a, empty) refl

-- with a path alone
pub target_of_path : (base reference : Components) → reference.scheme ≡ None → reference.authority ≡ None → eqb (length reference.path) 0 ≡ false → target_components base reference ≡ the_components base.scheme base.authority (target_path base reference.path) reference.query reference.fragment
target_of_path base reference s a some = rw (s, a, some) refl

-- the same, guarded
pub resolved_of_base : (base reference : Components) → reference.scheme ≡ None → reference.authority ≡ None → eqb (length reference.path) 0 ≡ true → resolved_components base reference ≡ the_components base.scheme base.authority (guarded_path base.authority base.path) (query_or reference.query base.query) reference.fragment
resolved_of_base base reference s a empty = ap with_guard (target_of_base base reference s a empty)

pub resolved_path : (base reference : Components) → reference.scheme ≡ None → reference.authority ≡ None → eqb (length reference.path) 0 ≡ false → resolved_components base reference ≡ the_components base.scheme base.authority (guarded_path base.authority (target_path base reference.path)) reference.query reference.fragment
resolved_path base reference s a some = ap with_guard (target_of_path base reference s a some)

pub resolved_of_scheme : (base reference : Components) → is_some reference.scheme ≡ true → resolved_components base reference ≡ the_components reference.scheme reference.authority (guarded_path reference.authority (remove_dot_segments reference.path)) reference.query reference.fragment
resolved_of_scheme base reference there =
    let some = some_there reference.scheme there in
    ap with_guard (target_of_scheme base reference some.0 some.1) ∙ ap (λ s. the_components s reference.authority (guarded_path reference.authority (remove_dot_segments reference.path)) reference.query reference.fragment) (sym some.1)

pub resolved_of_authority : (base reference : Components) → reference.scheme ≡ None → is_some reference.authority ≡ true → resolved_components base reference ≡ the_components base.scheme reference.authority (guarded_path reference.authority (remove_dot_segments reference.path)) reference.query reference.fragment
resolved_of_authority base reference none there =
    let some = some_there reference.authority there in
    ap with_guard (target_of_authority base reference some.0 none some.1) ∙ ap (λ a. the_components base.scheme a (guarded_path a (remove_dot_segments reference.path)) reference.query reference.fragment) (sym some.1)

pub none_there : {X : Type 0} (o : Option (Bor X)) → is_some o ≡ false → option_copied o ≡ None
none_there None h = refl
none_there (Some x) h = absurd (false≢true (sym h))

pub still_there : {X : Type 0} (o : Option (Bor X)) → is_some o ≡ true → is_some (option_copied o) ≡ true
still_there None h = h
still_there (Some x) h = refl

-- an absent component gives way to another
pub or_there : (test : List ℕ → Bool) (o other : Option (Bor (List ℕ))) → if_there test (option_copied o) ≡ true → if_there test (option_copied other) ≡ true → if_there test (option_copied (option_or o other)) ≡ true
or_there test None other h k = k
or_there test (Some x) other h k = h

pub or_is_query_or : (o other : Option (Bor (List ℕ))) → option_copied (option_or o other) ≡ query_or (option_copied o) (option_copied other)
or_is_query_or None other = refl
or_is_query_or (Some x) other = refl

pub map_given : (o : Option (List ℕ)) → option_map (λ text. text) o ≡ o
map_given None = refl
map_given (Some text) = refl

-- components that are written as they were given
pub as_given : (s a : Option (List ℕ)) (p : List ℕ) (q f : Option (List ℕ)) → the_components (option_map (λ text. text) s) (option_map (λ text. text) a) p (option_map (λ text. text) q) (option_map (λ text. text) f) ≡ the_components s a p q f
as_given s a p q f =
    ap (λ x. the_components x (option_map (λ text. text) a) p (option_map (λ text. text) q) (option_map (λ text. text) f)) (map_given s)
    ∙ ap (λ x. the_components s x p (option_map (λ text. text) q) (option_map (λ text. text) f)) (map_given a)
    ∙ ap (λ x. the_components s a p x (option_map (λ text. text) f)) (map_given q) ∙ ap (λ x. the_components s a p q x) (map_given f)

-- components that are the same one by one
pub each_same : (c d : Components) → c.scheme ≡ d.scheme → c.authority ≡ d.authority → c.path ≡ d.path → c.query ≡ d.query → c.fragment ≡ d.fragment → c ≡ d
each_same c d s a p q f =
    ap (λ x. the_components x c.authority c.path c.query c.fragment) s ∙ ap (λ x. the_components d.scheme x c.path c.query c.fragment) a
    ∙ ap (λ x. the_components d.scheme d.authority x c.query c.fragment) p ∙ ap (λ x. the_components d.scheme d.authority d.path x c.fragment) q
    ∙ ap (λ x. the_components d.scheme d.authority d.path d.query x) f

-- a text that is there
pub the_same : (x y : List ℕ) → Some x ≡ Some y → x ≡ y
the_same x y e = cc

pub not_there : (x : List ℕ) → None ≡ Some x → ⊥
not_there x e = cc

pub of_that : (P : List ℕ → Type 0) (x y : List ℕ) → P x → Some x ≡ Some y → P y
of_that P x y h e = subst P (the_same x y e) h

-- components that keep their text are between the same marks
pub front_kept : (s a t b : Option (List ℕ)) → t ≡ s → b ≡ a → the_front s a ≡ the_front t b
front_kept s a t b is are = ap (λ x. the_front x a) (sym is) ∙ ap (the_front t) (sym are)

pub rest_kept : (q f r g : Option (List ℕ)) → r ≡ q → g ≡ f → the_rest q f ≡ the_rest r g
rest_kept q f r g is are = ap (λ x. the_rest x f) (sym is) ∙ ap (the_rest r) (sym are)

pub component_given : (form : Form) (o : Option (List ℕ)) → form ≡ Given → option_map (written_text form) o ≡ o
component_given form o is = ap (λ f. option_map (written_text f) o) is ∙ map_given o
