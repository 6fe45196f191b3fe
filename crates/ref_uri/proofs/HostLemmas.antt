-- Lemmas on scans of a host and a port.
use Rattle.std.proofs.Common.{◌≡◌, ◌≢◌, ℕ, zero, suc, ◌+◌, ◌-◌, ◌<◌, ◌≤◌, min, Bool, true, false, ◌&&◌, ◌||◌, not, List, [], ◌∷◌, length, take, drop, get_or, get_or-take, eqb, refl, sym, ap, ◌∙◌, subst, arith, inl, inr}
use Rattle.std.specs.List.{list_all, position_or_len, before_first, prefix_len}
use Rattle.std.specs.Char.{is_ascii_digit}
use Rattle.std.proofs.lemmas.Bool.{and_parts, and_left, or_right, or_from, false≢true, false_from_ne_true, cases_Bool, cases_order, eqb-true, eq-eqb, ne_eqb}
use Rattle.std.proofs.lemmas.Bool.Decides.{nat_tests}
use Rattle.std.proofs.lemmas.List.{length-take-le, take-take, take_rest}
use Rattle.std.proofs.lemmas.List.Sums.{prefix_len-le-length, fails_before_first, passes_at_first}
use Rattle.std.proofs.lemmas.List.Folds.{length-prefix_len}
use Rattle.std.proofs.Math.Seq.{drop-cons, take-add}
use Rattle.ref_uri.specs.Characters.{is_encoded, is_userinfo_character, is_name_character}
use Rattle.ref_uri.specs.inner.Scans.{begins_encoded}
use Rattle.ref_uri.specs.Authority.{is_port_part, is_host, is_bracketed, is_address, is_future_address, is_address_and_bracket, is_host_and_port, host_len}
use Rattle.ref_uri.specs.Components.{ends_authority}
use Rattle.ref_uri.specs.inner.Scans.{ends_authority_at}
use Rattle.ref_uri.proofs.PathLemmas.{before_first-cons}
use Rattle.ref_uri.specs.declared.characters.Class.TheVariants.{Name}
use Rattle.ref_uri.proofs.EncodedLemmas.{passes_in_front, not_encoded_past, encoded-append}
use Rattle.ref_uri.proofs.AuthorityCharacters.{is_host_character, bracket_characters}
use Rattle.ref_uri.proofs.ScanLemmas.{run_to_end, run_passes, plain_encoded, encoded_wider, inside, before_first-drop, ends_authority_at-drop, position-drop, position-take}

digit_ends_nothing : (c : ℕ) → is_ascii_digit c ≡ true → ends_authority c ≡ false
digit_ends_nothing c h = grind (arith, nat_tests)

-- what is after the first element, as a slice has it
pub rest_is : (t : List ℕ) → take (length t - 1) (drop 1 t) ≡ drop 1 t
rest_is t = take_rest t 1

-- a `:` and the digits after it
abbrev pub port_run : List ℕ → ℕ
port_run t = 1 + prefix_len is_ascii_digit (drop 1 t)

pub port_within : (t : List ℕ) → get_or t 0 0 ≡ 58 → port_run t ≤ length t
port_within [] colon = absurd (omega (arith, colon))
port_within (c ∷ t) colon = omega (arith, prefix_len-le-length is_ascii_digit t)

pub port_encoded : (t : List ℕ) → get_or t 0 0 ≡ 58 → is_encoded is_userinfo_character (take (port_run t) t) ≡ true
port_encoded [] colon = refl
port_encoded (c ∷ t) colon =
    let e : 1 + prefix_len is_ascii_digit t ≡ suc (prefix_len is_ascii_digit t) = omega arith in
    rw (e, colon) (plain_encoded is_userinfo_character is_ascii_digit (λ d h. grind (arith, nat_tests)) (λ d h. grind (arith, nat_tests)) (take (prefix_len is_ascii_digit t) t) (run_passes is_ascii_digit t))

pub port_accepted : (t : List ℕ) → get_or t 0 0 ≡ 58 → ends_authority_at t (port_run t) ≡ is_port_part (before_first ends_authority t)
port_accepted [] colon = absurd (omega (arith, colon))
port_accepted (c ∷ t) colon =
    let d = prefix_len is_ascii_digit t in
    let test : eqb (1 + d) (suc (length t)) ≡ eqb d (length t) = one_more d (length t) in
    let read : get_or (c ∷ t) (1 + d) 0 ≡ get_or t d 0 = read_on d in
    let goes_on : ends_authority c ≡ false = grind (arith, nat_tests) in
    let is : eqb c 58 ≡ true = eq-eqb c 58 colon in
    rw (before_first-cons ends_authority c t, goes_on, test, read, is) (run_to_end is_ascii_digit digit_ends_nothing t)
  where
    one_more : (a b : ℕ) → eqb (1 + a) (suc b) ≡ eqb a b
    one_more a b = grind (arith, nat_tests)

    read_on : (k : ℕ) → get_or (c ∷ t) (1 + k) 0 ≡ get_or t k 0
    read_on k = let e : 1 + k ≡ suc k = omega arith in rw e refl

-- a port after a place in the authority
pub port_after : (t : List ℕ) (k r : ℕ) → k ≤ length t → k ≤ position_or_len ends_authority t → ends_authority_at (drop k t) r ≡ is_port_part (before_first ends_authority (drop k t)) → ends_authority_at t (k + r) ≡ is_port_part (drop k (before_first ends_authority t))
port_after t k r le inner h = sym (ends_authority_at-drop t k r le) ∙ h ∙ ap is_port_part (before_first-drop ends_authority t k inner)

-- a front of characters and triples lies inside the authority
pub encoded_inside : (t : List ℕ) (k : ℕ) → k ≤ length t → is_encoded is_userinfo_character (take k t) ≡ true → k ≤ position_or_len ends_authority t
encoded_inside t k le h =
    inside ends_authority (λ c. is_userinfo_character c || eqb c 37) (λ c h. grind (arith, nat_tests)) t k le (and_parts _ _ h).0

pub name_is_userinfo : (t : List ℕ) → is_encoded is_name_character t ≡ true → is_encoded is_userinfo_character t ≡ true
name_is_userinfo t h = encoded_wider is_name_character is_userinfo_character (λ c k. rw k refl) t h

-- two encoded pieces
pub encoded_joined : (t : List ℕ) (k r : ℕ) → is_encoded is_userinfo_character (take k t) ≡ true → is_encoded is_userinfo_character (take r (drop k t)) ≡ true → is_encoded is_userinfo_character (take (k + r) t) ≡ true
encoded_joined t k r h g = rw (take-add k r t) (encoded-append is_userinfo_character (take k t) (take r (drop k t)) h g)

no_bracket : (h : ℕ) (a : List ℕ) → get_or a 0 0 ≢ 91 → is_bracketed (take h a) ≡ false
no_bracket zero a other = refl
no_bracket (suc h) [] other = refl
no_bracket (suc h) (c ∷ a) other = and_left (eqb c 91) (is_address_and_bracket (take h a)) (ne_eqb c 91 other)

first_of_part : (t : List ℕ) → get_or t 0 0 ≢ 91 → get_or (before_first ends_authority t) 0 0 ≢ 91
first_of_part [] other = other
first_of_part (c ∷ t) other =
    elim (cases_Bool (ends_authority c)) [
      | inl ends ↦ rw (before_first-cons ends_authority c t, ends) (λ e. absurd (omega (arith, e)))
      | inr goes_on ↦ rw (before_first-cons ends_authority c t, goes_on) other
    ]

-- with no bracket in front, the host is the longest name, or there is none
pub name_accepted : (t : List ℕ) (k : ℕ) → get_or t 0 0 ≢ 91 → k ≤ length t → is_encoded is_name_character (take k t) ≡ true → begins_encoded is_name_character (drop k t) ≡ false → is_port_part (drop k (before_first ends_authority t)) ≡ is_host_and_port (before_first ends_authority t)
name_accepted t k other le h no_more =
    let end = position_or_len ends_authority t in
    let a = before_first ends_authority t in
    let host = position_or_len (λ c. eqb c 58) a in
    let other_here : get_or a 0 0 ≢ 91 = first_of_part t other in
    let no_mark : eqb (get_or a 0 0) 91 ≡ false = ne_eqb (get_or a 0 0) 91 other_here in
    let len_a : length a ≡ end = length-prefix_len (λ c. not (ends_authority c)) t in
    let short : host ≤ length a = prefix_len-le-length (λ c. not (eqb c 58)) a in
    let end_short : end ≤ length t = prefix_len-le-length (λ c. not (ends_authority c)) t in
    let inner : k ≤ end = encoded_inside t k le (name_is_userinfo (take k t) h) in
    let host_is : host_len a ≡ host = rw no_mark refl in
    rw host_is (elim (cases_order k host) [
      | inl same ↦
          let front : take host a ≡ take k t = ap (λ n. take n a) (sym same) ∙ take-take k end t inner in
          let name : is_host (take host a) ≡ true = subst (λ (l : List ℕ). is_host l ≡ true) (sym front) (or_right (is_bracketed (take k t)) (is_encoded is_name_character (take k t)) h) in
          rw name (ap (λ n. is_port_part (drop n a)) same)
      | inr (inl before) ↦
          let front : take host a ≡ take host t = take-take host end t (omega arith) in
          let no_name : is_encoded is_name_character (take host a) ≡ false = subst (λ (l : List ℕ). is_encoded is_name_character l ≡ false) (sym front) (not_encoded_past Name t k host before (omega arith) no_more) in
          let no_host : is_host (take host a) ≡ false = or_from (is_bracketed (take host a)) (is_encoded is_name_character (take host a)) (no_bracket host a other_here) no_name in
          let no_colon : eqb (get_or a k 0) 58 ≡ false = fails_before_first (λ c. eqb c 58) a k 0 before in
          let within : k < length a = omega arith in
          let no_port : is_port_part (drop k a) ≡ false = rw (drop-cons a k 0 within) (and_left (eqb (get_or a k 0) 58) (list_all is_ascii_digit (drop (suc k) a)) no_colon) in
          no_port ∙ sym (and_left (is_host (take host a)) (is_port_part (drop host a)) no_host)
      | inr (inr behind) ↦
          let colon : get_or a host 0 ≡ 58 = eqb-true (get_or a host 0) 58 (passes_at_first (λ c. eqb c 58) a 0 (omega arith)) in
          let there : get_or t host 0 ≡ 58 = sym (get_or-take end t host 0 (omega arith)) ∙ colon in
          absurd (false≢true (subst (λ (c : ℕ). (is_name_character c || eqb c 37) ≡ true) there (passes_in_front Name t k host behind le h)))
    ])

or_false : (b : Bool) → (b || false) ≡ b
or_false true = refl
or_false false = refl

-- how much of a text is an address and its `]`
abbrev bracket_len : List ℕ → ℕ
bracket_len b = min (position_or_len (λ c. eqb c 93) b + 1) (length b)

in_brackets : (b : List ℕ) → is_host_and_port (91 ∷ b) ≡ (is_address_and_bracket (take (bracket_len b) b) && is_port_part (drop (bracket_len b) b))
in_brackets b =
    let len : host_len (91 ∷ b) ≡ suc (bracket_len b) = one_more (position_or_len (λ c. eqb c 93) b) (length b) in
    rw len (ap (λ (x : Bool). x && is_port_part (drop (bracket_len b) b)) (or_false (is_address_and_bracket (take (bracket_len b) b))))
  where
    one_more : (p n : ℕ) → min (1 + p + 1) (suc n) ≡ suc (min (p + 1) n)
    one_more p n = omega arith

host_ends_nothing : (c : ℕ) → is_host_character c ≡ true → ends_authority c ≡ false
host_ends_nothing c h = grind (arith, nat_tests)

-- an address and its `]` lie inside the authority, and are what is there through the first `]`
bracket_len_is : (s : List ℕ) (m : ℕ) → m ≤ length s → is_address_and_bracket (take m s) ≡ true → (m ≤ position_or_len ends_authority s) × (bracket_len (before_first ends_authority s) ≡ m)
bracket_len_is s m le h =
    let end = position_or_len ends_authority s in
    let b = before_first ends_authority s in
    let first = position_or_len (λ c. eqb c 93) (take m s) in
    let both = and_parts (eqb (first + 1) (length (take m s))) (is_address (take first (take m s)) || is_future_address (take first (take m s))) h in
    let last : first + 1 ≡ length (take m s) = eqb-true (first + 1) (length (take m s)) both.0 in
    let len : length (take m s) ≡ m = length-take-le m s le in
    let inner : m ≤ end = inside ends_authority is_host_character host_ends_nothing s m le (bracket_characters (take m s) h) in
    let len_b : length b ≡ end = length-prefix_len (λ c. not (ends_authority c)) s in
    let same : position_or_len (λ c. eqb c 93) (take m b) ≡ first = ap (λ l. position_or_len (λ c. eqb c 93) l) (take-take m end s inner) in
    let place : position_or_len (λ c. eqb c 93) b ≡ position_or_len (λ c. eqb c 93) (take m b) = position-take (λ c. eqb c 93) b m (omega arith) (omega arith) in
    (inner, omega arith)

-- what is after `[` up to the end of the authority
pub part_past : (t : List ℕ) → get_or t 0 0 ≡ 91 → before_first ends_authority t ≡ 91 ∷ before_first ends_authority (drop 1 t)
part_past [] mark = absurd (omega (arith, mark))
part_past (c ∷ t) mark = rw (before_first-cons ends_authority c t, mark) refl

end_after : (t : List ℕ) → get_or t 0 0 ≡ 91 → position_or_len ends_authority t ≡ 1 + position_or_len ends_authority (drop 1 t)
end_after [] mark = absurd (omega (arith, mark))
end_after (c ∷ t) mark = rw mark refl

pub brackets_inside : (t : List ℕ) (m : ℕ) → get_or t 0 0 ≡ 91 → m ≤ length (drop 1 t) → is_address_and_bracket (take m (drop 1 t)) ≡ true → 1 + m ≤ position_or_len ends_authority t
brackets_inside t m mark le h = omega (arith, end_after t mark, (bracket_len_is (drop 1 t) m le h).0)

pub brackets_accepted : (t : List ℕ) (m : ℕ) → get_or t 0 0 ≡ 91 → m ≤ length (drop 1 t) → is_address_and_bracket (take m (drop 1 t)) ≡ true → is_port_part (drop (1 + m) (before_first ends_authority t)) ≡ is_host_and_port (before_first ends_authority t)
brackets_accepted t m mark le h =
    let b = before_first ends_authority (drop 1 t) in
    let is = bracket_len_is (drop 1 t) m le h in
    let len : bracket_len b ≡ m = is.1 in
    let front : take m b ≡ take m (drop 1 t) = take-take m (position_or_len ends_authority (drop 1 t)) (drop 1 t) is.0 in
    let one : 1 + m ≡ suc m = omega arith in
    rw (part_past t mark, one) (sym (in_brackets b ∙ rw (len, front, h) refl))

-- where no front after `[` is an address and its `]`, no host is there
pub brackets_none : (t : List ℕ) → get_or t 0 0 ≡ 91 → ((n : ℕ) → n ≤ length (drop 1 t) → is_address_and_bracket (take n (drop 1 t)) ≡ true → ⊥) → is_host_and_port (before_first ends_authority t) ≡ false
brackets_none t mark none =
    let b = before_first ends_authority (drop 1 t) in
    let end = position_or_len ends_authority (drop 1 t) in
    let len_b : length b ≡ end = length-prefix_len (λ c. not (ends_authority c)) (drop 1 t) in
    let short : end ≤ length (drop 1 t) = prefix_len-le-length (λ c. not (ends_authority c)) (drop 1 t) in
    let front : take (bracket_len b) b ≡ take (bracket_len b) (drop 1 t) = take-take (bracket_len b) end (drop 1 t) (omega arith) in
    let no_address : is_address_and_bracket (take (bracket_len b) b) ≡ false = false_from_ne_true _ (λ yes. none (bracket_len b) (omega arith) (subst (λ (l : List ℕ). is_address_and_bracket l ≡ true) front yes)) in
    ap is_host_and_port (part_past t mark) ∙ in_brackets b ∙ and_left (is_address_and_bracket (take (bracket_len b) b)) (is_port_part (drop (bracket_len b) b)) no_address

-- a port after a place in the authority lies inside it
pub port_inside : (t : List ℕ) (k r : ℕ) → k ≤ position_or_len ends_authority t → r ≤ length (drop k t) → is_encoded is_userinfo_character (take r (drop k t)) ≡ true → k + r ≤ position_or_len ends_authority t
port_inside t k r inner le h = omega (arith, position-drop ends_authority t k inner, encoded_inside (drop k t) r le h)
