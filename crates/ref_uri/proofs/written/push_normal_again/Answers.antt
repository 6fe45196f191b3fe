use Rattle.std.proofs.Common.{◌≡◌, ◌+◌, ◌++◌, ◌≤◌, OnOk, length, slice_range, take, drop, get_or, string_bytes, subst, ap, sym, ◌∙◌, arith, lit<, rules}
use Rattle.std.specs.Str.{IsAscii}
use Rattle.std.proofs.lemmas.List.{map-id, take-append-le, drop-drop, drop-append-le, length-append, length-drop}
use Rattle.std.proofs.lemmas.Str.{IsAscii-append, IsAscii-take, IsAscii-drop}
use Rattle.std.proofs.lemmas.Str.Pattern.{find_char}
use Rattle.std.proofs.lemmas.Result.{on_ok_weaker}
use Rattle.ref_uri.specs.Characters.{has_whole_triples, begins_with_hex_digits}
use Rattle.ref_uri.specs.Normal.{normal_triple, normal_text}
use Rattle.ref_uri.proofs.EncodedLemmas.{hex_digits-append}
use Rattle.ref_uri.proofs.NormalLemmas.{normal_turn, normal_plain}
use Rattle.ref_uri.proofs.PartLemmas.{with_appended, left_of, front_of, character_of, at_percent}
use Rattle.ref_uri.proofs.WrittenLemmas.{triple_ascii}
use Rattle.ref_uri.proofs.written.push_normal_again.Goals as goal

pub push_triple_again-requires : goal.push_triple_again-requires
push_triple_again-requires c =
    let text = string_bytes c.args.buffer.now in
    let buffer = string_bytes c.runs.buffer in
    let end = c.len-end.result in
    let at = c.runs.at in
    let len = c.in-Some.len in
    let inv = c.runs.invariant in
    let long : length text ≡ end = omega arith in
    let here : c.range.result.now ≡ drop at text = c.range.ensures.value ∙ ap (λ t. slice_range t at end) c.deref.ensures ∙ left_of buffer text at end inv.0 long inv.4 in
    let found = rw here at (rw c.in-Some.is at (find_char 37 c.range.result.now c.find.result c.find.ensures.cases (lit< tt))) in
    let percent = at_percent text at len c.requires.buffer_ascii inv.2 found.0 found.1 found.2 in
    let front : take end (string_bytes c.extend_from_within.new.self) ≡ text =
    ap (take end) c.in_ok-extend_from_within.ensures.bytes ∙ take-append-le end buffer (slice_range buffer at (at + len)) inv.5 ∙ inv.0 in
    let appended = drop end (string_bytes c.extend_from_within.new.self) in
    let there = ap (drop (at + len + 1)) (with_appended (string_bytes c.extend_from_within.new.self) text end front) ∙ drop-append-le (at + len + 1) text appended (omega (arith, found.0, length-drop at text)) in
    ap begins_with_hex_digits there ∙ hex_digits-append (drop (at + len + 1) text) appended percent.digits

pub runs-preserved : goal.runs-preserved
runs-preserved c =
    let text = string_bytes c.args.buffer.now in
    let buffer = string_bytes c.runs.buffer in
    let end = c.len-end.result in
    let at = c.runs.at in
    let len = c.in-Some.len in
    let left = drop at text in
    let run = take len left in
    let rest = drop (at + len + 1) text in
    let inv = c.runs.invariant in
    let long : length text ≡ end = omega arith in
    let here : c.range.result.now ≡ left = c.range.ensures.value ∙ ap (λ t. slice_range t at end) c.deref.ensures ∙ left_of buffer text at end inv.0 long inv.4 in
    let found = rw here at (rw c.in-Some.is at (find_char 37 c.range.result.now c.find.result c.find.ensures.cases (lit< tt))) in
    let percent = at_percent text at len c.requires.buffer_ascii inv.2 found.0 found.1 found.2 in
    let enough : at + (len + 3) ≤ end = omega (arith, found.0, percent.behind.digits.enough, length-drop at text, length-drop (at + len + 1) text) in
    let more : string_bytes c.extend_from_within.new.self ≡ buffer ++ run = c.in_ok-extend_from_within.ensures.bytes ∙ ap (λ t. buffer ++ t) (front_of buffer text at len end inv.0 long (omega arith)) in
    let front : take end (buffer ++ run) ≡ text = take-append-le end buffer run inv.5 ∙ inv.0 in
    let high = character_of (buffer ++ run) text (at + len + 1) 0 (at + len + 1) end front (omega arith) (omega arith) in
    let low = character_of (buffer ++ run) text (at + len + 1) 1 (at + len + 2) end front (omega arith) (omega arith) in
    let triple = normal_triple (λ x. x) (get_or rest 0 0) (get_or rest 1 0) in
    let written : string_bytes c.push_triple_again.new.buffer ≡ (buffer ++ run) ++ triple =
    c.in_ok-push_triple_again.ensures ∙ ap (λ t. t ++ normal_triple (λ x. x) (get_or t (at + len + 1) 0) (get_or t (at + len + 2) 0)) more ∙ ap (λ h. (buffer ++ run) ++ normal_triple (λ x. x) h (get_or (buffer ++ run) (at + len + 2) 0)) high
    ∙ ap (λ l. (buffer ++ run) ++ normal_triple (λ x. x) (get_or rest 0 0) l) low in
    let behind : drop 2 rest ≡ drop (at + (len + 3)) text = let e : at + len + 1 + 2 ≡ at + (len + 3) = omega arith in drop-drop 2 (at + len + 1) text ∙ ap (λ k. drop k text) e in
    let run_ascii = IsAscii-take left len (IsAscii-drop text at c.requires.buffer_ascii) in (
      ap (take end) written ∙ take-append-le end (buffer ++ run) triple (omega (arith, inv.5, length-append buffer run)) ∙ front,
      ap (λ t. t ++ normal_text (drop (at + (len + 3)) text)) written ∙ ap (λ t. ((buffer ++ run) ++ triple) ++ normal_text t) (sym behind) ∙ ap (λ t. ((buffer ++ t) ++ triple) ++ normal_text (drop 2 rest)) (sym (map-id run))
          ∙ normal_turn (λ x. x) buffer left run rest percent.cut percent.none percent.behind.digits
          ∙ inv.1,
      ap has_whole_triples (sym behind) ∙ percent.behind.whole,
      subst IsAscii (sym written) (IsAscii-append (buffer ++ run) triple (IsAscii-append buffer run inv.3 run_ascii) (triple_ascii (λ x. x) (λ x lt. lt) (get_or rest 0 0) (get_or rest 1 0) percent.behind.digits.high percent.behind.digits.low)),
      enough,
      omega (arith, inv.5, ap length written, length-append (buffer ++ run) triple, length-append buffer run),
    )

pub returns-clause-text : goal.returns-clause-text
returns-clause-text c =
    let text = string_bytes c.args.buffer.now in
    let buffer = string_bytes c.runs.buffer in
    let end = c.len-end.result in
    let at = c.runs.at in
    let left = drop at text in
    let inv = c.runs.invariant in
    let long : length text ≡ end = omega arith in
    let part = left_of buffer text at end inv.0 long inv.4 in
    let here : c.range.result.now ≡ left = c.range.ensures.value ∙ ap (λ t. slice_range t at end) c.deref.ensures ∙ part in
    let none = rw here at (rw c.in_default.is at (find_char 37 c.range.result.now c.find.result c.find.ensures.cases (lit< tt))) in
    let all : buffer ++ slice_range buffer at end ≡ text ++ normal_text (drop c.args.start text) = ap (λ t. buffer ++ t) (part ∙ sym (normal_plain (λ x. x) left none ∙ map-id left)) ∙ inv.1 in
    let more : OnOk c.extend_from_within-2.result (string_bytes c.extend_from_within-2.new.self ≡ buffer ++ slice_range buffer at end) = search rules in
    on_ok_weaker c.extend_from_within-2.result (λ e. e ∙ all) more
