use Rattle.std.proofs.Common.{◌≡◌, ◌∙◌, ◌++◌, [], ◌∷◌, true, false, map, ap, sym, string_bytes, bytes_eq, cond, rules}
use Rattle.std.specs.List.{list_any}
use Rattle.std.specs.HashSet.{contains_text}
use Rattle.std.proofs.lemmas.Map.Text.{hash_set_updates_text}
use Rattle.ref_reach.specs.Reached.{place_text, is_same, is_in}
use Rattle.ref_reach.specs.Views.{place_of}
use Rattle.ref_reach.proofs.Closing.{one_is_old, one_is_new}
use Rattle.ref_reach.proofs.Following.{known_more, known_again, not_true, not_false, mapped_one}
use Rattle.ref_reach.proofs.seen.Seen.add.Goals as goal

pub returns-in_ok-push : goal.returns-in_ok-push
returns-in_ok-push c = record {
  value = λ ps seen.
      let p = place_of c.args.place in
      let bytes : string_bytes c.in_ok-text.text ≡ place_text p = search rules in
      let new : is_in ps p ≡ false = sym (seen.known (place_text p)) ∙ ap (contains_text c.args.self.now.texts) (sym bytes) ∙ not_true (contains_text c.args.self.now.texts (string_bytes c.in_ok-text.text)) (search rules) in
      let after = one_is_new is_same ps p new in
      record {
        listed = ap (map place_of) c.in_ok-push.ensures.items ∙ mapped_one place_of c.args.self.now.places.items c.args.place ∙ ap (λ l. l ++ p ∷ []) seen.listed ∙ sym after;
        known = λ text.
            hash_set_updates_text (string_bytes c.in_ok-text.text) c.args.self.now.texts c.insert.new.self true (search rules) text
            ∙ ap (λ b. cond (bytes_eq b text) true (contains_text c.args.self.now.texts text)) bytes
            ∙ known_more ps p text (contains_text c.args.self.now.texts text) (seen.known text)
            ∙ ap (list_any (λ q. bytes_eq (place_text q) text)) (sym after);
      };
}

pub returns-else-branch : goal.returns-else-branch
returns-else-branch c = record {
  value = λ ps seen.
      let p = place_of c.args.place in
      let bytes : string_bytes c.in_ok-text.text ≡ place_text p = search rules in
      let old : is_in ps p ≡ true = sym (seen.known (place_text p)) ∙ ap (contains_text c.args.self.now.texts) (sym bytes) ∙ not_false (contains_text c.args.self.now.texts (string_bytes c.in_ok-text.text)) (search rules) in
      let after = one_is_old is_same ps p old in
      record {
        listed = seen.listed ∙ sym after;
        known = λ text.
            hash_set_updates_text (string_bytes c.in_ok-text.text) c.args.self.now.texts c.insert.new.self true (search rules) text
            ∙ ap (λ b. cond (bytes_eq b text) true (contains_text c.args.self.now.texts text)) bytes
            ∙ known_again ps p text (contains_text c.args.self.now.texts text) (seen.known text) old
            ∙ ap (list_any (λ q. bytes_eq (place_text q) text)) (sym after);
      };
}
