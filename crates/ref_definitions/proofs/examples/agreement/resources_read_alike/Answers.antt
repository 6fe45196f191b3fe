use Rattle.std.proofs.Common.{codes, inl, inr, refl, true≢false, sym, arith}
use Rattle.ref_draft.specs.declared.draft.Draft.TheVariants.{Draft4, Draft6, Draft7, Draft201909, Draft202012}
use Rattle.ref_definitions.specs.Rows.{at, place_below, yes, text, one, identified_4, identified_schema, identified_2020}
use Rattle.ref_definitions.proofs.ReadAlike.{read_alike, read_alike_at}
use Rattle.ref_definitions.proofs.OnLiterals.{world_on_literals}
use Rattle.ref_definitions.proofs.examples.agreement.resources_read_alike.Goals as goal

pub returns : goal.returns
unfolding world_on_literals
returns c = record {
  draft_4 = read_alike (at Draft4 "http://a/b" identified_4) (codes "http://a/r") refl (inl refl, (inr refl, (inl refl, tt))) (refl, (refl, (refl, (refl, tt))))
      (λ before. ((refl, (refl, (refl, tt))), ((refl, tt), ((refl, tt), (tt, tt)))));
  draft_6 = read_alike (at Draft6 "http://a/b" identified_schema) (codes "http://a/r") refl (inl refl, (inr refl, (inl refl, tt))) (refl, (refl, (refl, (refl, tt))))
      (λ before. ((refl, (refl, (refl, tt))), ((refl, tt), ((refl, tt), (tt, tt)))));
  draft_7 = read_alike (at Draft7 "http://a/b" identified_schema) (codes "http://a/r") refl (inl refl, (inr refl, (inl refl, tt))) (refl, (refl, (refl, (refl, tt))))
      (λ before. ((refl, (refl, (refl, tt))), ((refl, tt), ((refl, tt), (tt, tt)))));
  draft_2019 = read_alike (at Draft201909 "http://a/b" identified_2020) (codes "http://a/r") refl (inl refl, (inr refl, (inl refl, tt))) (refl, (refl, (refl, (refl, tt))))
      (λ before. ((refl, (refl, (refl, tt))), ((refl, tt), ((refl, tt), (tt, tt)))));
  draft_2020 = read_alike (at Draft202012 "http://a/b" identified_2020) (codes "http://a/r") refl (inl refl, (inr refl, (inl refl, tt))) (refl, (refl, (refl, (refl, tt))))
      (λ before. absurd (true≢false (sym before)));
  below_the_root = read_alike_at (at Draft202012 "http://a/r" (one "not" (one "$id" (text "s")))) (place_below "not" (one "$id" (text "s")) "http://a/r" "http://a/s") (codes "http://a/s") (1, omega arith, refl) (inr refl) refl
      (inl refl, (inr refl, tt)) (refl, (refl, tt)) (λ before. absurd (true≢false (sym before)));
  without_an_identifier = read_alike (at Draft7 "http://a/r" yes) (codes "http://a/r") refl (inr refl, tt) (refl, tt) (λ before. (tt, tt));
  map_with_an_identifier_in_2020 = read_alike (at Draft202012 "http://a/r" (one "properties" (one "$id" (text "m")))) (codes "http://a/r") refl (inr refl, tt) (refl, (refl, tt))
      (λ before. absurd (true≢false (sym before)));
}
