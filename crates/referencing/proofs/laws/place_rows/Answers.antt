use Rattle.std.proofs.Common.{refl, sym, ap, ◌∙◌, codes, inr, true≢false}
use Rattle.ref_draft.specs.declared.draft.Draft.TheVariants.{Draft7}
use Rattle.ref_draft.specs.Children.{is_object}
use Rattle.ref_definitions.specs.Places.{root}
use Rattle.ref_definitions.specs.Lookup.{Found}
use Rattle.ref_definitions.specs.Agreement.{itself}
use Rattle.ref_definitions.specs.Rows.{at, yes}
use Rattle.ref_definitions.proofs.ReadAlike.{read_alike}
use Rattle.ref_definitions.proofs.OnLiterals.{world_on_literals}
use Rattle.referencing.proofs.laws.place_rows.Goals as goal

pub returns : goal.returns
unfolding world_on_literals
returns c =
    let alike = read_alike (at Draft7 "http://a/r" yes) (codes "http://a/r") refl (inr refl, tt) (refl, tt) (λ before. (tt, tt)) in
    record {
      rows = record {
        of_the_place = λ r is. (codes "http://a/r", refl, is);
        of_another_value = λ r is of. true≢false (ap (λ (f : Found). is_object f.value) (sym is ∙ of.2));
        want_of_memory = λ e d r q alike under path. tt;
        no_other_error = λ p agrees. agrees (at Draft7 "http://a/r" yes) (root (at Draft7 "http://a/r" yes)) (root (at Draft7 "http://a/r" yes)) alike itself refl;
        no_other_value = λ r is agrees. true≢false (ap (λ (f : Found). is_object f.value) (sym is ∙ (agrees (at Draft7 "http://a/r" yes) (root (at Draft7 "http://a/r" yes)) (root (at Draft7 "http://a/r" yes)) alike itself refl).2));
      };
    }
