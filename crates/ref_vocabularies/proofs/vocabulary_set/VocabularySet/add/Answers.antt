use Rattle.std.proofs.Common.{◌<◌, ◌^◌, [], refl}
use Rattle.std.specs.Option.{option_map_or}
use Rattle.std.proofs.lemmas.Nat.{or_lt}
use Rattle.ref_vocabularies.specs.Views.{vocabulary_of}
use Rattle.ref_vocabularies.proofs.Bits.{mask-lt}
use Rattle.ref_vocabularies.proofs.Variants.{with-bit}
use Rattle.ref_vocabularies.proofs.vocabulary_set.VocabularySet.add.Goals as goal
use Rattle.ref_vocabularies.proofs.vocabulary_set.VocabularySet.add.Goals.{in-Custom-1, in-Core-1}

pub invariant_of-self-in_default-2 : goal.invariant_of-self-in_default-2
invariant_of-self-in_default-2 c =
    let small : c.mask.result < 2 ^ 9 = rw c.mask.ensures (mask-lt (vocabulary_of c.args.vocabulary)) in
    (or_lt 9 c.self.inside.known c.mask.result c.self.invariant.0 small, c.self.invariant.1)

pub returns-in_default : goal.returns-in_default
returns-in_default c =
    let with = with-bit c.self.inside.known c.mask.result (option_map_or (λ uris. uris.items) c.self.inside.custom []) c.args.vocabulary c.in_default.not-Custom c.mask.ensures in
    record {
      added = elim c.match-known.branch [ in-Custom-1 w ↦ rw w.self-is (rw (← c.self.view_is) with) | in-Core-1 w ↦ rw w.self-is (rw (← c.self.view_is) with) ];
      refused = tt;
      known = λ k e. refl;
      there = λ e. refl;
    }
