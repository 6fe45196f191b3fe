use Rattle.std.proofs.Common.{◌≡◌, false, sym, ap, option_map, ap}
use Rattle.ref_vocabularies.specs.Vocabularies.{Known, Standard, Core, Applicator, Unevaluated, Validation, Metadata, Format, FormatAnnotation, Content, FormatAssertion, is_uri_of}
use Rattle.ref_vocabularies.proofs.Texts.{no_uri, none_known}
use Rattle.ref_vocabularies.proofs.vocabulary.known.Goals as goal

no_known : (c : goal.In_default) (k : Known) → is_uri_of c.args.text.now k ≡ false
no_known c Core = no_uri c.args.text.now Core c.in_default.not-text (λ there. c.in_default.not-text-2)
no_known c Applicator = no_uri c.args.text.now Applicator c.in_default.not-text-3 (λ there. c.in_default.not-text-4)
no_known c Unevaluated = no_uri c.args.text.now Unevaluated c.in_default.not-text-5 (λ there. absurd (cc))
no_known c Validation = no_uri c.args.text.now Validation c.in_default.not-text-6 (λ there. c.in_default.not-text-7)
no_known c Metadata = no_uri c.args.text.now Metadata c.in_default.not-text-8 (λ there. c.in_default.not-text-9)
no_known c Format = no_uri c.args.text.now Format c.in_default.not-text-10 (λ there. c.in_default.not-text-11)
no_known c FormatAnnotation = no_uri c.args.text.now FormatAnnotation c.in_default.not-text-12 (λ there. absurd (cc))
no_known c Content = no_uri c.args.text.now Content c.in_default.not-text-13 (λ there. c.in_default.not-text-14)
no_known c FormatAssertion = no_uri c.args.text.now FormatAssertion c.in_default.not-text-15 (λ there. absurd (cc))

pub returns-in_default : goal.returns-in_default
returns-in_default c = sym (ap (option_map Standard) (none_known c.args.text.now (no_known c)))
