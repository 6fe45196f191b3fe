use Rattle.std.proofs.Common.{not, eqb, bit_and, refl, ap, sym, ◌∙◌, arith}
use Rattle.ref_uri.specs.Characters.{is_name_character, is_userinfo_character, is_path_character, is_query_character}
use Rattle.ref_uri.specs.inner.Class.{allows, is_first_segment_character}
use Rattle.ref_uri.specs.declared.characters.TheConstants.{FLAGS}
use Rattle.ref_uri.proofs.TableLemmas.{from_table}
use Rattle.ref_uri.proofs.characters.Class.allows.Goals as goal

pub returns-in-FirstSegment : goal.returns-in-FirstSegment
returns-in-FirstSegment c = ap (λ f. not (eqb (bit_and f 16) 0)) c.flags_of.ensures ∙ from_table FLAGS 16 is_first_segment_character c.args.c (omega arith) refl ∙ ap (λ k. allows k c.args.c) (sym c.in-FirstSegment.is)

pub returns-in-Userinfo : goal.returns-in-Userinfo
returns-in-Userinfo c = ap (λ f. not (eqb (bit_and f 32) 0)) c.flags_of-in-Userinfo.ensures ∙ from_table FLAGS 32 is_userinfo_character c.args.c (omega arith) refl ∙ ap (λ k. allows k c.args.c) (sym c.in-Userinfo.is)

pub returns-in-Name : goal.returns-in-Name
returns-in-Name c = ap (λ f. not (eqb (bit_and f 8) 0)) c.flags_of-in-Name.ensures ∙ from_table FLAGS 8 is_name_character c.args.c (omega arith) refl ∙ ap (λ k. allows k c.args.c) (sym c.in-Name.is)

pub returns-in-Path : goal.returns-in-Path
returns-in-Path c = ap (λ f. not (eqb (bit_and f 64) 0)) c.flags_of-in-Path.ensures ∙ from_table FLAGS 64 is_path_character c.args.c (omega arith) refl ∙ ap (λ k. allows k c.args.c) (sym c.in-Path.is)

pub returns-in-Query : goal.returns-in-Query
returns-in-Query c = ap (λ f. not (eqb (bit_and f 128) 0)) c.flags_of-in-Query.ensures ∙ from_table FLAGS 128 is_query_character c.args.c (omega arith) refl ∙ ap (λ k. allows k c.args.c) (sym c.in-Query.is)
