use Rattle.std.proofs.Common.{refl}
use Rattle.ref_draft.specs.declared.draft.Draft.TheVariants.{Draft4, Draft6, Draft7, Draft201909, Draft202012}
use Rattle.ref_draft.specs.Rows.{empty, yes}
use Rattle.ref_draft.proofs.Scanning.{accepted, refused}
use Rattle.ref_draft.proofs.examples.scan.accepted_parts.Goals as goal

pub returns : goal.returns
returns c = record {
  child_keyword_alone = refused Draft202012 empty _ refl;
  child_keyword = accepted Draft202012 empty _ refl;
  element = accepted Draft202012 yes _ refl;
  index_first = accepted Draft202012 empty _ refl;
  no_keyword = refused Draft202012 empty _ refl;
  below_items = accepted Draft7 empty _ refl;
  below_items_at_no_object = refused Draft7 yes _ refl;
  value_keyword = accepted Draft6 yes _ refl;
  dependencies = accepted Draft201909 empty _ refl;
  defs_in_4 = accepted Draft4 empty _ refl;
  prefix_items_in_4 = accepted Draft4 empty _ refl;
  boolean_or_schema_in_4 = accepted Draft4 empty _ refl;
  const_in_4 = refused Draft4 empty _ refl;
  defs_in_6 = refused Draft6 empty _ refl;
}
