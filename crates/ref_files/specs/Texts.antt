-- Texts that are read as JSON or as YAML.
use Rattle.std.specs.Prelude.{Option, option_map}
use Rattle.std.specs.Result.{result_ok}
use Rattle.serde_json.specs.Data.{Data}
use Rattle.serde_json.specs.View.{view}
use Rattle.ref_files.specs.declared.text.DocumentText.{DocumentText}

-- the tree of a text that was read, where it is JSON or YAML
abbrev pub tree_of : DocumentText → Option Data
tree_of t = option_map view (result_ok t.value)
