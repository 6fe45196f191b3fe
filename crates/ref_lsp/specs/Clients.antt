-- What a client says of itself and of its texts (Language Server Protocol 3.17).
use Rattle.std.specs.Prelude.{ℕ, List, Bool, false, not, ◌||◌, Option, Some, None, option_and_then, is_some, codes, bytes_eq, if◌then◌else◌}
use Rattle.std.specs.Option.{option_map_or}
use Rattle.serde_json.specs.Data.{Data, Items, no_items, item}
use Rattle.serde_json.specs.Find.{get, pointer, as_array, as_bool, as_object, as_str}
use Rattle.ref_positions.specs.declared.format.Format.{Format}
use Rattle.ref_positions.specs.declared.format.Format.TheVariants.{Json, Yaml}
use Rattle.ref_positions.specs.Formats.{has_end}
use Rattle.ref_protocol.specs.declared.encoding.Encoding.{Encoding}
use Rattle.ref_protocol.specs.declared.encoding.Encoding.TheVariants.{Utf16}
use Rattle.ref_protocol.specs.Positions as positions

-- the encoding that a value names, where it names one that the server has
abbrev pub encoding_named : Data → Option Encoding
encoding_named name = option_and_then positions.encoding_of (as_str name)

abbrev pub or_else : Option Encoding → Encoding → Encoding
or_else (Some encoding) other = encoding
or_else None other = other

-- the first of the encodings that a client names which the server has, and UTF-16 where it has none of them ("PositionEncodingKind")
abbrev pub first_of : Items → Encoding
first_of no_items = Utf16
first_of (item name rest) = or_else (encoding_named name) (first_of rest)

abbrev pub encoding_among : Option Items → Encoding
encoding_among None = Utf16
encoding_among (Some names) = first_of names

-- the encoding of a client ("InitializeParams"); UTF-16 where it says nothing
abbrev pub encoding_of : Data → Encoding
encoding_of params =
    encoding_among (option_and_then as_array (pointer (codes "/capabilities/general/positionEncodings") params))

abbrev pub is_true : Option Bool → Bool
is_true (Some b) = b
is_true None = false

-- a client says that it can what is at a pointer
abbrev pub is_said : List ℕ → Data → Bool
is_said path params = is_true (option_and_then as_bool (pointer path params))

-- a format of what is said of a place is Markdown ("MarkupKind")
abbrev pub is_markdown : Data → Bool
is_markdown format = option_map_or (λ name. bytes_eq name (codes "markdown")) (as_str format) false

abbrev pub has_markdown : Items → Bool
has_markdown no_items = false
has_markdown (item format rest) = is_markdown format || has_markdown rest

-- a client says in which formats it takes what is said of a place ("HoverClientCapabilities"), and Markdown is none of them
abbrev pub takes_plain : Data → Bool
takes_plain params =
    option_map_or (λ formats. not (has_markdown formats))
    (option_and_then as_array (pointer (codes "/capabilities/textDocument/hover/contentFormat") params)) false

-- a client says what it can in an object, as it must ("InitializeParams"; an array is none)
abbrev pub has_capabilities : Data → Bool
has_capabilities params = is_some (option_and_then as_object (get (codes "capabilities") params))

-- a client takes, with what is wrong, places that have to do with it ("PublishDiagnosticsClientCapabilities")
abbrev pub takes_related : Data → Bool
takes_related params =
    is_said (codes "/capabilities/textDocument/publishDiagnostics/relatedInformation") params

-- a client takes changes as literals; one that doesn't takes commands alone ("CodeActionClientCapabilities")
abbrev pub takes_actions : Data → Bool
takes_actions params =
    is_some
    (option_and_then as_object
    (pointer (codes "/capabilities/textDocument/codeAction/codeActionLiteralSupport") params))

-- a request for changes has its context, with diagnostics ("CodeActionContext")
abbrev pub has_diagnostics : Data → Bool
has_diagnostics params = is_some (option_and_then as_array (pointer (codes "/context/diagnostics") params))

-- whether a place itself is asked for with its references: nothing where the request has no context that says it ("ReferenceContext")
abbrev pub with_declaration : Data → Option Bool
with_declaration params = option_and_then as_bool (pointer (codes "/context/includeDeclaration") params)

-- how a text is written, by its path and by what the client calls its language ("TextDocumentItem"): YAML where one says so, else JSON where
-- one says that
abbrev pub format_of : List ℕ → List ℕ → Option Format
format_of path language =
    if has_end (codes ".yaml") path || has_end (codes ".yml") path || bytes_eq language (codes "yaml") then Some Yaml
    else (if has_end (codes ".json") path || bytes_eq language (codes "json") then Some Json else None)
