-- Which methods change something, and which registry serves a request.
use Rattle.std.specs.Prelude.{ℕ, Bool, true, false, ◌==◌, ◌&&◌, Option, Some, None, bytes_eq, codes, if◌then◌else◌, option_and_then}
use Rattle.std.specs.Option.{option_map_or}
use Rattle.serde_json.specs.Data.{Data}
use Rattle.serde_json.specs.Find.{get, as_str}
use Rattle.ref_protocol.specs.declared.methods.Method.{Method}
use Rattle.ref_protocol.specs.declared.methods.Method.TheVariants.{Initialize, Exit, Definition, References, Hover, DocumentLink, Completion, PrepareRename, Rename, WillRenameFiles, Diagnostic}
use Rattle.ref_protocol.specs.declared.methods.Phase.{Phase}
use Rattle.ref_protocol.specs.declared.methods.Phase.TheVariants.{New, Running, ShutDown}
use Rattle.ref_protocol.specs.Methods.{is_notification}

-- what changes the documents, or what is known of the client: `initialize`, and each notification but `exit`; so no other request does
abbrev pub moves : Method → Bool
moves Initialize = true
moves Exit = false
moves other = is_notification other

-- the requests that are answered by a registry of documents: those about what references lead to
abbrev pub needs_view : Method → Bool
needs_view Definition = true
needs_view References = true
needs_view Hover = true
needs_view DocumentLink = true
needs_view Completion = true
needs_view PrepareRename = true
needs_view Rename = true
needs_view WillRenameFiles = true
needs_view other = false

-- a registry of all documents, or that for one, serves what is asked of all, or of one: that for one serves what is asked of the same, where
-- its text has a value
abbrev pub serves : Option ℕ → Option ℕ → Bool → Bool
serves None asked has_value = true
serves (Some number) None has_value = false
serves (Some number) (Some asked) has_value = number == asked && has_value

-- a server that was shut down before ends well (3.17, "Exit Notification")
abbrev pub was_shut_down : Phase → Bool
was_shut_down New = false
was_shut_down Running = false
was_shut_down ShutDown = true

-- a call is of `workspace/diagnostic`
abbrev pub is_of_all : Data → Bool
is_of_all message =
    option_map_or (λ name. bytes_eq name (codes "workspace/diagnostic"))
    (option_and_then as_str (get (codes "method") message)) false

-- the method that a call is served by: diagnostics of all documents are served as those of one
abbrev pub method_of : Data → Option Method → Option Method
method_of message method = if is_of_all message then Some Diagnostic else method
