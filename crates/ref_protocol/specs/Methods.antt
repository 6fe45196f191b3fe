-- Methods of the Language Server Protocol 3.17, and when each is due ("Lifecycle Messages"; JSON-RPC 2.0, 4.1).
use Rattle.std.specs.Prelude.{ℕ, List, Bool, true, false, Option, Some, None, codes, bytes_eq, if◌then◌else◌}
use Rattle.ref_protocol.specs.declared.methods.Method.{Method}
use Rattle.ref_protocol.specs.declared.methods.Method.TheVariants.{Initialize, Initialized, DidOpen, DidChange, DidSave, DidClose, DidChangeFiles, DidChangeFolders, Definition, References, Hover, DocumentLink, Completion, PrepareRename, Rename, WillRenameFiles, CodeAction, Diagnostic, DocumentSymbol, WorkspaceSymbol, Shutdown, Exit}
use Rattle.ref_protocol.specs.declared.methods.Phase.{Phase}
use Rattle.ref_protocol.specs.declared.methods.Phase.TheVariants.{New, Running, ShutDown}
use Rattle.ref_protocol.specs.declared.methods.Due.{Due}
use Rattle.ref_protocol.specs.declared.methods.Due.TheVariants.{Pass, Refuse, Do}
use Rattle.ref_protocol.specs.declared.refusal.Refusal.{Refusal}
use Rattle.ref_protocol.specs.declared.refusal.Refusal.TheVariants.{NoRequest, NoMethod, NotInitialized, AfterShutdown}

-- the method with a name
abbrev pub method_named : List ℕ → Option Method
method_named s =
    if bytes_eq s (codes "initialize") then Some Initialize
    else (if bytes_eq s (codes "initialized") then Some Initialized
    else (if bytes_eq s (codes "textDocument/didOpen") then Some DidOpen
    else (if bytes_eq s (codes "textDocument/didChange") then Some DidChange
    else (if bytes_eq s (codes "textDocument/didSave") then Some DidSave
    else (if bytes_eq s (codes "textDocument/didClose") then Some DidClose
    else (if bytes_eq s (codes "workspace/didChangeWatchedFiles") then Some DidChangeFiles
    else (if bytes_eq s (codes "workspace/didChangeWorkspaceFolders") then Some DidChangeFolders
    else (if bytes_eq s (codes "textDocument/definition") then Some Definition
    else (if bytes_eq s (codes "textDocument/references") then Some References
    else (if bytes_eq s (codes "textDocument/hover") then Some Hover
    else (if bytes_eq s (codes "textDocument/documentLink") then Some DocumentLink
    else (if bytes_eq s (codes "textDocument/completion") then Some Completion
    else (if bytes_eq s (codes "textDocument/prepareRename") then Some PrepareRename
    else (if bytes_eq s (codes "textDocument/rename") then Some Rename
    else (if bytes_eq s (codes "workspace/willRenameFiles") then Some WillRenameFiles
    else (if bytes_eq s (codes "textDocument/codeAction") then Some CodeAction
    else (if bytes_eq s (codes "textDocument/diagnostic") then Some Diagnostic
    else (if bytes_eq s (codes "textDocument/documentSymbol") then Some DocumentSymbol
    else (if bytes_eq s (codes "workspace/symbol") then Some WorkspaceSymbol
    else (if bytes_eq s (codes "shutdown") then Some Shutdown
    else (if bytes_eq s (codes "exit") then Some Exit else None)))))))))))))))))))))

-- a method of a notification, which gets no answer, and not of a request
abbrev pub is_notification : Method → Bool
is_notification Initialized = true
is_notification DidOpen = true
is_notification DidChange = true
is_notification DidSave = true
is_notification DidClose = true
is_notification DidChangeFiles = true
is_notification DidChangeFolders = true
is_notification Exit = true
is_notification other = false

-- why a method comes before or after its time
abbrev pub untimely : Phase → Option Method → Option Refusal
untimely New (Some Initialize) = None
untimely New (Some Exit) = None
untimely New other = Some NotInitialized
untimely Running (Some Initialize) = Some NoRequest
untimely Running other = None
untimely ShutDown (Some Exit) = None
untimely ShutDown other = Some AfterShutdown

-- a refused request is answered, and a notification never
abbrev pub refused : Bool → Refusal → Due
refused is_request refusal = if is_request then Refuse refusal else Pass

-- a method in its time, called as a request or as a notification
abbrev pub timely : Bool → Option Method → Due
timely is_request None = refused is_request NoMethod
timely true (Some method) = if is_notification method then Refuse NoRequest else Do method
timely false (Some method) = if is_notification method then Do method else Pass

abbrev pub due_by : Bool → Option Method → Option Refusal → Due
due_by is_request method (Some refusal) = refused is_request refusal
due_by is_request method None = timely is_request method

-- what is to be done with a call
unfoldable pub due_for : Phase → Option Method → Bool → Due
due_for phase method is_request = due_by is_request method (untimely phase method)
