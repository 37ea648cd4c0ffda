-- The hub that a trace asks for: L1 and L5.
-- Assumes nothing.
use Rattle.std.specs.Prelude.{◌≡◌, ℕ, true, cond, List, ◌++◌}
use Rattle.laws.specs.Reply.{Reply, refused, given, and_then}
use Rattle.hub.specs.Hubs.{is_hub_address}
use Rattle.trace.specs.Framing.{holds_record}
use Rattle.trace.specs.Records.{TraceRecord, hub_record, write_record, read_record, write_question, read_question}
use Rattle.trace.specs.Records.{start_record, end_record, pixel_line_record, record_of}
use Rattle.listing.specs.declared.HubAsked.{HubAsked}

-- L5: "In L1 the agent gives the start with the address, and for text made from a trace the trace's own."
-- the hub of what record 1 asks: "2 in record 1". (It is a hub record or none: 13 for the others never comes.)
unfoldable pub hub_of_asked : TraceRecord → Reply HubAsked
hub_of_asked (hub_record address start) =
    cond (is_hub_address address) (given (record { address = address; start = start })) (refused 2)
hub_of_asked (write_record offset values) = refused 13
hub_of_asked (read_record offset) = refused 13
hub_of_asked (write_question address) = refused 13
hub_of_asked (read_question address) = refused 13
hub_of_asked (start_record port bits) = refused 13
hub_of_asked (end_record port) = refused 13
hub_of_asked (pixel_line_record port width pixel) = refused 13

-- the hub of a trace: "13 (an empty trace too), 2 in record 1"; the records after it are not looked at
unfoldable pub trace_hub : List ℕ → Reply HubAsked
trace_hub trace = and_then (record_of true trace) hub_of_asked

-- A law: it is that of any window on the trace's start that holds the whole first record.
abbrev pub WindowHasHub : Type 0
WindowHasHub = (window rest : List ℕ) → holds_record window ≡ true → trace_hub (window ++ rest) ≡ trace_hub window
