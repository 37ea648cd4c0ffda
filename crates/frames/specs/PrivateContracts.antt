-- How the contracts of the private functions are stated: no rule of the papers.
-- Assumes nothing.
use Rattle.std.specs.Prelude.{ℕ, Result, Ok, Err}
use Rattle.laws.specs.Reply.{Reply, on_reply, reply_by}
use Rattle.hub.specs.declared.Hub.{Hub}
use Rattle.hub.specs.Hubs.{with_port_frames}
use Rattle.frames.specs.declared.EventRefusal.{EventRefusal}
use Rattle.frames.specs.declared.Taken.{Taken}
use Rattle.frames.specs.Events.{Outcome, outcome_of, event_refusal_number}

-- what an event that is taken or refused is answered, and the hub after it
abbrev pub taken_reply : Result Taken EventRefusal → Reply (Outcome ℕ)
taken_reply taken = on_reply (λ event. outcome_of event.sent) (reply_by event_refusal_number taken)

abbrev pub hub_with_taken : Hub → ℕ → Result Taken EventRefusal → Hub
hub_with_taken hub port (Ok event) = with_port_frames hub port event.frames
hub_with_taken hub port (Err refusal) = hub
