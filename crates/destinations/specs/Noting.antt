-- What noting a datagram does to the figures of its destination, and how a flow and a destination are told.
use Rattle.std.specs.Prelude.{ℕ, Bool, ◌&&◌, List, Ok, Err, Result, ◌==◌}
use Rattle.capture.specs.declared.endpoint.Endpoint.{Endpoint}
use Rattle.packet.specs.declared.fault.FrameFault.{FrameFault}
use Rattle.message.specs.Meaning.{Msg}
use Rattle.packet.specs.Refusals.{frame_refusal}
use Rattle.destinations.specs.declared.refusals.Refused.{Refused}
use Rattle.destinations.specs.declared.destination.Flow.{Flow}
use Rattle.destinations.specs.declared.destination.Destination.{Destination}
use Rattle.destinations.specs.Counting.{one_more, all_noted, refused_noted}

-- a flow is told by channel and version, a destination by address and port
abbrev pub is_flow : Flow → ℕ → ℕ → Bool
is_flow f channel version = f.channel == channel && f.version == version

abbrev pub is_destination : Destination → Endpoint → Bool
is_destination d to = d.to.address == to.address && d.to.port == to.port

-- by what the check of the payload says: a datagram that keeps the rules is one packet more, with its messages
abbrev pub packets_after : Result (Unit {0}) FrameFault → ℕ → ℕ
packets_after (Ok x) n = one_more n
packets_after (Err e) n = n

abbrev pub kinds_after : Result (Unit {0}) FrameFault → List ℕ → List Msg → List ℕ
kinds_after (Ok x) counts ms = all_noted counts ms
kinds_after (Err e) counts ms = counts

-- and any other one refusal more
abbrev pub reasons_after : Result (Unit {0}) FrameFault → List Refused → ℕ → List Refused
reasons_after (Ok x) all in-record = all
reasons_after (Err e) all in-record = refused_noted all (frame_refusal e) in-record
