-- The reason, the layer and the place of each refusal of a receiver.
use Rattle.std.specs.Prelude.{ℕ}
use Rattle.refusal.specs.declared.Reason.{Reason}
use Rattle.refusal.specs.declared.Reason.TheVariants as reasons
use Rattle.refusal.specs.declared.Refusal.{Refusal}
use Rattle.refusal.specs.declared.Layer.TheVariants.{Stream}
use Rattle.packet.specs.Refusals.{frame_refusal}
use Rattle.store.specs.Faults.{refusal_of}
use Rattle.recovery.specs.declared.fault.StreamFault.{StreamFault}
use Rattle.recovery.specs.declared.fault.StreamFault.TheVariants.{Frame, Store, Channel, Version, Number, Late, Join, Shelf, Instrument, WatchList, OwnVersion, Slots}

abbrev pub in_stream : Reason → ℕ → Refusal
in_stream r place = record { reason = r; layer = Stream; place = place }

abbrev pub stream_refusal : StreamFault → Refusal
stream_refusal (Frame e) = frame_refusal e
stream_refusal (Store e) = refusal_of e
stream_refusal Channel = in_stream reasons.Channel 0
stream_refusal Version = in_stream reasons.Version 2
stream_refusal Number = in_stream reasons.Number 4
stream_refusal Late = in_stream reasons.Late 4
stream_refusal Join = in_stream reasons.Join 0
stream_refusal (Shelf length) = in_stream reasons.Shelf length
stream_refusal Instrument = in_stream reasons.Instrument 0
stream_refusal WatchList = in_stream reasons.Opening 1
stream_refusal OwnVersion = in_stream reasons.Opening 2
stream_refusal Slots = in_stream reasons.Opening 3
