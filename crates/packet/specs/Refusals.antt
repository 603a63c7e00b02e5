-- Each refusal of a packet by its reason, layer and place.
use Rattle.std.specs.Prelude.{ℕ}
use Rattle.refusal.specs.declared.Reason.{Reason}
use Rattle.refusal.specs.declared.Reason.TheVariants as reasons
use Rattle.refusal.specs.declared.Refusal.{Refusal}
use Rattle.refusal.specs.declared.Layer.TheVariants.{Frame}
use Rattle.packet.specs.declared.fault.FrameFault.{FrameFault}
use Rattle.packet.specs.declared.fault.FrameFault.TheVariants.{Size, Empty, Torn, Length, Encoding, Schema, Block, Group}

abbrev pub in_frame : Reason → ℕ → Refusal
in_frame r p = record { reason = r; layer = Frame; place = p }

abbrev pub frame_refusal : FrameFault → Refusal
frame_refusal Size = in_frame reasons.Size 0
frame_refusal Empty = in_frame reasons.Empty 16
frame_refusal (Torn at) = in_frame reasons.Torn at
frame_refusal (Length at) = in_frame reasons.Length at
frame_refusal (Encoding at) = in_frame reasons.Encoding at
frame_refusal (Schema at) = in_frame reasons.Schema at
frame_refusal (Block at) = in_frame reasons.Block at
frame_refusal (Group at) = in_frame reasons.Group at
