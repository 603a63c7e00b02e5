-- What a snapshot packet that is taken leaves of the plain part, before its messages are read.
use Rattle.std.specs.Prelude.{cond, Some, None}
use Rattle.packet.specs.declared.head.PacketHead.{PacketHead}
use Rattle.recovery.specs.Answers.{is_next}
use Rattle.recovery.specs.Steps.{followed_to}
use Rattle.receiver.specs.declared.plain.Plain.{Plain}

-- the packet is noted, and closes the open group unless it is the one that is due
abbrev pub noted_plain : PacketHead → Plain → Plain
noted_plain h p = record {
  places = p.places;
  marks = p.marks;
  joined = p.joined;
  followed = Some (followed_to h.version h.number);
  pending = cond (is_next p.followed h.version h.number) p.pending None;
}
