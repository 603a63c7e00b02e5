-- What a record holds, with the payload as a list of bytes.
use Rattle.std.specs.Prelude.{ℕ, List}
use Rattle.capture.specs.declared.frame.Frame.{Frame}
use Rattle.capture.specs.declared.frame.Frame.TheVariants.{Datagram, Cut, Fragment, NoUdp}

pub data Held : Type 0 where
  -- a whole datagram: time, destination address, destination port, payload
  datagram : ℕ → ℕ → ℕ → List ℕ → Held
  -- the bytes end before the datagram does
  cut : Held
  -- a part of a datagram
  fragment : Held
  -- no UDP over IPv4
  no_udp : Held

-- what a frame that is handed out says
abbrev pub view : Frame → Held
view (Datagram d) = datagram d.time d.to.address d.to.port d.payload.now
view Cut = cut
view Fragment = fragment
view NoUdp = no_udp
