-- How a sender writes a datagram into an Ethernet frame.
use Rattle.std.specs.Prelude.{◌≡◌, ℕ, ◌+◌, ◌*◌, ◌/◌, ◌%◌, ◌<◌, ◌≤◌, true, List, [], ◌∷◌, ◌++◌, length}
use Rattle.capture.specs.declared.format.Link.{Link}
use Rattle.capture.specs.declared.format.Link.TheVariants.{Ethernet, RawIp}
use Rattle.capture.specs.Held.{Held, datagram}
use Rattle.capture.specs.Network.{tag_type}

-- a number of two bytes, and of four, the highest byte first
abbrev pub pair : ℕ → List ℕ → List ℕ
pair n rest = n / 256 ∷ n % 256 ∷ rest

abbrev pub quad : ℕ → List ℕ → List ℕ
quad n rest = pair (n / 65536) (pair (n % 65536) rest)

-- what a sender chooses
pub record Sent : Type 0 where
  -- the two Ethernet addresses
  pub addresses : List ℕ
  -- tags, each a type and its two bytes
  pub tags : List (ℕ × ℕ)
  -- bytes of the IPv4 header that say nothing of the datagram
  pub service : ℕ
  pub serial : ℕ
  pub hops : ℕ
  pub checksum : ℕ
  pub from : ℕ
  pub to : ℕ
  -- words of options
  pub words : ℕ
  pub options : List ℕ
  pub from_port : ℕ
  pub to_port : ℕ
  pub udp_checksum : ℕ
  pub payload : List ℕ
  -- what fills the frame up
  pub padding : List ℕ

abbrev pub udp_bytes : Sent → List ℕ
udp_bytes s = pair s.from_port (pair s.to_port (pair (8 + length s.payload) (pair s.udp_checksum s.payload)))

-- flags that say 'do not fragment'
abbrev pub ip_bytes : Sent → List ℕ
ip_bytes s =
    (69 + s.words) ∷ (s.service ∷ pair (28 + 4 * s.words + length s.payload) (pair s.serial (pair 16384 (s.hops ∷ (17 ∷ pair s.checksum (quad s.from (quad s.to (s.options ++ (udp_bytes s ++ s.padding)))))))))

abbrev pub tag_bytes : List (ℕ × ℕ) → List ℕ → List ℕ
tag_bytes [] rest = rest
tag_bytes (tag ∷ tags) rest = pair tag.0 (pair tag.1 (tag_bytes tags rest))

abbrev pub frame_bytes : Sent → List ℕ
frame_bytes s = s.addresses ++ tag_bytes s.tags (pair 2048 (ip_bytes s))

-- what stands in a record of a link type
abbrev pub sent_over : Link → Sent → List ℕ
sent_over Ethernet s = frame_bytes s
sent_over RawIp s = ip_bytes s

-- what the receiver is to be handed
abbrev pub arrived : ℕ → Sent → Held
arrived time s = datagram time s.to s.to_port s.payload

abbrev pub TagTypes : List (ℕ × ℕ) → Type 0
TagTypes [] = Unit {0}
TagTypes (tag ∷ tags) = (tag.0 < 65536) × (tag_type tag.0 ≡ true) × TagTypes tags

-- lengths and numbers fit their places
pub record Sendable (s : Sent) : Type 0 where
  pub addresses : length s.addresses ≡ 12
  pub tags : TagTypes s.tags
  pub words : s.words ≤ 10
  pub options : length s.options ≡ 4 * s.words
  pub to : s.to < 4294967296
  pub port : s.to_port < 65536
  pub size : 28 + 4 * s.words + length s.payload < 65536
