-- How a datagram lies in a frame: Ethernet with its tags, IPv4, UDP.
use Rattle.std.specs.Prelude.{ℕ, zero, suc, ◌-◌, ◌*◌, ◌/◌, ◌%◌, Bool, cond, not, ◌&&◌, ◌||◌, List, [], ◌∷◌, length, take, drop, ◌==◌, nat_le, nat_lt, slice_index}
use Rattle.capture.specs.declared.format.Link.{Link}
use Rattle.capture.specs.declared.format.Link.TheVariants.{Ethernet, RawIp}
use Rattle.capture.specs.Numbers.{big_at}
use Rattle.capture.specs.Held.{Held, datagram, cut, fragment, no_udp}

-- a UDP datagram: source port, destination port, length with these eight bytes, checksum, payload
abbrev pub udp_length : List ℕ → ℕ
udp_length u = big_at u 4 2

abbrev pub udp_held : ℕ → ℕ → List ℕ → Held
udp_held time address u =
    cond (nat_lt (length u) 8) cut
    (cond (nat_lt (udp_length u) 8) no_udp
    (cond (nat_lt (length u) (udp_length u)) cut
    (datagram time address (big_at u 2 2) (take (udp_length u - 8) (drop 8 u)))))

-- an IPv4 packet: the version and the header's length in words share the first byte
abbrev pub header_length : List ℕ → ℕ
header_length p = 4 * (slice_index p 0 % 16)

abbrev pub total_length : List ℕ → ℕ
total_length p = big_at p 2 2

-- the version is 4, the header has its 20 bytes, and the packet is no shorter than its header
abbrev pub is_ipv4 : List ℕ → Bool
is_ipv4 p = slice_index p 0 / 16 == 4 && (nat_le 20 (header_length p) && nat_le (header_length p) (total_length p))

abbrev pub is_udp : List ℕ → Bool
is_udp p = slice_index p 9 == 17

-- more fragments follow, or some went before: of 16 bits the third and the thirteen behind it
abbrev pub is_fragment : List ℕ → Bool
is_fragment p = not (big_at p 6 2 % 16384 == 0)

abbrev pub ipv4_held : ℕ → List ℕ → Held
ipv4_held time p =
    cond (nat_lt (length p) 20) cut
    (cond (is_ipv4 p && is_udp p)
    (cond (is_fragment p) fragment
    (cond (nat_lt (length p) (total_length p)) cut
    (udp_held time (big_at p 16 4) (take (total_length p - header_length p) (drop (header_length p) p)))))
    no_udp)

-- the types of tags
abbrev pub tag_type : ℕ → Bool
tag_type t = t == 0x8100 || (t == 0x88a8 || t == 0x9100)

abbrev pub is_tag : List ℕ → Bool
is_tag bs = nat_le 2 (length bs) && tag_type (big_at bs 0 2)

-- the bytes behind all tags, each of four bytes with its type; `skip` bytes further on
unfoldable pub untagged : ℕ → List ℕ → List ℕ
untagged skip [] = []
untagged (suc k) (b ∷ bs) = untagged k bs
untagged zero (b ∷ bs) = cond (is_tag (b ∷ bs)) (untagged 3 bs) (b ∷ bs)

-- what stands from the type on, where 0x0800 says IPv4
abbrev pub typed_held : ℕ → List ℕ → Held
typed_held time t = cond (nat_lt (length t) 2) cut (cond (big_at t 0 2 == 0x0800) (ipv4_held time (drop 2 t)) no_udp)

-- an Ethernet frame has two addresses of six bytes at its front
abbrev pub link_held : Link → ℕ → List ℕ → Held
link_held Ethernet time frame = typed_held time (untagged 0 (drop 12 frame))
link_held RawIp time frame = ipv4_held time frame
