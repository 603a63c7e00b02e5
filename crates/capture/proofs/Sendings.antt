-- A datagram is handed out as it was sent.
use Rattle.std.proofs.Common.{◌≡◌, ℕ, ◌+◌, ◌-◌, ◌*◌, ◌/◌, ◌<◌, ◌≤◌, true, false, ◌&&◌, ltb, leb, List, [], ◌∷◌, ◌++◌, length, get_or, take, drop, sym, refl, ap, ◌∙◌, arith, length-append}
use Rattle.std.proofs.lemmas.Nat.{div-add-mod'}
use Rattle.std.proofs.lemmas.List.{take_all, take_at, drop_at, drop-drop}
use Rattle.std.proofs.lemmas.Bool.{cond-true, cond-false, le-ltb, and_from, and_right, eq-eqb, le-leb}
use Rattle.capture.specs.declared.format.Link.{Link}
use Rattle.capture.specs.declared.format.Link.TheVariants.{Ethernet, RawIp}
use Rattle.capture.specs.Numbers.{big_at}
use Rattle.capture.specs.Held.{datagram}
use Rattle.capture.specs.Network.{udp_length, udp_held, header_length, total_length, is_ipv4, is_udp, is_fragment, ipv4_held, tag_type, is_tag, untagged, typed_held, link_held}
use Rattle.capture.specs.Sent.{Sent, Sendable, TagTypes, pair, udp_bytes, ip_bytes, tag_bytes, frame_bytes, sent_over}
use Rattle.capture.proofs.Tags.{untagged_tag, untagged-none}

pair-value : (n : ℕ) (rest : List ℕ) → n < 65536 → big_at (pair n rest) 0 2 ≡ n
pair-value n rest h = omega (arith, div-add-mod' n 256)

-- a UDP datagram by its parts
udp_by : (time address : ℕ) (u : List ℕ) (port : ℕ) (payload : List ℕ) → 8 ≤ length u → 8 ≤ udp_length u → udp_length u ≤ length u → big_at u 2 2 ≡ port → take (udp_length u - 8) (drop 8 u) ≡ payload → udp_held time address u ≡ datagram time address port payload
udp_by time address u port payload a b c is part =
    cond-false (ltb (length u) 8) _ _ (le-ltb (length u) 8 a)
    ∙ cond-false (ltb (udp_length u) 8) _ _ (le-ltb (udp_length u) 8 b)
    ∙ cond-false (ltb (length u) (udp_length u)) _ _ (le-ltb (length u) (udp_length u) c)
    ∙ ap (λ p. datagram time address p (take (udp_length u - 8) (drop 8 u))) is
    ∙ ap (λ l. datagram time address port l) part

-- an IPv4 packet by its parts
ip_by : (time : ℕ) (p : List ℕ) (address : ℕ) (u : List ℕ) → 20 ≤ length p → (is_ipv4 p && is_udp p) ≡ true → is_fragment p ≡ false → total_length p ≤ length p → big_at p 16 4 ≡ address → take (total_length p - header_length p) (drop (header_length p) p) ≡ u → ipv4_held time p ≡ udp_held time address u
ip_by time p address u a b c d is part =
    cond-false (ltb (length p) 20) _ _ (le-ltb (length p) 20 a)
    ∙ cond-true (is_ipv4 p && is_udp p) _ _ b
    ∙ cond-false (is_fragment p) _ _ c
    ∙ cond-false (ltb (length p) (total_length p)) _ _ (le-ltb (length p) (total_length p) d)
    ∙ ap (λ x. udp_held time x (take (total_length p - header_length p) (drop (header_length p) p))) is
    ∙ ap (λ x. udp_held time address x) part

-- a UDP header and its payload, with nothing behind
udp_sent : (time address : ℕ) (s : Sent) → Sendable s → udp_held time address (udp_bytes s) ≡ datagram time address s.to_port s.payload
udp_sent time address s k =
    let long : udp_length (udp_bytes s) ≡ 8 + length s.payload = pair-value (8 + length s.payload) [] (omega (arith, k.size)) in
    udp_by time address (udp_bytes s) s.to_port s.payload (omega arith) (omega arith) (omega arith) (pair-value s.to_port [] k.port) (take_all (udp_length (udp_bytes s) - 8) s.payload (omega arith))

-- how the IPv4 header begins, and what it says
ip_total : (s : Sent) → Sendable s → total_length (ip_bytes s) ≡ 28 + 4 * s.words + length s.payload
ip_total s k = pair-value (28 + 4 * s.words + length s.payload) [] k.size

ip_header : (s : Sent) → Sendable s → header_length (ip_bytes s) ≡ 20 + 4 * s.words
ip_header s k = let w = k.words in omega arith

ip_length : (s : Sent) → Sendable s → length (ip_bytes s) ≡ 28 + 4 * s.words + length s.payload + length s.padding
ip_length s k =
    let o = k.options in
    let a = length-append s.options (udp_bytes s ++ s.padding) in
    let b = length-append (udp_bytes s) s.padding in
    omega arith

ip_part : (s : Sent) → Sendable s → take (total_length (ip_bytes s) - header_length (ip_bytes s)) (drop (header_length (ip_bytes s)) (ip_bytes s)) ≡ udp_bytes s
ip_part s k =
    let total = ip_total s k in
    let head = ip_header s k in
    let behind : drop (header_length (ip_bytes s)) (ip_bytes s) ≡ udp_bytes s ++ s.padding = ap (λ n. drop n (ip_bytes s)) head ∙ (sym (drop-drop (4 * s.words) 20 (ip_bytes s)) ∙ drop_at s.options (udp_bytes s ++ s.padding) (4 * s.words) k.options) in
    ap (take (total_length (ip_bytes s) - header_length (ip_bytes s))) behind ∙ take_at (udp_bytes s) s.padding (total_length (ip_bytes s) - header_length (ip_bytes s)) (omega arith)

ip_sent : (time : ℕ) (s : Sent) → Sendable s → ipv4_held time (ip_bytes s) ≡ datagram time s.to s.to_port s.payload
ip_sent time s k =
    let total = ip_total s k in
    let head = ip_header s k in
    let long = ip_length s k in
    let w = k.words in
    let to : big_at (ip_bytes s) 16 4 ≡ s.to = let h = k.to in omega arith in
    let four : get_or (ip_bytes s) 0 0 / 16 ≡ 4 = omega arith in
    let a = le-leb 20 (header_length (ip_bytes s)) (omega arith) in
    let b = le-leb (header_length (ip_bytes s)) (total_length (ip_bytes s)) (omega arith) in
    let is = and_from (is_ipv4 (ip_bytes s)) (is_udp (ip_bytes s)) (and_from _ _ (eq-eqb (get_or (ip_bytes s) 0 0 / 16) 4 four) (and_from _ _ a b)) refl in
    ip_by time (ip_bytes s) s.to (udp_bytes s) (omega arith) is refl (omega arith) to (ip_part s k) ∙ udp_sent time s.to s k

-- tags one behind the other are passed over
behind-tags : (tags : List (ℕ × ℕ)) (rest : List ℕ) → TagTypes tags → is_tag rest ≡ false → untagged 0 (tag_bytes tags rest) ≡ rest
behind-tags [] rest k none = untagged-none rest none
behind-tags (tag ∷ tags) rest k none =
    let bs = tag_bytes (tag ∷ tags) rest in
    let long = le-leb 2 (length bs) (omega arith) in
    let kind : tag_type (big_at bs 0 2) ≡ true = ap tag_type (pair-value tag.0 [] k.0) ∙ k.1 in
    untagged_tag bs (and_from (leb 2 (length bs)) (tag_type (big_at bs 0 2)) long kind) ∙ behind-tags tags rest k.2 none

frame_sent : (time : ℕ) (s : Sent) → Sendable s → link_held Ethernet time (frame_bytes s) ≡ datagram time s.to s.to_port s.payload
frame_sent time s k =
    let t = pair 2048 (ip_bytes s) in
    let none : is_tag t ≡ false = and_right (leb 2 (length t)) (tag_type (big_at t 0 2)) refl in
    let behind : untagged 0 (drop 12 (frame_bytes s)) ≡ t = ap (untagged 0) (drop_at s.addresses (tag_bytes s.tags t) 12 k.addresses) ∙ behind-tags s.tags t k.tags none in
    ap (typed_held time) behind ∙ cond-false (ltb (length t) 2) _ _ (le-ltb (length t) 2 (omega arith)) ∙ ip_sent time s k

pub sent-over : (l : Link) (time : ℕ) (s : Sent) → Sendable s → link_held l time (sent_over l s) ≡ datagram time s.to s.to_port s.payload
sent-over Ethernet time s k = frame_sent time s k
sent-over RawIp time s k = ip_sent time s k
