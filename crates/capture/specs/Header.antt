-- How a capture file begins: 24 bytes that say the byte order, the precision and the link type.
use Rattle.std.specs.Prelude.{ℕ, Bool, cond, ◌||◌, List, length, Ok, Err, Result, ◌==◌, nat_lt}
use Rattle.capture.specs.declared.order.ByteOrder.{ByteOrder}
use Rattle.capture.specs.declared.order.ByteOrder.TheVariants.{Little, Big}
use Rattle.capture.specs.declared.fault.CaptureFault.{CaptureFault}
use Rattle.capture.specs.declared.fault.CaptureFault.TheVariants.{NotCapture, UnknownLink, HeaderCut, RecordCut, RecordLong}
use Rattle.capture.specs.declared.format.Format.{Format}
use Rattle.capture.specs.declared.format.Link.{Link}
use Rattle.capture.specs.declared.format.Link.TheVariants.{Ethernet, RawIp}
use Rattle.capture.specs.declared.format.Precision.{Precision}
use Rattle.capture.specs.declared.format.Precision.TheVariants.{Micro, Nano}
use Rattle.capture.specs.Numbers.{little_at, big_at, number_at}

abbrev pub and_then : {A B E : Type 0} → Result A E → (A → Result B E) → Result B E
and_then (Ok x) f = f x
and_then (Err e) f = Err e

-- where in the file a fault lies
abbrev pub offset_of : CaptureFault → ℕ
offset_of NotCapture = 0
offset_of UnknownLink = 20
offset_of (HeaderCut at) = at
offset_of (RecordCut at) = at
offset_of (RecordLong at) = at

-- the magic number at the front stands in the file's own byte order
abbrev pub magic_of : List ℕ → Result (ByteOrder × Precision) CaptureFault
magic_of bs =
    cond (nat_lt (length bs) 4) (Err (HeaderCut (length bs)))
    (cond (little_at bs 0 4 == 0xa1b2c3d4) (Ok (Little, Micro))
    (cond (little_at bs 0 4 == 0xa1b23c4d) (Ok (Little, Nano))
    (cond (big_at bs 0 4 == 0xa1b2c3d4) (Ok (Big, Micro))
    (cond (big_at bs 0 4 == 0xa1b23c4d) (Ok (Big, Nano))
    (Err NotCapture)))))

-- the link types of raw IP: the one of the list, its form for IPv4 alone, and two of older systems
abbrev pub is_raw : ℕ → Bool
is_raw n = n == 101 || (n == 228 || (n == 12 || n == 14))

-- the link type is the last number of the header
abbrev pub link_of : ByteOrder → List ℕ → Result Link CaptureFault
link_of order bs =
    cond (nat_lt (length bs) 24) (Err (HeaderCut (length bs)))
    (cond (number_at order bs 20 4 == 1) (Ok Ethernet)
    (cond (is_raw (number_at order bs 20 4)) (Ok RawIp)
    (Err UnknownLink)))

abbrev pub format_of : List ℕ → Result Format CaptureFault
format_of bs =
    and_then (magic_of bs) (λ m. and_then (link_of m.0 bs) (λ l. Ok (record { order = m.0; precision = m.1; link = l })))
