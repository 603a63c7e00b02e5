-- What a capture file holds: the header, then records one behind the other.
use Rattle.std.specs.Prelude.{ℕ, zero, suc, ◌+◌, ◌-◌, ◌*◌, cond, List, [], ◌∷◌, length, take, drop, Ok, Err, Result, nat_lt}
use Rattle.capture.specs.declared.fault.CaptureFault.{CaptureFault}
use Rattle.capture.specs.declared.fault.CaptureFault.TheVariants.{RecordCut, RecordLong}
use Rattle.capture.specs.declared.format.Format.{Format}
use Rattle.capture.specs.declared.format.Precision.{Precision}
use Rattle.capture.specs.declared.format.Precision.TheVariants.{Micro, Nano}
use Rattle.capture.specs.Numbers.{number_at}
use Rattle.capture.specs.Held.{Held, cut}
use Rattle.capture.specs.Network.{link_held}
use Rattle.capture.specs.Header.{and_then, format_of}

-- a record's header of 16 bytes: seconds, their fraction, captured length, original length
abbrev pub captured : Format → List ℕ → ℕ
captured f bs = number_at f.order bs 8 4

abbrev pub original : Format → List ℕ → ℕ
original f bs = number_at f.order bs 12 4

abbrev pub nanoseconds : Precision → ℕ
nanoseconds Micro = 1000
nanoseconds Nano = 1

-- nanoseconds since the epoch
abbrev pub time_of : Format → List ℕ → ℕ
time_of f bs = number_at f.order bs 0 4 * 1000000000 + number_at f.order bs 4 4 * nanoseconds f.precision

-- what the record at the front holds, behind its header
abbrev pub record_held : Format → List ℕ → Held
record_held f bs =
    cond (nat_lt (captured f bs) (original f bs)) cut (link_held f.link (time_of f bs) (take (captured f bs) (drop 16 bs)))

-- how many bytes must be there for the record at the front, by what its header says;
-- a length above the bound is not believed
abbrev pub wanted : Format → List ℕ → ℕ → Result ℕ CaptureFault
wanted f bs at =
    cond (nat_lt (length bs) 16) (Ok 16)
    (cond (nat_lt 262144 (captured f bs)) (Err (RecordLong at))
    (Ok (16 + captured f bs)))

-- how many bytes the record at the front takes, where it is whole
abbrev pub size_of : Format → List ℕ → ℕ → Result ℕ CaptureFault
size_of f bs at = and_then (wanted f bs at) (λ n. cond (nat_lt (length bs) n) (Err (RecordCut at)) (Ok n))

-- a record and what comes behind it, or a fault and nothing more
abbrev pub onward : Result ℕ CaptureFault → Held → (ℕ → List (Result Held CaptureFault)) → List (Result Held CaptureFault)
onward (Ok n) h behind = Ok h ∷ behind n
onward (Err e) h behind = Err e ∷ []

-- what the records hold, from the offset `at` on, `skip` bytes further on
unfoldable pub contents : Format → ℕ → List ℕ → ℕ → List (Result Held CaptureFault)
contents f skip [] at = []
contents f (suc k) (b ∷ bs) at = contents f k bs at
contents f zero (b ∷ bs) at =
    onward (size_of f (b ∷ bs) at) (record_held f (b ∷ bs)) (λ n. contents f (n - 1) bs (at + n))

-- what a file holds behind its header
abbrev pub holds_by : Result Format CaptureFault → List ℕ → List (Result Held CaptureFault)
holds_by (Ok f) bs = contents f 0 (drop 24 bs) 24
holds_by (Err e) bs = Err e ∷ []

-- what a file holds, record by record; a fault comes last
abbrev pub file_holds : List ℕ → List (Result Held CaptureFault)
file_holds bs = holds_by (format_of bs) bs
