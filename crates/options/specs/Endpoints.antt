-- An address and port as they are written: four figures with points, a colon, the port.
use Rattle.std.specs.Prelude.{ℕ, ◌+◌, ◌*◌, List, Some, Option}
use Rattle.sheet_text.specs.Text.{cut_at, and_then}
use Rattle.commands.specs.Decimal.{decimal_of, up_to}
use Rattle.capture.specs.declared.endpoint.Endpoint.{Endpoint}

abbrev pub byte_of : List ℕ → Option ℕ
byte_of word = up_to 255 (decimal_of word)

-- 46 is the point, 58 the colon
abbrev pub address_of : List ℕ → Option ℕ
address_of word =
    and_then (cut_at 46 word) (λ p. and_then (cut_at 46 p.1) (λ q. and_then (cut_at 46 q.1) (λ r.
    and_then (byte_of p.0) (λ a. and_then (byte_of q.0) (λ b. and_then (byte_of r.0) (λ c. and_then (byte_of r.1) (λ d.
    Some (((a * 256 + b) * 256 + c) * 256 + d))))))))

abbrev pub endpoint_of : List ℕ → Option Endpoint
endpoint_of word =
    and_then (cut_at 58 word) (λ p. and_then (address_of p.0) (λ a. and_then (up_to 65535 (decimal_of p.1)) (λ n. Some (record { address = a; port = n }))))
