-- A digest of bytes: 64-bit FNV-1a.
use Rattle.std.specs.Prelude.{ℕ, ◌*◌, ◌%◌, ◌^◌, List, fold, bit_xor}

-- one byte more: it is put into the low bits, and the whole is multiplied by the prime 2^40 + 435, modulo 2^64
abbrev pub mixed : ℕ → ℕ → ℕ
mixed h b = bit_xor h b * 1099511628211 % 2 ^ 64

abbrev pub digest_of : List ℕ → ℕ
digest_of bytes = fold mixed 14695981039346656037 bytes
