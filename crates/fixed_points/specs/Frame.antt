-- Worked values of the frame layer.
use Rattle.std.specs.Prelude.{◌≡◌, ℕ, ◌+◌, List, [], ◌∷◌, length, take, Ok, Err, vec_items}
use Rattle.layout.specs.declared.sheet.Sheet.{Sheet}
use Rattle.packet.specs.declared.fault.FrameFault.TheVariants.{Size, Empty}
use Rattle.message.specs.Meaning.{Msg}
use Rattle.packet.specs.Rules.{packet_head, packet_check, messages}
use Rattle.refusal.specs.Reasons.{number_of}
use Rattle.packet.specs.Refusals.{frame_refusal}
use Rattle.fixed_points.specs.Sample.{sample}

-- where messages start that lie one behind the other, the first at `at`
abbrev pub starts : ℕ → List Msg → List ℕ
starts at [] = []
starts at (m ∷ ms) = at ∷ starts (at + length m.bytes) ms

pub record FramePoints : Type 0 where
  -- the header 37 00 01 00 b1 68 de 3a
  pub header : packet_head (take 8 sample) ≡ record { channel = 55; version = 1; number = 987654321 }
  -- the sample, by a sheet that lists nothing, is a packet whose messages start at 16 and 88
  pub passes : (s : Sheet) → vec_items s.templates ≡ [] → packet_check s sample ≡ Ok tt
  pub starting : (s : Sheet) → vec_items s.templates ≡ [] → starts 16 (messages s sample) ≡ 16 ∷ 88 ∷ []
  -- 15 bytes, 16 bytes and 1,401 bytes
  pub short : (s : Sheet) (bs : List ℕ) → length bs ≡ 15 → packet_check s bs ≡ Err Size
  pub bare : (s : Sheet) (bs : List ℕ) → length bs ≡ 16 → packet_check s bs ≡ Err Empty
  pub long : (s : Sheet) (bs : List ℕ) → length bs ≡ 1401 → packet_check s bs ≡ Err Size
  -- these are the refusals 1 at 0 and 2 at 16
  pub sized : (number_of (frame_refusal Size).reason ≡ 1) × ((frame_refusal Size).place ≡ 0)
  pub emptied : (number_of (frame_refusal Empty).reason ≡ 2) × ((frame_refusal Empty).place ≡ 16)
