-- The worked values of the frame layer, computed.
use Rattle.std.proofs.Common.{◌≡◌, ℕ, List, [], ◌∷◌, length, take, drop, Ok, vec_items, sym, refl, ap, ◌∙◌, arith}
use Rattle.layout.specs.declared.sheet.Sheet.{Sheet}
use Rattle.layout.specs.Lawful.{find}
use Rattle.layout.specs.Wire.{le_at}
use Rattle.packet.specs.Rules.{and_then, head_check, layout_check, size_check, message_check, walk_check, packet_check, messages, msg_at}
use Rattle.packet.proofs.Walks.{walk_step, walk_end}
use Rattle.packet.proofs.Handed.{messages_next, messages-end}
use Rattle.fixed_points.specs.Sample.{sample}
use Rattle.fixed_points.specs.Frame.{FramePoints, starts}

module _ (s : Sheet) (none : vec_items s.templates ≡ []) where
  judged : (bs : List ℕ) (at : ℕ) → message_check s bs at ≡ and_then (head_check bs at) (λ _. and_then (layout_check (find [] (le_at bs 6 2)) (take (le_at bs 0 2) bs) (le_at bs 4 2) at) (λ _. Ok (le_at bs 0 2)))
  judged bs at = ap (λ ts. and_then (head_check bs at) (λ _. and_then (layout_check (find ts (le_at bs 6 2)) (take (le_at bs 0 2) bs) (le_at bs 4 2) at) (λ _. Ok (le_at bs 0 2)))) none

  pub sample-passes : packet_check s sample ≡ Ok tt
  sample-passes =
      walk_step s (drop 16 sample) 16 72 (omega arith) (omega arith) (sym (judged (drop 16 sample) 16))
      ∙ (walk_step s (drop 88 sample) 88 64 (omega arith) (omega arith) (sym (judged (drop 88 sample) 88)) ∙ walk_end s (drop 152 sample) 152 (omega arith))

  pub sample-starts : starts 16 (messages s sample) ≡ 16 ∷ 88 ∷ []
  sample-starts =
      ap (starts 16) (messages_next s (drop 16 sample) (omega arith) (omega arith) ∙ ap (λ ms. msg_at s (drop 16 sample) ∷ ms) (messages_next s (drop 88 sample) (omega arith) (omega arith) ∙ ap (λ ms. msg_at s (drop 88 sample) ∷ ms) (messages-end s (drop 152 sample) (omega arith))))

sized : (s : Sheet) (bs : List ℕ) (n : ℕ) → length bs ≡ n → packet_check s bs ≡ and_then (size_check n) (λ _. walk_check s 0 (drop 16 bs) 16)
sized s bs n e = ap (λ k. and_then (size_check k) (λ _. walk_check s 0 (drop 16 bs) 16)) e

pub frame_points : FramePoints
frame_points = record {
  header = refl;
  passes = sample-passes;
  starting = sample-starts;
  short = λ s bs e. sized s bs 15 e;
  bare = λ s bs e. sized s bs 16 e;
  long = λ s bs e. sized s bs 1401 e;
  sized = (refl, refl);
  emptied = (refl, refl);
}
