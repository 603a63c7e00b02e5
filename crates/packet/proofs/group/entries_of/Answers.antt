use Rattle.std.proofs.Common.{◌+◌, ◌-◌, length, take, drop, ap, ◌∙◌}
use Rattle.layout.specs.Wire.{bytes_of, number_at}
use Rattle.message.specs.Meaning.{parts}
use Rattle.packet.proofs.Groups.{group_of}
use Rattle.packet.proofs.group.entries_of.Goals as goal

pub returns : goal.returns
returns c =
    let m = c.args.part.now in
    let h = c.in-Some.ensures in
    ap (λ k. parts c.in-Some-number.size c.in-Some-number-2.left (take (length m - (12 + k + 2 + c.bytes_of.result)) (drop (12 + k + 2 + c.bytes_of.result) m))) c.from-start.ensures
    ∙ group_of c.args.l.now c.args.part.now c.in-Some.head c.in-Some-number.size c.in-Some-number-2.left c.bytes_of.result h.0 h.1 (c.in-Some-number.ensures ∙ ap (λ k. number_at m (12 + k) 2) c.from-start.ensures) (c.in-Some-number-2.ensures ∙ ap (λ k. number_at m (12 + k + 2) (bytes_of c.args.l.now.count)) c.from-start.ensures) c.bytes_of.ensures
