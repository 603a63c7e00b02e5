use Rattle.std.proofs.Common.{◌≡◌, true, length, is_ok, sym, refl, ap, subst, arith, length-drop}
use Rattle.std.proofs.lemmas.List.{take_rest}
use Rattle.packet.specs.Rules.{walk_check}
use Rattle.packet.proofs.Steps.{packet_ok}
use Rattle.packet.proofs.checked.Checked.walk.Goals as goal

pub invariant_of-result : goal.invariant_of-result
invariant_of-result c =
    let bs = c.args.self.now.bytes.now in
    let s = c.args.self.now.sheet.now in
    let p = packet_ok s bs c.args.self.now.whole in
    let n = ap length (take_rest bs 16) in
    let m = length-drop 16 bs in
    record { whole = subst (λ l. is_ok (walk_check s 0 l 16) ≡ true) (sym (take_rest bs 16)) p.2; near = omega arith }

pub returns : goal.returns
returns c = (refl, take_rest c.args.self.now.bytes.now 16, refl)
