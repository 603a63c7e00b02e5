use Rattle.std.proofs.Common.{length, sym, ap, ◌∙◌, arith, length-drop}
use Rattle.capture.specs.Network.{untagged}
use Rattle.capture.proofs.Tags.{untagged_tag, untagged-none, tag_long}
use Rattle.capture.proofs.Parts.{rest-least}
use Rattle.capture.proofs.network.behind_tags.Goals as goal

pub loop-rest-preserved : goal.loop-rest-preserved
loop-rest-preserved c =
    let bs = c.loop-rest.rest.now in
    ap (untagged 0) (rest-least bs c.min.result 4 c.min.ensures) ∙ (sym (untagged_tag bs (sym c.loop-rest-test.ensures)) ∙ c.loop-rest.invariant)

pub loop-rest-smaller : goal.loop-rest-smaller
loop-rest-smaller c =
    let bs = c.loop-rest.rest.now in
    let some = tag_long bs (sym c.loop-rest-test.ensures) in
    let left = ap length (rest-least bs c.min.result 4 c.min.ensures) ∙ length-drop 4 bs in
    omega arith

pub returns : goal.returns
returns c = sym (untagged-none c.loop-rest.rest.now (sym c.loop-rest-test.ensures)) ∙ c.loop-rest.invariant
