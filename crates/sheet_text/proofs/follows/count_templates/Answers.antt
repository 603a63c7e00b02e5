use Rattle.std.proofs.Common.{◌+◌, cond, length, get_or, take, drop, sym, ap, ◌∙◌, arith}
use Rattle.std.proofs.lemmas.List.{drop_all}
use Rattle.layout.specs.declared.kinds.Kind.TheVariants.{Stat}
use Rattle.sheet_text.specs.Names.{same_kind}
use Rattle.sheet_text.specs.Follows.{listed, firsts, stat_lines}
use Rattle.sheet_text.proofs.Searches.{blank, bool_byte-cond, grown, kept}
use Rattle.sheet_text.proofs.Firsts.{firsts_more, length_new, stats_new}
use Rattle.sheet_text.proofs.follows.count_templates.Goals as goal
use Rattle.sheet_text.proofs.follows.count_templates.Goals.{then-not-is_listed, else-not-is_listed}

pub loop-i-init : goal.loop-i-init
loop-i-init c = record { all = omega arith; stats = omega arith; within = (omega arith, omega arith) }

pub loop-i-preserved : goal.loop-i-preserved
loop-i-preserved c =
    let xs = c.args.lines.now in
    let i = c.loop-i.i in
    let x = get_or xs i blank in
    let old = firsts (take i xs) (drop i xs) in
    let rest = firsts (take (i + 1) xs) (drop (i + 1) xs) in
    let l = listed (take i xs) x.template in
    let k = same_kind x.kind Stat in
    let step = firsts_more xs i blank c.loop-i-test.true in
    let long = ap length step ∙ length_new l x rest in
    let stat = ap stat_lines step ∙ stats_new l x rest in
    elim c.if-not-is_listed.branch [
      | then-not-is_listed w ↦
          grown c.loop-i.all c.loop-i.stats (length old) (stat_lines old) (length rest) (stat_lines rest) _ _ i c.if-not-is_listed.all c.if-not-is_listed.stats l k c.loop-i.invariant long stat (sym c.is_listed.ensures ∙ w.if-not-is_listed.true) w.all-is
          (w.stats-is ∙ ap (λ n. c.loop-i.stats + n) (w.from-stats.ensures ∙ (bool_byte-cond w.is_of.result ∙ ap (λ b. cond b 1 0) w.is_of.ensures)))
      | else-not-is_listed w ↦
          kept c.loop-i.all c.loop-i.stats (length old) (stat_lines old) (length rest) (stat_lines rest) _ _ i c.if-not-is_listed.all c.if-not-is_listed.stats l k c.loop-i.invariant long stat (sym c.is_listed.ensures ∙ w.if-not-is_listed.false) w.all-is w.stats-is
    ]

pub returns : goal.returns
returns c =
    let xs = c.args.lines.now in
    let inv = c.loop-i.invariant in
    let none = drop_all c.loop-i.i xs (omega arith) in
    record {
      all = omega (arith, inv.all, ap (λ l. length (firsts (take c.loop-i.i xs) l)) none);
      stats = omega (arith, inv.stats, ap (λ l. stat_lines (firsts (take c.loop-i.i xs) l)) none);
    }
