use Rattle.std.proofs.Common.{vec_items}
use Rattle.std.proofs.lemmas.Result.{MatchResult-weaker}
use Rattle.sheet_text.specs.Text.{rows}
use Rattle.sheet_text.proofs.Judges.{judges}
use Rattle.sheet_text.proofs.Honours.{honours}
use Rattle.sheet_text.proofs.filling.fill.Goals as goal

pub returns : goal.returns
returns c =
    record {
      answer = c.load.ensures.answer;
      filled = c.load.ensures.filled;
      judged = judges (rows c.args.text.now) c.load.result c.load.ensures.answer;
      honoured = honours (vec_items c.load.new.sheet.templates) (rows c.args.text.now) c.load.result c.load.ensures.answer (MatchResult-weaker c.load.result c.load.ensures.filled (λ _ p. p.1) (λ _ _. tt));
    }
