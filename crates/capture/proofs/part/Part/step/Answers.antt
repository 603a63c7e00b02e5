use Rattle.std.proofs.Common.{Result, sym, subst}
use Rattle.capture.specs.declared.fault.CaptureFault.{CaptureFault}
use Rattle.capture.specs.Window.{Move, Agrees}
use Rattle.capture.proofs.Joins.{records_join}
use Rattle.capture.proofs.Windows.{agrees}
use Rattle.capture.proofs.part.Part.step.Goals as goal

pub returns : goal.returns
returns c =
    record {
      value = c.shown.ensures;
      file = λ rest tail. subst (λ (s : Result Move CaptureFault). Agrees c.args.self.now.format c.args.self.now.bytes.now rest c.args.self.now.offset s) (sym c.shown.ensures) (agrees c.args.self.now.format c.args.self.now.bytes.now rest c.args.self.now.offset c.args.self.now.last tail);
      joins = records_join;
    }
