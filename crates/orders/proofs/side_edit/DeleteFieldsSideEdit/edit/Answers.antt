use Rattle.std.proofs.Common.{◌∙◌}
use Rattle.orders.proofs.Fitting.{row_room, delete-taken}
use Rattle.orders.proofs.side_edit.DeleteFieldsSideEdit.edit.Goals as goal

pub returns : goal.returns
returns c =
    let s = c.args.rows.now in
    record {
      fits = c.cut.ensures.fits ∙ delete-taken s.depth _ c.args.self.now.position (row_room s c.args.r c.requires);
      puts = c.cut.ensures.puts;
    }
