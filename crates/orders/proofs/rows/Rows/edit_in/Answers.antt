use Rattle.std.proofs.Common.{◌+◌, ◌*◌, cond, Some, None, ap, ◌∙◌}
use Rattle.orders.specs.Book.{is_side, on_side}
use Rattle.orders.proofs.BothSides.{side_put}
use Rattle.orders.proofs.rows.Rows.edit_in.Goals as goal

pub returns-in-Some : goal.returns-in-Some
returns-in-Some g c =
    let s = c.args.self.now in
    let e = c.args.e.now in
    let b = c.args.book in
    let at = c.in-Some.ensures ∙ ap (λ z. cond (is_side z) (Some (on_side z (2 * b) (2 * b + 1))) None) c.side.ensures in
    let l = side_put s c.edit.new.rows c.args.book c.requires c.in-Some.r c.edit.result (λ n. g.E.SideEdit.suits c.args.a s.depth n e)
    (λ xs. g.E.SideEdit.leaves c.args.a xs e) (g.E.SideEdit.side_number e) at c.edit.ensures.fits c.edit.ensures.puts in
    record { fits = l.0; puts = l.1 }
