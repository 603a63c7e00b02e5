use Rattle.std.proofs.Common.{ℕ, ◌+◌, ◌*◌, ◌≤◌, length, replicate, sym, refl, ap, ◌∙◌, subst, arith}
use Rattle.orders.specs.Book.{empty_book}
use Rattle.orders.specs.Rows.{book_at}
use Rattle.orders.proofs.Fresh.{open_bounds, books_fit, map_same, empty_at}
use Rattle.orders.proofs.order_store.OrderStore.open.Goals as goal

pub empty_rows-requires : goal.empty_rows-requires
empty_rows-requires c =
    let P : ℕ → Type 0 = λ m. (2 * m + 2) * c.args.depth ≤ length c.args.table.now in
    (omega (arith, c.slots_in-slots.ensures), subst P (sym c.slots_in-slots.ensures) (books_fit c.args.depth (length c.args.table.now) c.requires))

pub invariant_of-result : goal.invariant_of-result
invariant_of-result c =
    let e = c.empty_rows.ensures in
    record {
      few = omega (arith, c.slots_in-slots.ensures);
      shallow = omega (arith, e.size.0, (open_bounds c.args.depth (length c.args.table.now) c.requires).1);
      count = e.size.1;
      bids = omega (arith, ap length (e.rows 0));
      offers = omega (arith, ap length (e.rows 1));
    }

pub returns : goal.returns
returns c =
    let s = c.empty_rows.result in
    let e = c.empty_rows.ensures in
    record {
      setup = (refl, e.size.0);
      model = record {
        slots = map_same (book_at s) empty_book (empty_at s e.rows) 1 c.slots_in-slots.result ∙ ap (λ n. replicate n empty_book) c.slots_in-slots.ensures;
        staged = empty_at s e.rows 0;
        owed = refl;
      };
    }
