-- What is told of a side of a book, by the list of its orders.
use Rattle.std.specs.Prelude.{ℕ, ◌-◌, ◌^◌, cond, List, [], ◌∷◌, length, ℤ, pos, negsuc, Some, None, sum_by, Option, ◌==◌}
use Rattle.message.specs.declared.values.Order.{Order}
use Rattle.figures.specs.declared.figures.Top.{Top}
use Rattle.figures.specs.declared.figures.SideFigures.{SideFigures}
use Rattle.figures.specs.declared.figures.Figures.{Figures}

-- -2^63 is no price
abbrev pub priced : ℤ → Option ℤ
priced (pos n) = Some (pos n)
priced (negsuc n) = cond (n == 2 ^ 63 - 1) None (Some (negsuc n))

-- the order at position 1, where there is one
abbrev pub top_of : List Order → Option Top
top_of [] = None
top_of (o ∷ more) = Some (record { price = priced o.price; size = o.size })

-- the sizes of the orders together
abbrev pub total_of : List Order → ℕ
total_of orders = sum_by (λ (o : Order). o.size) orders

abbrev pub side_figures : List Order → SideFigures
side_figures orders = record { top = top_of orders; orders = length orders; total = total_of orders }

abbrev pub book_figures : List Order → List Order → Figures
book_figures bids offers = record { bid = side_figures bids; offer = side_figures offers }
