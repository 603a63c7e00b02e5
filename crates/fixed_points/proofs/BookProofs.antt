-- The worked values of a book, computed.
use Rattle.std.proofs.Common.{refl}
use Rattle.fixed_points.specs.Books.{BookPoints}

pub book_points : BookPoints
book_points = record {
  fits_new = λ a b c d. refl;
  after_new = λ a b c d. refl;
  fits_top = λ a b c d. refl;
  after_top = λ a b c d. refl;
  fits_bottom = λ b c. refl;
  after_bottom = λ b c. refl;
  firm = refl;
}
