use Rattle.fixed_points.proofs.BookProofs.{book_points}
use Rattle.fixed_points.proofs.FrameProofs.{frame_points}
use Rattle.fixed_points.proofs.fixed_points.Goals as goal

pub returns : goal.returns
returns c = record { frame = frame_points; books = book_points; run = c.example_stands.ensures.worked; window = c.example_stands.ensures.points }
