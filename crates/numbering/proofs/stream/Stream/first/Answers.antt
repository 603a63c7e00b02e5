use Rattle.std.proofs.Common.{rules}
use Rattle.numbering.specs.Members.{has}
use Rattle.numbering.specs.Streams.{came_in}
use Rattle.numbering.proofs.Notes.{lowest_like}
use Rattle.numbering.proofs.stream.Stream.first.Goals as goal

pub returns : goal.returns
returns c = λ came stands. lowest_like (has c.args.self.now.numbers) (came_in came) _ stands.members (search rules)
