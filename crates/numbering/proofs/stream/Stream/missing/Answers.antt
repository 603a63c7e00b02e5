use Rattle.std.proofs.Common.{rules}
use Rattle.numbering.specs.Members.{has}
use Rattle.numbering.specs.Streams.{came_in}
use Rattle.numbering.proofs.Notes.{missing_like}
use Rattle.numbering.proofs.stream.Stream.missing.Goals as goal

pub returns : goal.returns
returns c = λ came stands. missing_like (has c.args.self.now.numbers) (came_in came) _ stands.members (search rules)
