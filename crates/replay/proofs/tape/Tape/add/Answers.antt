use Rattle.std.proofs.Common.{ℕ, List, map, vec_items, ap₂}
use Rattle.std.proofs.lemmas.Result.{MatchResult-from_err}
use Rattle.replay.specs.declared.entry.Entry.{Entry}
use Rattle.replay.specs.Entries.{asked}
use Rattle.replay.proofs.Spans.{put}
use Rattle.replay.proofs.tape.Tape.add.Goals as goal

pub returns-in_err-extend_from_slice : goal.returns-in_err-extend_from_slice
returns-in_err-extend_from_slice c = λ own room. MatchResult-from_err _ _ _ c.from_residual-in_err-extend_from_slice.ensures.0 (λ _.
    ap₂ (λ (b : List ℕ) (e : List Entry). map (asked own room b) e) c.in_err-extend_from_slice.ensures.items c.reserve.ensures.items)

pub invariant_of-self-2 : goal.invariant_of-self-2
invariant_of-self-2 c = record {
  lies = (put (vec_items c.args.self.now.bytes) _ _ _ (vec_items c.args.self.now.entries) _ _ _ c.args.call c.args.self.now.lies c.in_ok-extend_from_slice.ensures.items
      c.bytes_in.ensures c.push_reserved.ensures.items c.reserve.ensures.items c.entry_at.ensures c.as_slice-from.ensures.value).0;
}

pub returns : goal.returns
returns c =
    (put (vec_items c.args.self.now.bytes) _ _ _ (vec_items c.args.self.now.entries) _ _ _ c.args.call c.args.self.now.lies c.in_ok-extend_from_slice.ensures.items
    c.bytes_in.ensures c.push_reserved.ensures.items c.reserve.ensures.items c.entry_at.ensures c.as_slice-from.ensures.value).1
