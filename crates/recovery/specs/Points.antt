-- Worked points: the example meets every premise at once, and what the machine comes to at fixed numbers.
use Rattle.std.specs.Prelude.{◌≡◌, ℕ, true, List, [], ◌∷◌, pos, Some, None, Ok, Err}
use Rattle.layout.specs.declared.sheet.Sheet.{Sheet}
use Rattle.packet.specs.declared.head.PacketHead.{PacketHead}
use Rattle.store.specs.Law.{ImageLaw}
use Rattle.recovery.specs.declared.answers.Sign.{Sign}
use Rattle.recovery.specs.declared.answers.Sign.TheVariants as signs
use Rattle.recovery.specs.declared.fault.StreamFault.TheVariants.{Late}
use Rattle.recovery.specs.declared.marks.Mark.TheVariants.{Stale, AsOf}
use Rattle.recovery.specs.Shelf.{absent}
use Rattle.recovery.specs.Reading.{opens}
use Rattle.recovery.specs.Books.{book, lost, settle}
use Rattle.recovery.specs.State.{Opening, State}
use Rattle.recovery.specs.Answers.{incremental_rules, standing}
use Rattle.recovery.specs.Groups.{event_step}
use Rattle.recovery.specs.Calls.{Call, incremental, after, shown, Shown}
use Rattle.recovery.specs.Publisher.{Honest}
use Rattle.recovery.specs.Extents.{upto}
use Rattle.recovery.specs.Reach.{reach_of}
use Rattle.recovery.specs.Guarantee.{Served}
use Rattle.recovery.specs.Latest.{Latest, latest, LatestImage}
use Rattle.recovery.specs.Example.{publisher, opening, one_slot, by_loop, swapped, said}

abbrev pub showing : Sheet → List Call → Shown Latest
showing sheet cs = shown (opening sheet) (after latest (opening sheet) one_slot cs) 5

abbrev pub seen_as : Sign → ℕ → Latest → Shown Latest
seen_as s n v = record { sign = s; number = n; book = v }

-- the premises of the guarantee, all at once, and where two runs lead
pub record Worked (sheet : Sheet) : Type 0 where
  pub law : ImageLaw latest LatestImage
  pub honest : Honest latest (publisher sheet) LatestImage
  pub loop : Served latest (publisher sheet) (opening sheet) one_slot by_loop
  pub swap : Served latest (publisher sheet) (opening sheet) one_slot swapped
  -- packet 3 and then a snapshot of packet 2 lead to packet 3
  pub caught : showing sheet by_loop ≡ seen_as signs.Current 3 (Some (pos 4))
  pub reached : reach_of latest (opening sheet) by_loop 5 ≡ record { extent = upto 3; all = true }
  -- packet 2 alone leaves the book recovering at 0, and packet 1 then brings it to 2
  pub waits : showing sheet (incremental 44800 (said 2) ∷ []) ≡ seen_as signs.Recovering 0 None
  pub both : showing sheet swapped ≡ seen_as signs.Current 2 (Some (pos 9))

abbrev pub own_head : Opening → ℕ → PacketHead
own_head o n = record { channel = o.channel; version = o.version; number = n }

-- stale at `heard`, with nothing on the shelf
abbrev pub lost_at : ℕ → State Latest ℕ
lost_at heard = record {
  plain = record { heard = heard; shelf = λ _. absent; joined = true; followed = None; pending = None };
  books = λ _. book Stale None;
  rest = record { room = 1; staged = None; owed = 0 };
}

-- after a snapshot of packet n that owes nothing: the mark and the highest heard
abbrev pub snapped : Sheet → ℕ → State Latest ℕ
snapped sheet n = event_step latest (opening sheet) (opens 5 (record { last = n; bids = 0; offers = 0; stats = 0 })) (lost_at 703)

pub record Points (sheet : Sheet) : Type 0 where
  -- where 33 is heard, 1 is late and 2 is not
  pub late : (o : Opening) → incremental_rules o 33 (own_head o 1) ≡ Err Late
  pub recent : (o : Opening) → incremental_rules o 33 (own_head o 2) ≡ Ok tt
  -- where 34 is heard, a book as of 1 is lost, and one as of 2 is recovering
  pub behind : (i : ℕ) (v : Latest) → settle latest 34 (λ _. absent) i (book (AsOf 1) v) ≡ lost latest
  pub within : (i : ℕ) (v : Latest) → settle latest 34 (λ _. absent) i (book (AsOf 2) v) ≡ book (AsOf 2) v
  pub sign : (standing 34 (AsOf 2)).sign ≡ signs.Recovering
  -- stale where 703 is heard: a snapshot of 670 is too old, 671 and 710 are adopted
  pub old : shown (opening sheet) (snapped sheet 670) 5 ≡ seen_as signs.Stale 0 None
  pub young : shown (opening sheet) (snapped sheet 671) 5 ≡ seen_as signs.Recovering 671 None
  pub ahead : shown (opening sheet) (snapped sheet 710) 5 ≡ seen_as signs.Current 710 None
  pub heard : ((snapped sheet 670).plain.heard ≡ 703) × ((snapped sheet 671).plain.heard ≡ 703) × ((snapped sheet 710).plain.heard ≡ 710)
