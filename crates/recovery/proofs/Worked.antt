-- The example and the fixed points, computed.
use Rattle.std.proofs.Common.{◌≡◌, ℕ, suc, ◌<◌, Bool, true, false, cond, ◌&&◌, eqb, [], ◌∷◌, pos, Some, None, sym, refl, subst, arith, lit≤}
use Rattle.std.proofs.lemmas.Bool.{eq-eqb}
use Rattle.layout.specs.declared.kinds.Layout.TheVariants.{Stat, Header}
use Rattle.layout.specs.declared.sheet.Sheet.{Sheet}
use Rattle.message.specs.declared.values.HeaderFields.{HeaderFields}
use Rattle.message.specs.declared.values.StatFields.{StatFields}
use Rattle.message.specs.Meaning.{Msg, stat, number}
use Rattle.packet.specs.Rules.{messages, messages_from, walk_check}
use Rattle.store.specs.Law.{ImageLaw}
use Rattle.recovery.specs.declared.answers.Sign.TheVariants as signs
use Rattle.recovery.specs.Reading.{opens, adds, changes}
use Rattle.recovery.specs.Books.{fit_all, after_all, climb}
use Rattle.recovery.specs.Groups.{event_steps, message_steps}
use Rattle.recovery.specs.Publisher.{Imaged, value_at, telling, looping, pieces_of}
use Rattle.recovery.specs.Calls.{incremental}
use Rattle.recovery.specs.Extents.{upto, onward}
use Rattle.recovery.specs.Reach.{reach_of, tell_all}
use Rattle.recovery.specs.Guarantee.{Served}
use Rattle.recovery.specs.Latest.{Latest, latest, LatestImage}
use Rattle.recovery.specs.Example.{stat_bytes, header_bytes, publisher, opening, one_slot, by_loop, swapped, said, shot}
use Rattle.recovery.specs.Pattern.{byte_at, two_templates}
use Rattle.recovery.specs.Points.{Worked, Points, showing, seen_as}

latest-law : ImageLaw latest LatestImage
latest-law h ps v im = rw (im.pieces, im.count, im.value) (refl, ((λ e. let z : ◌≡◌ {A = ℕ} 0 1 = cc in absurd (omega arith)), refl, (refl, refl)))

pub points : (sheet : Sheet) → Points sheet
unfolding climb
points sheet = record {
  late = λ o. rw (eq-eqb o.channel o.channel refl, eq-eqb o.version o.version refl);
  recent = λ o. rw (eq-eqb o.channel o.channel refl, eq-eqb o.version o.version refl);
  behind = λ i v. refl;
  within = λ i v. refl;
  sign = refl;
  old = refl;
  young = refl;
  ahead = refl;
  heard = (refl, refl, refl);
}

one-fits : (v : Latest) (b : Bool) (f : StatFields) → fit_all latest v (cond b (stat f ∷ []) []) ≡ true
unfolding fit_all
one-fits v true f = refl
one-fits v false f = refl

module _ (sheet : Sheet) where
  abbrev S : Sheet
  S = two_templates sheet

  fitting : (i n : ℕ) → n < 3 → fit_all latest (value_at latest (publisher S) i n) (changes i (messages S (said (suc n)))) ≡ true
  unfolding messages_from changes
  fitting i n lt = one-fits (value_at latest (publisher S) i n) (eqb 5 i && true) _

  -- the messages of the packets
  abbrev stat_msg : ℕ → Msg
  stat_msg x = record { layout = Some (Stat (record { security = byte_at 0; value = byte_at 1 })); bytes = stat_bytes x }

  abbrev header_msg : ℕ → Msg
  header_msg n = record { layout = Some (Header (record { security = byte_at 0; last = byte_at 1; bids = byte_at 2; offers = byte_at 3; stats = byte_at 4 })); bytes = header_bytes n }

  abbrev snapped : HeaderFields
  snapped = record { last = 2; bids = 0; offers = 0; stats = 1 }

  abbrev nine : StatFields
  nine = record { template = 1; value = pos 9 }

  first-shot : messages S (shot 1) ≡ header_msg 2 ∷ []
  unfolding messages_from
  first-shot = refl

  second_shot : messages S (shot 2) ≡ stat_msg 9 ∷ []
  unfolding messages_from
  second_shot = refl

  second_said : messages S (said 2) ≡ stat_msg 9 ∷ []
  unfolding messages_from
  second_said = refl

  change : changes 5 (stat_msg 9 ∷ []) ≡ stat nine ∷ []
  unfolding changes
  change = refl

  loop-told : looping (messages S (shot 1) ∷ messages S (shot 2) ∷ []) ≡ opens 5 snapped ∷ adds 5 (number nine) ∷ []
  unfolding looping telling
  loop-told = rw (first-shot, second_shot)

  at_two : value_at latest (publisher S) 5 2 ≡ Some (pos 9)
  unfolding value_at after_all
  at_two = rw (second_said, change)

  snap-imaged : Imaged latest (publisher S) LatestImage (opens 5 snapped ∷ adds 5 (number nine) ∷ [])
  unfolding Imaged pieces_of
  snap-imaged = (lit≤ tt, record { count = refl; only = nine; pieces = refl; value = at_two }, tt)

  nothing : Imaged latest (publisher S) LatestImage (looping [])
  unfolding Imaged looping
  nothing = tt

  imaged : (l : ℕ) → Imaged latest (publisher S) LatestImage (looping ((publisher S).loops l))
  imaged l = go (eqb l 6)
    where
      go : (b : Bool) → Imaged latest (publisher S) LatestImage (looping (cond b (messages S (shot 1) ∷ messages S (shot 2) ∷ []) []))
      go true = subst (λ es. Imaged latest (publisher S) LatestImage es) (sym loop-told) snap-imaged
      go false = nothing

  caught : showing S by_loop ≡ seen_as signs.Current 3 (Some (pos 4))
  unfolding messages_from walk_check changes fit_all after_all climb event_steps message_steps
  caught = refl

  waits : showing S (incremental 44800 (said 2) ∷ []) ≡ seen_as signs.Recovering 0 None
  unfolding messages_from walk_check changes fit_all after_all climb
  waits = refl

  both : showing S swapped ≡ seen_as signs.Current 2 (Some (pos 9))
  unfolding messages_from walk_check changes fit_all after_all climb
  both = refl

  reached : reach_of latest (opening S) by_loop 5 ≡ record { extent = upto 3; all = true }
  unfolding messages_from walk_check onward tell_all telling
  reached = refl

  by_loop_lem : Served latest (publisher S) (opening S) one_slot by_loop
  by_loop_lem = (refl, ((λ _. (lit≤ tt, refl)), ((λ _. tt), ((λ _. refl), ((λ _. refl), ((λ _. tt), tt))))))

  by_swap : Served latest (publisher S) (opening S) one_slot swapped
  by_swap = (refl, ((λ _. (lit≤ tt, refl)), ((λ _. (lit≤ tt, refl)), tt)))

  pub worked : Worked S
  worked = record {
    law = latest-law;
    honest = record { fitting = fitting; imaged = imaged };
    loop = by_loop_lem;
    swap = by_swap;
    caught = caught;
    reached = reached;
    waits = waits;
    both = both;
  }
