-- What reach keeps: how far each instrument is known, the packets at hand, the loop and the group.
use Rattle.std.specs.Prelude.{ℕ, zero, suc, ◌+◌, ◌-◌, Bool, true, false, cond, ◌&&◌, List, Some, None, Option, ◌==◌, nat_le, nat_lt}
use Rattle.message.specs.declared.values.HeaderFields.{HeaderFields}
use Rattle.message.specs.Meaning.{Part}
use Rattle.recovery.specs.State.{Opening, watched}

-- how far an instrument is known: not at all, or up to a packet
pub data Extent : Type 0 where
  nowhere : Extent
  upto : ℕ → Extent

-- where a snapshot loop is
pub record Place : Type 0 where
  pub loop : ℕ
  pub last : ℕ

-- a header with the pieces behind it, the latest first
pub record Parts : Type 0 where
  pub of : ℕ
  pub header : HeaderFields
  pub pieces : List Part

-- the highest packet heard, the packets at hand, the extents by instrument, the join, the loop, the group
pub record Reach : Type 0 where
  pub heard : ℕ
  pub there : ℕ → Bool
  pub extent : ℕ → Extent
  pub joined : Bool
  pub place : Option Place
  pub parts : Option Parts

abbrev pub untouched : Opening → Reach
untouched o = record { heard = 0; there = λ _. false; extent = λ i. cond (watched o i) (upto 0) nowhere; joined = false; place = None; parts = None }

-- how far the packets at hand lead on from n
unfoldable pub onward : ℕ → (ℕ → Bool) → ℕ → ℕ
onward zero there n = n
onward (suc f) there n = cond (there (suc n)) (onward f there (suc n)) n

-- an extent led on; 32 behind is the most
abbrev pub led : ℕ → (ℕ → Bool) → Extent → Extent
led heard there nowhere = nowhere
led heard there (upto n) = let m = onward (heard - n) there n in cond (nat_le heard (m + 32)) (upto m) nowhere

-- packets within the window of 32
abbrev pub near : ℕ → (ℕ → Bool) → ℕ → Bool
near heard there k = there k && nat_lt heard (k + 32)

abbrev pub moved : ℕ → (ℕ → Bool) → (ℕ → Extent) → Reach → Reach
moved h there extent r = record {
  heard = h;
  there = near h there;
  extent = λ i. led h (near h there) (extent i);
  joined = r.joined;
  place = r.place;
  parts = r.parts;
}

abbrev pub tuned : Bool → Option Place → Option Parts → Reach → Reach
tuned j l g r = record { heard = r.heard; there = r.there; extent = r.extent; joined = j; place = l; parts = g }

abbrev pub with_parts : Option Parts → Reach → Reach
with_parts g r = tuned r.joined r.place g r

abbrev pub seen : Option Place → ℕ → ℕ → Bool
seen None l s = false
seen (Some x) l s = l == x.loop && nat_le s x.last

abbrev pub due : Option Place → ℕ → ℕ → Bool
due None l s = false
due (Some x) l s = l == x.loop && s == x.last + 1

abbrev pub behind : Extent → ℕ → Bool
behind nowhere n = true
behind (upto m) n = nat_lt m n

abbrev pub of_parts : {A : Type 0} → Option Parts → A → (Parts → A) → A
of_parts None a f = a
of_parts (Some g) a f = f g
