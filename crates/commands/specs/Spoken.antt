-- What a line of a trace says.
use Rattle.std.specs.Prelude.{ℕ, cond, List, Some, None, codes, Option}
use Rattle.std.specs.Option.{option_map}
use Rattle.std.specs.Str.{bytes_eq}
use Rattle.sheet_text.specs.Text.{cut_at, and_then}
use Rattle.commands.specs.declared.verb.Verb.{Verb}
use Rattle.commands.specs.declared.verb.Verb.TheVariants as verbs
use Rattle.commands.specs.declared.command.Command.{Command}
use Rattle.commands.specs.declared.command.Command.TheVariants as commands
use Rattle.commands.specs.Decimal.{decimal_of, up_to}
use Rattle.commands.specs.Verbs.{lone_verb, verb_of}

-- a command, with its words as bytes
pub data Spoken : Type 0 where
  sheet : (hex : List ℕ) → Spoken
  orders : (depth table : ℕ) → Spoken
  panel : Spoken
  opening : (own channel version : ℕ) (instruments : Option (List ℕ)) → Spoken
  shelf : (length : ℕ) → Spoken
  poke : (place : ℕ) (hex : List ℕ) → Spoken
  check : (hex : List ℕ) → Spoken
  inc : (hex : List ℕ) → Spoken
  join : Spoken
  snap : (hex : List ℕ) → Spoken
  leave : Spoken
  ask : (instrument : ℕ) → Spoken
  bids : (instrument : ℕ) → Spoken
  offers : (instrument : ℕ) → Spoken
  stats : (instrument : ℕ) → Spoken
  shelfsum : Spoken

-- what a command of the code says
abbrev pub said : Command → Spoken
said (commands.Sheet w) = sheet w.now
said (commands.StoreOrders d t) = orders d t
said commands.StorePanel = panel
said (commands.Open o c v ids) = opening o c v (option_map (λ x. x.now) ids)
said (commands.Shelf n) = shelf n
said (commands.Poke n w) = poke n w.now
said (commands.Check w) = check w.now
said (commands.Inc w) = inc w.now
said commands.Join = join
said (commands.Snap w) = snap w.now
said commands.Leave = leave
said (commands.Ask i) = ask i
said (commands.Bids i) = bids i
said (commands.Offers i) = offers i
said (commands.Stats i) = stats i
said commands.Shelfsum = shelfsum

-- by the first space of a text: the whole where there is none, or what stands before and behind it
abbrev pub at_space : {A : Type 0} → Option (List ℕ × List ℕ) → A → (List ℕ → List ℕ → A) → A
at_space None whole parted = whole
at_space (Some p) whole parted = parted p.0 p.1

abbrev pub numbered : (ℕ → Spoken) → List ℕ → Option Spoken
numbered f word = and_then (decimal_of word) (λ n. Some (f n))

-- DEPTH TABLE
abbrev pub table_of : List ℕ → Option Spoken
table_of text = at_space (cut_at 32 text) None (λ d t. and_then (decimal_of d) (λ depth. and_then (decimal_of t) (λ table. Some (orders depth table))))

abbrev pub store_of : List ℕ → Option Spoken
store_of text =
    at_space (cut_at 32 text) (cond (bytes_eq text (codes "panel")) (Some panel) None)
    (λ word rest. cond (bytes_eq word (codes "orders")) (table_of rest) None)

-- AT HEX
abbrev pub poke_of : List ℕ → Option Spoken
poke_of text = at_space (cut_at 32 text) None (λ a w. and_then (decimal_of a) (λ n. Some (poke n w)))

-- VERSION, or VERSION ID ID ..
abbrev pub version_of : ℕ → ℕ → List ℕ → Option Spoken
version_of o c text =
    at_space (cut_at 32 text) (and_then (up_to 65535 (decimal_of text)) (λ v. Some (opening o c v None)))
    (λ w ids. and_then (up_to 65535 (decimal_of w)) (λ v. Some (opening o c v (Some ids))))

-- CHANNEL and what follows
abbrev pub channel_of : ℕ → List ℕ → Option Spoken
channel_of o text = at_space (cut_at 32 text) None (λ w rest. and_then (up_to 255 (decimal_of w)) (λ c. version_of o c rest))

-- RECEIVER and what follows
abbrev pub open_of : List ℕ → Option Spoken
open_of text = at_space (cut_at 32 text) None (λ w rest. and_then (decimal_of w) (λ o. channel_of o rest))

abbrev pub lone : Verb → Option Spoken
lone verbs.Sheet = None
lone verbs.Store = None
lone verbs.Open = None
lone verbs.Shelf = None
lone verbs.Poke = None
lone verbs.Check = None
lone verbs.Inc = None
lone verbs.Join = Some join
lone verbs.Snap = None
lone verbs.Leave = Some leave
lone verbs.Ask = None
lone verbs.Bids = None
lone verbs.Offers = None
lone verbs.Stats = None
lone verbs.Shelfsum = Some shelfsum

abbrev pub worded : Verb → List ℕ → Option Spoken
worded verbs.Sheet rest = Some (sheet rest)
worded verbs.Store rest = store_of rest
worded verbs.Open rest = open_of rest
worded verbs.Shelf rest = numbered shelf rest
worded verbs.Poke rest = poke_of rest
worded verbs.Check rest = Some (check rest)
worded verbs.Inc rest = Some (inc rest)
worded verbs.Join rest = None
worded verbs.Snap rest = Some (snap rest)
worded verbs.Leave rest = None
worded verbs.Ask rest = numbered ask rest
worded verbs.Bids rest = numbered bids rest
worded verbs.Offers rest = numbered offers rest
worded verbs.Stats rest = numbered stats rest
worded verbs.Shelfsum rest = None

-- what a line says; None where it is no command
abbrev pub spoken : List ℕ → Option Spoken
spoken line = at_space (cut_at 32 line) (and_then (lone_verb line) lone) (λ word rest. and_then (verb_of word) (λ v. worded v rest))
