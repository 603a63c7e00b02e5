-- What a kind of store is, and what a store holds.
use Rattle.std.specs.Prelude.{◌≡◌, ℕ, Bool, true, List, replicate}
use Rattle.message.specs.declared.values.HeaderFields.{HeaderFields}
use Rattle.message.specs.Meaning.{Body, Part}

-- a kind, over its values V and what can be owed to a staged value O
pub record Kind (V O : Type 0) : Type 0 where
  pub fresh : V
  -- which messages fit a value, and the value after one that fits
  pub fits : V → Body → Bool
  pub after : V → Body → V
  -- which headers can be staged, the value that one stages, and what it owes
  pub holds : HeaderFields → Bool
  pub begins : HeaderFields → V
  pub owes : HeaderFields → O
  -- which pieces concern the kind at all
  pub concerns : Part → Bool
  -- which pieces fit what is staged and owed, the staged value after one that fits, and what is owed after it
  pub takes : V → O → Part → Bool
  pub put : V → O → Part → V
  pub less : O → Part → O
  -- whether nothing is owed
  pub whole : O → Bool

-- what a store holds: a value for each slot, the staged value, and what is still owed to it
pub record Model (V O : Type 0) : Type 0 where
  pub slots : List V
  pub staged : V
  pub owed : O

-- a store of n slots at first: all values are fresh, and nothing is owed
pub record New {V O : Type 0} (K : Kind V O) (n : ℕ) (s : Model V O) : Type 0 where
  pub slots : s.slots ≡ replicate n K.fresh
  pub staged : s.staged ≡ K.fresh
  pub owed : K.whole s.owed ≡ true
