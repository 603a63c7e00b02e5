-- What a message and a piece of a snapshot say, field by field.
use Rattle.std.specs.Prelude.{ℕ, zero, suc, ◌+◌, cond, List, [], ◌∷◌, length, take, drop, ℤ, pos, Some, None, Option, ◌==◌, nat_lt}
use Rattle.std.specs.Int.{w64}
use Rattle.std.proofs.Common.{to_z}
use Rattle.layout.specs.declared.kinds.Spot.{Spot}
use Rattle.layout.specs.declared.kinds.OrderLayout.{OrderLayout}
use Rattle.layout.specs.declared.kinds.DeleteLayout.{DeleteLayout}
use Rattle.layout.specs.declared.kinds.MassLayout.{MassLayout}
use Rattle.layout.specs.declared.kinds.StatLayout.{StatLayout}
use Rattle.layout.specs.declared.kinds.HeaderLayout.{HeaderLayout}
use Rattle.layout.specs.declared.kinds.EntriesLayout.{EntriesLayout}
use Rattle.layout.specs.declared.kinds.Layout.{Layout}
use Rattle.layout.specs.declared.kinds.Layout.TheVariants.{Order, Delete, Mass, Empty, Stat, Header, Entries}
use Rattle.layout.specs.Wire.{le_at, bytes_of, number_at, field_at}
use Rattle.message.specs.declared.values.Order.{Order as BookOrder}
use Rattle.message.specs.declared.values.OrderFields.{OrderFields}
use Rattle.message.specs.declared.values.DeleteFields.{DeleteFields}
use Rattle.message.specs.declared.values.MassFields.{MassFields}
use Rattle.message.specs.declared.values.StatFields.{StatFields}
use Rattle.message.specs.declared.values.HeaderFields.{HeaderFields}
use Rattle.message.specs.declared.values.EntryFields.{EntryFields}

-- a message: where its fields lie, if the sheet lists its template, and its bytes, header included
pub record Msg : Type 0 where
  pub layout : Option Layout
  pub bytes : List ℕ

-- what follows from a number that may be missing
abbrev pub also : {A B : Type 0} → Option A → (A → Option B) → Option B
also None f = None
also (Some x) f = f x

-- the root block, which starts behind the 12 bytes of the message's header
abbrev pub root_block : List ℕ → Option (List ℕ)
root_block m = cond (nat_lt (length m) 12) None (Some (drop 12 m))

-- a price is signed
abbrev pub price_at : List ℕ → Spot → Option ℤ
price_at block s = also (number_at block s.offset 8) (λ n. Some (to_z w64 n))

-- a statistic's number is signed where it has eight bytes, and counts from 0 where it has fewer
abbrev pub value_at : List ℕ → Spot → Option ℤ
value_at block s = cond (bytes_of s.width == 8) (price_at block s) (also (field_at block s) (λ n. Some (pos n)))

abbrev pub order_at : List ℕ → Spot → Spot → Spot → Spot → Option BookOrder
order_at block price size oid firm =
    also (price_at block price) (λ p. also (field_at block size) (λ s. also (field_at block oid) (λ o. also (field_at block firm) (λ f.
    Some (record { price = p; size = s; oid = o; firm = f })))))

abbrev pub order_fields : OrderLayout → List ℕ → Option OrderFields
order_fields l m =
    also (root_block m) (λ b. also (field_at b l.action) (λ a. also (field_at b l.side) (λ s. also (field_at b l.position) (λ p.
    also (order_at b l.price l.size l.oid l.firm) (λ x. Some (record { action = a; side = s; position = p; order = x }))))))

abbrev pub delete_fields : DeleteLayout → List ℕ → Option DeleteFields
delete_fields l m =
    also (root_block m) (λ b. also (field_at b l.side) (λ s. also (field_at b l.position) (λ p. Some (record { side = s; position = p }))))

abbrev pub mass_fields : MassLayout → List ℕ → Option MassFields
mass_fields l m =
    also (root_block m) (λ b. also (field_at b l.action) (λ a. also (field_at b l.side) (λ s. also (field_at b l.position) (λ p.
    Some (record { action = a; side = s; position = p })))))

-- the template's number stands in the message's header
abbrev pub stat_fields : StatLayout → List ℕ → Option StatFields
stat_fields l m = also (root_block m) (λ b. also (value_at b l.value) (λ v. also (number_at m 6 2) (λ t. Some (record { template = t; value = v }))))

abbrev pub header_fields : HeaderLayout → List ℕ → Option HeaderFields
header_fields l m =
    also (root_block m) (λ b. also (field_at b l.last) (λ n. also (field_at b l.bids) (λ x. also (field_at b l.offers) (λ y.
    also (field_at b l.stats) (λ z. Some (record { last = n; bids = x; offers = y; stats = z }))))))

-- an entry of a group is read like a block of its own
abbrev pub entry_fields : EntriesLayout → List ℕ → Option EntryFields
entry_fields l e =
    also (field_at e l.side) (λ s. also (field_at e l.position) (λ p.
    also (order_at e l.price l.size l.oid l.firm) (λ x. Some (record { side = s; position = p; order = x }))))

-- parts of `size` bytes, one behind the other
abbrev pub parts : ℕ → ℕ → List ℕ → List (List ℕ)
parts size zero bs = []
parts size (suc n) bs = take size bs ∷ parts size n (drop size bs)

abbrev pub or_none : Option (List (List ℕ)) → List (List ℕ)
or_none None = []
or_none (Some ps) = ps

-- the entries of the group that starts behind the root block: an entry's length in two bytes, a count, then the entries
abbrev pub entry_parts : EntriesLayout → List ℕ → List (List ℕ)
entry_parts l m =
    or_none (also (root_block m) (λ _. also (number_at m (12 + le_at m 4 2) 2) (λ size. also (number_at m (12 + le_at m 4 2 + 2) (bytes_of l.count)) (λ n.
    Some (parts size n (drop (12 + le_at m 4 2 + 2 + bytes_of l.count) m))))))

-- what a message does to a book or a panel: `aside` where it changes none, `broken` where a field lies past its end
pub data Body : Type 0 where
  put : OrderFields → Body
  delete : DeleteFields → Body
  mass : MassFields → Body
  empty : Body
  stat : StatFields → Body
  aside : Body
  broken : Body

-- what a piece of a snapshot says
pub data Part : Type 0 where
  entry : EntryFields → Part
  number : StatFields → Part
  torn : Part

abbrev pub or_broken : {A : Type 0} → (A → Body) → Option A → Body
or_broken f None = broken
or_broken f (Some x) = f x

abbrev pub body_in : Option Layout → List ℕ → Body
body_in None m = aside
body_in (Some (Order l)) m = or_broken put (order_fields l m)
body_in (Some (Delete l)) m = or_broken delete (delete_fields l m)
body_in (Some (Mass l)) m = or_broken mass (mass_fields l m)
body_in (Some (Empty l)) m = empty
body_in (Some (Stat l)) m = or_broken stat (stat_fields l m)
body_in (Some (Header l)) m = aside
body_in (Some (Entries l)) m = aside

abbrev pub body : Msg → Body
body m = body_in m.layout m.bytes

abbrev pub or_torn : {A : Type 0} → (A → Part) → Option A → Part
or_torn f None = torn
or_torn f (Some x) = f x

-- the instrument that a message is about
abbrev pub security_spot : Layout → Spot
security_spot (Order l) = l.security
security_spot (Delete l) = l.security
security_spot (Mass l) = l.security
security_spot (Empty l) = l.security
security_spot (Stat l) = l.security
security_spot (Header l) = l.security
security_spot (Entries l) = l.security

abbrev pub security : Msg → Option ℕ
security m = also m.layout (λ l. also (root_block m.bytes) (λ b. field_at b (security_spot l)))
