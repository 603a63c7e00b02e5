use Rattle.std.proofs.Common.{◌≡◌, ℕ, ◌⊎◌, List, [], ◌∷◌, Some, None, Bor, sym, refl, ap, ◌∙◌, ⊎_elim}
use Rattle.layout.specs.declared.kinds.OrderLayout.{OrderLayout}
use Rattle.layout.specs.declared.kinds.DeleteLayout.{DeleteLayout}
use Rattle.layout.specs.declared.kinds.MassLayout.{MassLayout}
use Rattle.layout.specs.declared.kinds.EmptyLayout.{EmptyLayout}
use Rattle.message.specs.declared.message.Message.{Message}
use Rattle.message.specs.declared.message.Message.TheVariants.{Order, Delete, Mass, Empty, Other}
use Rattle.message.specs.Meaning.{number, or_torn, stat_fields}
use Rattle.message.specs.Views.{view}
use Rattle.recovery.specs.Reading.{adds, told, told_by}
use Rattle.receiver.specs.Standings.{opening_of, state_in}
use Rattle.receiver.proofs.Telling.{nothing, only}
use Rattle.receiver.proofs.plain.Plain.tell.Goals as goal

-- a message that is none of a snapshot's is read for nothing
none_told : (x : Message) → ((l : Bor OrderLayout) × (b : Bor (List ℕ)) × (x ≡ Order l b)) ⊎ (((l : Bor DeleteLayout) × (b : Bor (List ℕ)) × (x ≡ Delete l b))
    ⊎ (((l : Bor MassLayout) × (b : Bor (List ℕ)) × (x ≡ Mass l b)) ⊎ (((l : Bor EmptyLayout) × (b : Bor (List ℕ)) × (x ≡ Empty l b)) ⊎ ((b : Bor (List ℕ)) × (x ≡ Other b)))))
    → told (view x) ≡ []
none_told x = ⊎_elim (λ e. ap (λ z. told (view z)) e.2) (⊎_elim (λ e. ap (λ z. told (view z)) e.2) (⊎_elim (λ e. ap (λ z. told (view z)) e.2) (⊎_elim (λ e. ap (λ z. told (view z)) e.2) (λ e. ap (λ z. told (view z)) e.1))))

pub returns-in-Some : goal.returns-in-Some
returns-in-Some g c =
    let m = g.S.Store in let u = c.args.sub.now in let K = m.kind (m.setup c.args.store.now) in let v = view c.args.m.now in
    let is : told v ≡ adds c.in-Some.i (or_torn number (stat_fields c.in-Stat.l.now c.in-Stat.part.now)) ∷ []
    = ap (λ z. told_by v.layout z v.bytes) (sym c.in-Some.ensures) ∙ ap (λ z. told_by (view z).layout (Some c.in-Some.i) (view z).bytes) c.in-Stat.is in
    let q = only K (opening_of u) v _ (state_in K u c.args.self.now (m.model c.args.store.now) c.args.shelf.bytes.now) _ _ is c.grow.ensures.state c.grow.ensures.log in
    record { state = q.0; log = q.1; attends = c.grow.ensures.attends; stays = c.grow.ensures.stays }

pub returns-in-None : goal.returns-in-None
returns-in-None g c =
    let m = g.S.Store in let u = c.args.sub.now in let K = m.kind (m.setup c.args.store.now) in let v = view c.args.m.now in
    let is : told v ≡ [] = ap (λ z. told_by v.layout z v.bytes) (sym c.in-None.ensures) ∙ ap (λ z. told_by (view z).layout None (view z).bytes) c.in-Stat.is in
    let q = nothing K (opening_of u) v (state_in K u c.args.self.now (m.model c.args.store.now) c.args.shelf.bytes.now) is in
    record { state = q.0; log = q.1; attends = c.requires; stays = refl }

pub returns-in-None-id : goal.returns-in-None-id
returns-in-None-id g c =
    let m = g.S.Store in let u = c.args.sub.now in let K = m.kind (m.setup c.args.store.now) in let v = view c.args.m.now in
    let is : told v ≡ [] = ap (λ z. told_by v.layout z v.bytes) (sym c.in-None-id.ensures) ∙ ap (λ z. told_by (view z).layout None (view z).bytes) c.in-Entries.is in
    let q = nothing K (opening_of u) v (state_in K u c.args.self.now (m.model c.args.store.now) c.args.shelf.bytes.now) is in
    record { state = q.0; log = q.1; attends = c.requires; stays = refl }

pub returns-in-Order : goal.returns-in-Order
returns-in-Order g c =
    let m = g.S.Store in let u = c.args.sub.now in let K = m.kind (m.setup c.args.store.now) in
    let is : told (view c.args.m.now) ≡ [] = none_told c.args.m.now c.in-Order.is in
    let q = nothing K (opening_of u) (view c.args.m.now) (state_in K u c.args.self.now (m.model c.args.store.now) c.args.shelf.bytes.now) is in
    record { state = q.0; log = q.1; attends = c.requires; stays = refl }
