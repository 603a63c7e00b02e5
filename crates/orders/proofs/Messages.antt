-- what an edit of a row says of the message that asked for it
use Rattle.std.proofs.Common.{◌≡◌, ℕ, ◌<◌, Bool, cond, eqb, List, length, sym, ap, ◌∙◌, subst}
use Rattle.std.proofs.lemmas.Bool.{eq-eqb, ne_eqb, cond-true, cond-false, or_left, or_right}
use Rattle.layout.specs.declared.kinds.Actions.{Actions}
use Rattle.message.specs.declared.values.Order.{Order}
use Rattle.message.specs.declared.values.OrderFields.{OrderFields}
use Rattle.message.specs.declared.values.MassFields.{MassFields}
use Rattle.positions.specs.Positions.{fits_change, fits_cut, changed_at, cut_out}
use Rattle.orders.specs.declared.rows.Rows.{Rows}
use Rattle.orders.specs.Edits.{fits_order, after_order, fits_mass, after_mass}
use Rattle.orders.specs.Rows.{Puts, row}
use Rattle.orders.proofs.Fitting.{and_given, row_room, change_taken, top_taken, bottom_taken, bottom_cut}

module _ (s t : Rows) (r : ℕ) (b : Bool) (i : r < s.count) where
  instead : (l m : List Order) → m ≡ l → Puts s t r (cond b l (row s r)) → Puts s t r (cond b m (row s r))
  instead l m e p = subst (λ z. Puts s t r (cond b z (row s r))) (sym e) p

  pub order_change : (a : Actions) (f : OrderFields) → (f.action ≡ a.new → ⊥) → f.action ≡ a.change
      → b ≡ fits_change s.depth (length (row s r)) f.position → Puts s t r (cond b (changed_at (row s r) f.position f.order) (row s r))
      → (b ≡ fits_order a s.depth (length (row s r)) f) × Puts s t r (cond b (after_order a (row s r) f) (row s r))
  order_change a f ne e fits puts =
      let no = ne_eqb f.action a.new ne in (
        fits ∙ (change_taken s.depth (length (row s r)) f.position (row_room s r i)
            ∙ (and_given (eqb f.action a.change) _ (eq-eqb _ _ e) ∙ sym (cond-false _ _ _ no))),
        instead _ _ (cond-false _ _ _ no) puts,
      )

  pub mass_top : (a : Actions) (f : MassFields) → f.action ≡ a.topcut
      → b ≡ fits_cut s.depth (length (row s r)) 1 f.position → Puts s t r (cond b (cut_out (row s r) 1 f.position) (row s r))
      → (b ≡ fits_mass a (length (row s r)) f) × Puts s t r (cond b (after_mass a (row s r) f) (row s r))
  mass_top a f e fits puts =
      let yes = eq-eqb f.action a.topcut e in (
        fits ∙ (top_taken s.depth (length (row s r)) f.position (row_room s r i) ∙ and_given _ _ (or_left _ _ yes)),
        instead _ _ (cond-true _ _ _ yes) puts,
      )

  pub mass_bottom : (a : Actions) (f : MassFields) (n : ℕ) → n ≡ length (row s r) → (f.action ≡ a.topcut → ⊥) → f.action ≡ a.bottomcut
      → b ≡ fits_cut s.depth (length (row s r)) f.position n → Puts s t r (cond b (cut_out (row s r) f.position n) (row s r))
      → (b ≡ fits_mass a (length (row s r)) f) × Puts s t r (cond b (after_mass a (row s r) f) (row s r))
  mass_bottom a f n m ne e fits puts =
      let no = ne_eqb f.action a.topcut ne in (
        fits ∙ (ap (fits_cut s.depth (length (row s r)) f.position) m
            ∙ (bottom_taken s.depth (length (row s r)) f.position (row_room s r i) ∙ and_given _ _ (or_right _ _ (eq-eqb _ _ e)))),
        instead _ _ (cond-false _ _ _ no ∙ sym (bottom_cut (row s r) f.position n m)) puts,
      )
