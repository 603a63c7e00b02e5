-- what the tests of an edit say
use Rattle.std.proofs.Common.{◌≡◌, ℕ, ◌+◌, ◌<◌, ◌≤◌, true}
use Rattle.std.proofs.lemmas.Bool.{and_parts, leb-true, ltb-true}
use Rattle.positions.specs.Positions.{fits_insert, fits_change, fits_cut}

pub insert_bounds : (room n p : ℕ) → fits_insert room n p ≡ true → (1 ≤ p) × (p ≤ n + 1) × (n < room)
insert_bounds room n p h =
    let a = and_parts _ _ h in
    let b = and_parts _ _ a.1 in
    (leb-true _ _ a.0, leb-true _ _ b.0, ltb-true _ _ b.1)

pub change_bounds : (room n p : ℕ) → fits_change room n p ≡ true → (1 ≤ p) × (p ≤ n) × (n ≤ room)
change_bounds room n p h =
    let a = and_parts _ _ h in
    let b = and_parts _ _ a.1 in
    (leb-true _ _ a.0, leb-true _ _ b.0, leb-true _ _ b.1)

pub cut_bounds : (room n p q : ℕ) → fits_cut room n p q ≡ true → (1 ≤ p) × (p ≤ q) × (q ≤ n) × (n ≤ room)
cut_bounds room n p q h =
    let a = and_parts _ _ h in
    let b = and_parts _ _ a.1 in
    let d = and_parts _ _ b.1 in
    (leb-true _ _ a.0, leb-true _ _ b.0, leb-true _ _ d.0, leb-true _ _ d.1)
