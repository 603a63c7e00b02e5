-- a list that is put in the place of a row
use Rattle.std.proofs.Common.{◌≡◌, ℕ, ◌+◌, ◌*◌, ◌<◌, ◌≤◌, Bool, true, false, cond, List, length, get_or, take, drop, set, refl, ap, ◌∙◌, sym, ⊎_elim, arith, rules}
use borrow.Rule.Slice.PartMut.{put_mid}
use Rattle.std.proofs.lemmas.List.{get_or-set_same, get_or-set_other, length-take, length-drop, set-get_or, take-take, same_lists, places}
use Rattle.std.proofs.lemmas.Slice.{take-put_mid_below, drop-put_mid}
use Rattle.message.specs.declared.values.Order.{Order}
use Rattle.orders.specs.declared.rows.Rows.{Rows}
use Rattle.orders.specs.Rows.{Puts, row}
use Rattle.orders.proofs.Spans.{span_in, apart, below-same, above_same}

pub row-length : (s : Rows) (r : ℕ) → r < s.count → get_or s.lens r 0 ≡ length (row s r)
row-length s r l =
    let n = get_or s.lens r 0 in
    let a = span_in r s.count s.depth _ l s.room in
    omega (arith, s.within r l, length-take n (drop (r * s.depth) s.table.now), length-drop (r * s.depth) s.table.now)

row_is : (t : Rows) (j n d : ℕ) → get_or t.lens j 0 ≡ n → t.depth ≡ d → row t j ≡ take n (drop (j * d) t.table.now)
row_is t j n d e f = ap (λ k. take k (drop (j * t.depth) t.table.now)) e ∙ ap (λ k. take n (drop (j * k) t.table.now)) f

-- the rows of t are those of s with another table and another length for row r
module _ (s t : Rows) (r m : ℕ) (l : List Order) (i : r < s.count) (f : m ≤ s.depth) (lens : t.lens ≡ set s.lens r m) (depth : t.depth ≡ s.depth) (count : t.count ≡ s.count) where
  lens-here : get_or t.lens r 0 ≡ m
  lens-here = ap (λ z. get_or z r 0) lens ∙ get_or-set_same s.lens r m 0 (omega (arith, s.size, s.few))

  stays : (j : ℕ) → (j ≡ r → ⊥) → get_or t.lens j 0 ≡ get_or s.lens j 0
  stays j ne = ap (λ z. get_or z j 0) lens ∙ get_or-set_other s.lens r j m 0 ne

  pub puts : take (r * s.depth) t.table.now ≡ take (r * s.depth) s.table.now → drop (r * s.depth + s.depth) t.table.now ≡ drop (r * s.depth + s.depth) s.table.now → take m (drop (r * s.depth) t.table.now) ≡ l → Puts s t r l
  puts below above is = record {
    here = row_is t r m s.depth lens-here depth ∙ is;
    others = λ j b ne.
        let n = get_or s.lens j 0 in
        let w : n ≤ s.depth = s.within j b in
        row_is t j n s.depth (stays j ne) depth ∙
        ⊎_elim
        (λ o. below-same s.table.now t.table.now (r * s.depth) (j * s.depth) n (omega arith) below)
        (λ o. above_same s.table.now t.table.now (r * s.depth + s.depth) (j * s.depth) n o above)
        (apart j r s.depth ne);
    depth = depth;
    count = count;
  }

pub either : {X : Type 0} (b : Bool) (x y z : X) → (b ≡ true → x ≡ y) → (b ≡ false → x ≡ z) → x ≡ cond b y z
either true x y z f g = f refl
either false x y z f g = g refl

-- the part of the table that a row has, and what it is once it is put back
module _ (s : Rows) (r k : ℕ) (i : r < s.count) (w : k ≡ s.depth) where
  pub part_length : length (take k (drop (r * s.depth) s.table.now)) ≡ s.depth
  part_length =
      let a = span_in r s.count s.depth _ i s.room in
      omega (arith, length-take k (drop (r * s.depth) s.table.now), length-drop (r * s.depth) s.table.now)

  pub part_row : take (get_or s.lens r 0) (take k (drop (r * s.depth) s.table.now)) ≡ row s r
  part_row = take-take (get_or s.lens r 0) k (drop (r * s.depth) s.table.now) (omega (arith, s.within r i))

  module _ (t : Rows) (ys : List Order) (y : length ys ≡ k) (e : t.table.now ≡ put_mid (r * s.depth) k s.table.now ys) (depth : t.depth ≡ s.depth) (count : t.count ≡ s.count) where
    all : List Order
    all = s.table.now

    base : ℕ
    base = r * s.depth

    room : base + k ≤ length all
    unfolding all base
    room = omega (arith, span_in r s.count s.depth _ i s.room)

    front : (m : ℕ) → m ≤ k → take m (drop base (put_mid base k all ys)) ≡ take m ys
    unfolding all base
    front m l = let a = room in same_lists _ _ (search (rules, places)) (λ j d b. grind (arith, places))

    pub part_puts : (m : ℕ) (l : List Order) → m ≤ s.depth → t.lens ≡ set s.lens r m → take m ys ≡ l → Puts s t r l
    unfolding all base
    part_puts m l f lens is =
        let a : r * s.depth ≤ length s.table.now = omega (arith, room) in
        puts s t r m l i f lens depth count
        (ap (take (r * s.depth)) e ∙ take-put_mid_below (r * s.depth) k s.table.now ys (r * s.depth) (omega arith) a)
        (ap (drop (r * s.depth + s.depth)) e ∙ drop-put_mid (r * s.depth) k s.table.now ys (r * s.depth + s.depth) (omega arith) a y)
        (ap (λ z. take m (drop (r * s.depth) z)) e ∙ (front m (omega arith) ∙ is))

    -- where the length stays
    pub part_same : (l : List Order) → t.lens ≡ s.lens → take (get_or s.lens r 0) ys ≡ l → Puts s t r l
    part_same l lens is = part_puts (get_or s.lens r 0) l (s.within r i) (lens ∙ sym (set-get_or s.lens r 0)) is
