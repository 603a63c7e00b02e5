-- The derived `==` of figures tells whether they are the same in every part.
use Rattle.std.proofs.Common.{◌≡◌, ℕ, ℤ, Bool, true, false, not, ◌&&◌, ◌==◌, Some, None, Option, Decides, refl, sym, ap, ◌∙◌}
use Rattle.std.proofs.lemmas.Bool.Decides.{Decides-and, Decides-eqb, Decides-int_eq}
use Rattle.std.specs.Option.{option_eq}
use Rattle.std.specs.Ordering.{int_eq}
use Rattle.figures.specs.declared.figures.Top.{Top}
use Rattle.figures.specs.declared.figures.SideFigures.{SideFigures}
use Rattle.figures.specs.declared.figures.Figures.{Figures}

pub options : {A : Type 0} (E : A → A → Bool) → ((a b : A) → Decides (E a b) (a ≡ b)) → (x y : Option A) → Decides (option_eq E x y) (x ≡ y)
options E h None None = (λ t. refl, λ e. refl)
options E h None (Some y) = (λ t. cc, λ e. cc)
options E h (Some x) None = (λ t. cc, λ e. cc)
options E h (Some x) (Some y) = (λ t. let e = (h x y).0 t in cc, λ e. let f : x ≡ y = cc in (h x y).1 f)

pub prices : (x y : Option ℤ) → Decides (option_eq int_eq x y) (x ≡ y)
prices = options int_eq Decides-int_eq

abbrev pub top_eq : Top → Top → Bool
top_eq a b = option_eq int_eq a.price b.price && (a.size == b.size)

pub tops : (a b : Top) → Decides (top_eq a b) (a ≡ b)
tops a b =
    let both = Decides-and _ _ (prices a.price b.price) (Decides-eqb a.size b.size) in (
      λ t. let e = both.0 t in ap (λ (p : Option ℤ). record { price = p; size = a.size }) e.0 ∙ ap (λ (n : ℕ). record { price = b.price; size = n }) e.1,
      λ e. both.1 (ap (λ (x : Top). x.price) e, ap (λ (x : Top). x.size) e),
    )

abbrev pub side_eq : SideFigures → SideFigures → Bool
side_eq a b = option_eq top_eq a.top b.top && ((a.orders == b.orders) && (a.total == b.total))

pub sides : (a b : SideFigures) → Decides (side_eq a b) (a ≡ b)
sides a b =
    let all = Decides-and _ _ (options top_eq tops a.top b.top) (Decides-and _ _ (Decides-eqb a.orders b.orders) (Decides-eqb a.total b.total)) in (
      λ t. let e = all.0 t in
          ap (λ (p : Option Top). record { top = p; orders = a.orders; total = a.total }) e.0
          ∙ (ap (λ (n : ℕ). record { top = b.top; orders = n; total = a.total }) e.1.0 ∙ ap (λ (n : ℕ). record { top = b.top; orders = b.orders; total = n }) e.1.1),
      λ e. all.1 (ap (λ (x : SideFigures). x.top) e, (ap (λ (x : SideFigures). x.orders) e, ap (λ (x : SideFigures). x.total) e)),
    )

abbrev pub figures_eq : Figures → Figures → Bool
figures_eq a b = side_eq a.bid b.bid && side_eq a.offer b.offer

pub books : (a b : Figures) → Decides (figures_eq a b) (a ≡ b)
books a b =
    let both = Decides-and _ _ (sides a.bid b.bid) (sides a.offer b.offer) in (
      λ t. let e = both.0 t in ap (λ (x : SideFigures). record { bid = x; offer = a.offer }) e.0 ∙ ap (λ (x : SideFigures). record { bid = b.bid; offer = x }) e.1,
      λ e. both.1 (ap (λ (x : Figures). x.bid) e, ap (λ (x : Figures). x.offer) e),
    )

otherwise : (r b : Bool) (P : Type 0) → Decides b P → r ≡ not b → (P → r ≡ false) × (r ≡ false → P)
otherwise r true P d e = (λ p. e, λ f. d.0 refl)
otherwise r false P d e = (λ p. let f : false ≡ true = d.1 p in cc, λ f. let g : true ≡ false = sym e ∙ f in cc)

pub told : (E : Figures → Figures → Bool) (r : Bool) (o : Option Figures) (a : Figures) → ((x y : Figures) → Decides (E x y) (x ≡ y)) → r ≡ not (option_eq E o (Some a)) → (o ≡ Some a → r ≡ false) × (r ≡ false → o ≡ Some a)
told E r o a h e = otherwise r (option_eq E o (Some a)) (o ≡ Some a) (options E h o (Some a)) e
