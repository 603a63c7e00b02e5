-- A lawful layout reaches no further than the longest block.
use Rattle.std.proofs.Common.{◌≡◌, ℕ, ◌≤◌, max, Bool, true, ◌&&◌, leb, arith}
use Rattle.std.proofs.lemmas.Bool.{and_parts, and_from, leb-true}
use Rattle.layout.specs.declared.kinds.Layout.{Layout}
use Rattle.layout.specs.declared.kinds.Layout.TheVariants.{Order, Delete, Mass, Empty, Stat, Header, Entries}
use Rattle.layout.specs.Lawful.{lawful_layout, up_to, just}
use Rattle.layout.specs.Wire.{bytes_of}
use Rattle.layout.specs.Reach.{root_reach, entry_reach}

within : (b : Bool) (n : ℕ) → (b && leb n 1372) ≡ true → n ≤ 1372
within b n h = leb-true n 1372 (and_parts b _ h).1

both : (x y : Bool) (m n : ℕ) → (x ≡ true → m ≤ 1372) → (y ≡ true → n ≤ 1372) → (x && y) ≡ true → max m n ≤ 1372
both x y m n f g h = let a = f (and_parts x y h).0 in let b = g (and_parts x y h).1 in omega arith

pub lawful-reach : (l : Layout) → lawful_layout l ≡ true → (root_reach l ≤ 1372) × (entry_reach l ≤ 1372)
lawful-reach (Order l) h =
    (both _ _ _ _ (both _ _ _ _ (both _ _ _ _ (within _ _) (within _ _)) (both _ _ _ _ (within _ _) (within _ _))) (both _ _ _ _ (both _ _ _ _ (within _ _) (within _ _)) (both _ _ _ _ (within _ _) (within _ _))) h, omega arith)
lawful-reach (Delete l) h = (both _ _ _ _ (within _ _) (both _ _ _ _ (within _ _) (within _ _)) h, omega arith)
lawful-reach (Mass l) h = (both _ _ _ _ (both _ _ _ _ (within _ _) (within _ _)) (both _ _ _ _ (within _ _) (within _ _)) h, omega arith)
lawful-reach (Empty l) h = (within _ _ h, omega arith)
lawful-reach (Stat l) h = (both _ _ _ _ (within _ _) (within _ _) h, omega arith)
lawful-reach (Header l) h =
    (both _ _ _ _ (both _ _ _ _ (within _ _) (within _ _)) (both _ _ _ _ (within _ _) (both _ _ _ _ (within _ _) (within _ _))) h, omega arith)
lawful-reach (Entries l) h =
    let front = and_parts (up_to 8 l.security && leb (bytes_of l.count) 2) (just 1 l.side && up_to 4 l.position) (and_parts _ ((just 8 l.price && up_to 8 l.size) && (up_to 8 l.oid && up_to 4 l.firm)) h).0 in
    let security = (and_parts (up_to 8 l.security) (leb (bytes_of l.count) 2) front.0).0 in
    let entry : ((just 1 l.side && up_to 4 l.position) && ((just 8 l.price && up_to 8 l.size) && (up_to 8 l.oid && up_to 4 l.firm))) ≡ true = and_from _ _ front.1 (and_parts ((up_to 8 l.security && leb (bytes_of l.count) 2) && (just 1 l.side && up_to 4 l.position)) _ h).1 in
    (within _ _ security, both _ _ _ _ (both _ _ _ _ (within _ _) (within _ _)) (both _ _ _ _ (both _ _ _ _ (within _ _) (within _ _)) (both _ _ _ _ (within _ _) (within _ _))) entry)
