-- One step over a tag, and the end of the tags.
use Rattle.std.proofs.Common.{◌≡◌, ℕ, zero, suc, ◌-◌, ◌≤◌, true, false, leb, List, [], ◌∷◌, length, take, drop, refl, ap, ◌∙◌, arith}
use Rattle.std.proofs.lemmas.List.{take_rest}
use Rattle.std.proofs.lemmas.Bool.{cond-true, cond-false, and_parts, leb-true}
use Rattle.std.proofs.lemmas.Bool.Decides.{nat_tests}
use Rattle.capture.specs.Numbers.{big_at}
use Rattle.capture.specs.Held.{Held}
use Rattle.capture.specs.Network.{is_tag, tag_type, untagged, ipv4_held, typed_held}

untagged_skip : (k : ℕ) (bs : List ℕ) → untagged k bs ≡ untagged 0 (drop k bs)
unfolding untagged
untagged_skip zero [] = refl
untagged_skip (suc k) [] = refl
untagged_skip zero (b ∷ bs) = refl
untagged_skip (suc k) (b ∷ bs) = untagged_skip k bs

-- a tag has at least the two bytes of its type
pub tag_long : (bs : List ℕ) → is_tag bs ≡ true → 2 ≤ length bs
tag_long bs e = leb-true 2 (length bs) (and_parts (leb 2 (length bs)) (tag_type (big_at bs 0 2)) e).0

pub untagged_tag : (bs : List ℕ) → is_tag bs ≡ true → untagged 0 bs ≡ untagged 0 (drop 4 bs)
unfolding untagged
untagged_tag [] e = refl
untagged_tag (b ∷ bs) e = cond-true (is_tag (b ∷ bs)) _ _ e ∙ untagged_skip 3 bs

pub untagged-none : (bs : List ℕ) → is_tag bs ≡ false → untagged 0 bs ≡ bs
unfolding untagged
untagged-none [] e = refl
untagged-none (b ∷ bs) e = cond-false (is_tag (b ∷ bs)) _ _ e

-- behind the type of IPv4
pub typed_ip : (time : ℕ) (t p : List ℕ) (h : Held) → 2 ≤ length t → big_at t 0 2 ≡ 2048 → p ≡ take (length t - 2) (drop 2 t) → h ≡ ipv4_held time p → h ≡ typed_held time t
typed_ip time t p h long is part said =
    let same : h ≡ ipv4_held time (drop 2 t) = said ∙ ap (ipv4_held time) (part ∙ take_rest t 2) in
    grind (arith, nat_tests)
