-- Images of a count fill it.
use Rattle.std.specs.Prelude.{◌≡◌, ℕ, suc, ◌+◌, ◌-◌, ◌≤◌, true, false, List, [], ◌∷◌, ◌==◌, refl}
use Rattle.std.proofs.Common.{arith}
use Rattle.std.proofs.lemmas.Bool.{eqb-true, le-leb, lt-ltb, and_from, true≢false}
use Rattle.message.specs.Meaning.{Part, entry, number, torn}
use Rattle.store.specs.Law.{Fills, ImageLaw, Sound as SoundKind}
use Rattle.store_tests.specs.Tally.{tally, told, Sound, TallyImage, concerns_tally, takes_tally, put_tally, less_tally}

one_less : (n : ℕ) → suc n - 1 ≡ n
one_less n = omega arith

done : (n x v : ℕ) → v ≡ x + n → (n == 0) ≡ true → x ≡ v
done n x v e z = omega (arith, eqb-true n 0 z)

fills : (ps : List Part) (x v : ℕ) → v ≡ x + told ps → v ≤ 1000 → Sound ps → Fills tally x (told ps) ps v
unfolding told Sound
fills [] x v e l s = (refl, omega arith)
fills (entry q ∷ ps) x v e l s = (done (told ps) x v e, refl, fills ps x v e l s)
fills (number f ∷ ps) x v e l s = (
  done (suc (told ps)) x v e,
  and_from _ _ (lt-ltb 0 _ (omega arith)) (lt-ltb x 1000 (omega arith)),
  rw (one_less (told ps)) (fills ps (x + 1) v (omega arith) l s),
)
fills (torn ∷ ps) x v e l s = absurd s

pub tally_image : ImageLaw tally TallyImage
tally_image h ps v (count, is, low, sound) = (le-leb _ _ (omega arith), rw count (fills ps 0 v (omega arith) low sound))

passes : (v o : ℕ) (p : Part) → concerns_tally p ≡ false → (takes_tally v o p ≡ true) × (put_tally v p ≡ v) × (less_tally o p ≡ o)
passes v o (entry e) c = (refl, refl, refl)
passes v o (number f) c = absurd (true≢false c)
passes v o torn c = absurd (true≢false c)

pub tally-sound : SoundKind tally
tally-sound = record { aside = passes; broken = λ v. refl; torn = λ v o. refl }
