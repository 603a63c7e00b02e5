-- The count of the statistics, in the library's word.
use Rattle.std.proofs.Common.{◌≡◌, ◌+◌, cond, List, [], ◌∷◌, refl, ap}
use Rattle.std.proofs.lemmas.List.Sums.{sum_by-cons}
use Rattle.std.specs.List.{count_by}
use Rattle.layout.specs.declared.template.Template.{Template}
use Rattle.layout.specs.Lawful.{is_stat, stat_count}

pub count_by-stats : (ts : List Template) → count_by (λ (t : Template). is_stat t.layout) ts ≡ stat_count ts
count_by-stats [] = refl
count_by-stats (t ∷ ts) = rw (sum_by-cons (λ (t : Template). cond (is_stat t.layout) 1 0)) (ap (λ n. cond (is_stat t.layout) 1 0 + n) (count_by-stats ts))
