-- What is so of known items, tables and covers.
use Rattle.std.proofs.Common.{◌≡◌, zero, suc, pos, Bool, true, false, List, [], ◌∷◌, map, refl, arith}
use Rattle.std.proofs.lemmas.Int.{ints}
use Rattle.cgl_knap.specs.Greatest.{IsBound, IsGreatest, IsTable}
use Rattle.cgl_knap.specs.Cover.{IsPick}
use Rattle.cgl_knap.specs.LeastCost.{least, picks}
use Rattle.cgl_knap.proofs.GreatestLaws.{best_of, best_greatest, greatest_one, greatest_decides}
use Rattle.cgl_knap.proofs.PickLaws.{least_some, pick_heavy}
use Rattle.cgl_knap.proofs.CoverLaws.{one_pick}

-- ---- greatest values

pub no_items : IsGreatest [] [] 0 (pos 0)
unfolding best_of
no_items = best_greatest [] [] 0

pub too_heavy : IsGreatest (2 ∷ 2 ∷ 2 ∷ []) (map pos (1 ∷ 1 ∷ 1 ∷ [])) 1 (pos 0)
unfolding best_of
too_heavy = best_greatest (2 ∷ 2 ∷ 2 ∷ []) (map pos (1 ∷ 1 ∷ 1 ∷ [])) 1

pub two : IsGreatest (2 ∷ 2 ∷ 2 ∷ []) (map pos (1 ∷ 1 ∷ 1 ∷ [])) 5 (pos 2)
unfolding best_of
two = best_greatest (2 ∷ 2 ∷ 2 ∷ []) (map pos (1 ∷ 1 ∷ 1 ∷ [])) 5

pub all : IsGreatest (2 ∷ 2 ∷ 2 ∷ []) (map pos (1 ∷ 1 ∷ 1 ∷ [])) 6 (pos 3)
unfolding best_of
all = best_greatest (2 ∷ 2 ∷ 2 ∷ []) (map pos (1 ∷ 1 ∷ 1 ∷ [])) 6

pub no_weight : IsGreatest (0 ∷ 1 ∷ []) (map pos (5 ∷ 7 ∷ [])) 0 (pos 5)
unfolding best_of
no_weight = best_greatest (0 ∷ 1 ∷ []) (map pos (5 ∷ 7 ∷ [])) 0

pub heavier : IsGreatest (10 ∷ 20 ∷ 30 ∷ []) (map pos (60 ∷ 100 ∷ 120 ∷ [])) 50 (pos 220)
unfolding best_of
heavier = best_greatest (10 ∷ 20 ∷ 30 ∷ []) (map pos (60 ∷ 100 ∷ 120 ∷ [])) 50

pub bound_best : IsGreatest (2 ∷ 2 ∷ 2 ∷ 4 ∷ []) (map pos (1 ∷ 1 ∷ 1 ∷ 2 ∷ [])) 5 (pos 2)
unfolding best_of
bound_best = best_greatest (2 ∷ 2 ∷ 2 ∷ 4 ∷ []) (map pos (1 ∷ 1 ∷ 1 ∷ 2 ∷ [])) 5

pub no_bound_best : IsGreatest (2 ∷ 2 ∷ 2 ∷ 4 ∷ []) (map pos (1 ∷ 1 ∷ 1 ∷ 3 ∷ [])) 5 (pos 3)
unfolding best_of
no_bound_best = best_greatest (2 ∷ 2 ∷ 2 ∷ 4 ∷ []) (map pos (1 ∷ 1 ∷ 1 ∷ 3 ∷ [])) 5

pub not_lighter : IsGreatest (10 ∷ 20 ∷ 30 ∷ []) (map pos (60 ∷ 100 ∷ 120 ∷ [])) 50 (pos 160) → ⊥
not_lighter g = omega (arith, ints, greatest_one (10 ∷ 20 ∷ 30 ∷ []) (map pos (60 ∷ 100 ∷ 120 ∷ [])) 50 (pos 160) (pos 220) g heavier)

pub not_less : IsGreatest (2 ∷ 2 ∷ 2 ∷ []) (map pos (1 ∷ 1 ∷ 1 ∷ [])) 5 (pos 1) → ⊥
not_less g = omega (arith, ints, greatest_one (2 ∷ 2 ∷ 2 ∷ []) (map pos (1 ∷ 1 ∷ 1 ∷ [])) 5 (pos 1) (pos 2) g two)

pub not_more : IsGreatest (2 ∷ 2 ∷ 2 ∷ []) (map pos (1 ∷ 1 ∷ 1 ∷ [])) 5 (pos 3) → ⊥
not_more g = omega (arith, ints, greatest_one (2 ∷ 2 ∷ 2 ∷ []) (map pos (1 ∷ 1 ∷ 1 ∷ [])) 5 (pos 3) (pos 2) g two)

pub bound : IsBound (2 ∷ 2 ∷ 2 ∷ 4 ∷ []) (map pos (1 ∷ 1 ∷ 1 ∷ 2 ∷ [])) 5 (pos 2)
bound = (greatest_decides (2 ∷ 2 ∷ 2 ∷ 4 ∷ []) (map pos (1 ∷ 1 ∷ 1 ∷ 2 ∷ [])) 5 (pos 2) (pos 2) bound_best).1 (omega (arith, ints))

pub no_bound : IsBound (2 ∷ 2 ∷ 2 ∷ 4 ∷ []) (map pos (1 ∷ 1 ∷ 1 ∷ 3 ∷ [])) 5 (pos 2) → ⊥
no_bound all = omega (arith, ints, (greatest_decides (2 ∷ 2 ∷ 2 ∷ 4 ∷ []) (map pos (1 ∷ 1 ∷ 1 ∷ 3 ∷ [])) 5 (pos 3) (pos 2) no_bound_best).0 all)

-- ---- tables

pub table_of_none : IsTable [] [] (map pos (0 ∷ 0 ∷ 0 ∷ []))
unfolding best_of
table_of_none zero h = best_greatest [] [] 0
table_of_none (suc zero) h = best_greatest [] [] 1
table_of_none (suc (suc zero)) h = best_greatest [] [] 2
table_of_none (suc (suc (suc k))) h = absurd (omega (arith, h))

pub table_of_one : IsTable (2 ∷ []) (map pos (3 ∷ [])) (map pos (0 ∷ 0 ∷ 3 ∷ 3 ∷ []))
unfolding best_of
table_of_one zero h = best_greatest (2 ∷ []) (map pos (3 ∷ [])) 0
table_of_one (suc zero) h = best_greatest (2 ∷ []) (map pos (3 ∷ [])) 1
table_of_one (suc (suc zero)) h = best_greatest (2 ∷ []) (map pos (3 ∷ [])) 2
table_of_one (suc (suc (suc zero))) h = best_greatest (2 ∷ []) (map pos (3 ∷ [])) 3
table_of_one (suc (suc (suc (suc k)))) h = absurd (omega (arith, h))

pub table_of_two : IsTable (1 ∷ 2 ∷ []) (map pos (2 ∷ 3 ∷ [])) (map pos (0 ∷ 2 ∷ 3 ∷ 5 ∷ []))
unfolding best_of
table_of_two zero h = best_greatest (1 ∷ 2 ∷ []) (map pos (2 ∷ 3 ∷ [])) 0
table_of_two (suc zero) h = best_greatest (1 ∷ 2 ∷ []) (map pos (2 ∷ 3 ∷ [])) 1
table_of_two (suc (suc zero)) h = best_greatest (1 ∷ 2 ∷ []) (map pos (2 ∷ 3 ∷ [])) 2
table_of_two (suc (suc (suc zero))) h = best_greatest (1 ∷ 2 ∷ []) (map pos (2 ∷ 3 ∷ [])) 3
table_of_two (suc (suc (suc (suc k)))) h = absurd (omega (arith, h))

pub twice : IsTable (1 ∷ []) (map pos (2 ∷ [])) (map pos (0 ∷ 2 ∷ 4 ∷ [])) → ⊥
unfolding best_of
twice t = omega (arith, ints, greatest_one (1 ∷ []) (map pos (2 ∷ [])) 2 (pos 4) (pos 2) (t 2 (omega arith)) (best_greatest (1 ∷ []) (map pos (2 ∷ [])) 2))

pub early : IsTable (2 ∷ []) (map pos (3 ∷ [])) (map pos (0 ∷ 3 ∷ 3 ∷ 3 ∷ [])) → ⊥
unfolding best_of
early t = omega (arith, ints, greatest_one (2 ∷ []) (map pos (3 ∷ [])) 1 (pos 3) (pos 0) (t 1 (omega arith)) (best_greatest (2 ∷ []) (map pos (3 ∷ [])) 1))

pub shifted : IsTable (1 ∷ 2 ∷ []) (map pos (2 ∷ 3 ∷ [])) (map pos (2 ∷ 3 ∷ 5 ∷ [])) → ⊥
unfolding best_of
shifted t = omega (arith, ints, greatest_one (1 ∷ 2 ∷ []) (map pos (2 ∷ 3 ∷ [])) 0 (pos 2) (pos 0) (t 0 (omega arith)) (best_greatest (1 ∷ 2 ∷ []) (map pos (2 ∷ 3 ∷ [])) 0))

-- ---- covers

pub first : IsPick (3 ∷ 4 ∷ 5 ∷ []) (map pos (0 ∷ 0 ∷ 4 ∷ [])) 9 (false ∷ true ∷ true ∷ [])
unfolding least picks
first = (least_some (3 ∷ 4 ∷ 5 ∷ []) (map pos (0 ∷ 0 ∷ 4 ∷ [])) 9 (omega (arith, ints), (omega (arith, ints), (omega (arith, ints), tt))) refl (omega (arith, ints))).0

pub light : IsPick (2 ∷ 2 ∷ 2 ∷ 4 ∷ []) (map pos (1 ∷ 1 ∷ 1 ∷ 6 ∷ [])) 6 (true ∷ true ∷ true ∷ false ∷ [])
unfolding least picks
light = (least_some (2 ∷ 2 ∷ 2 ∷ 4 ∷ []) (map pos (1 ∷ 1 ∷ 1 ∷ 6 ∷ [])) 6 (omega (arith, ints), (omega (arith, ints), (omega (arith, ints), (omega (arith, ints), tt)))) refl (omega (arith, ints))).0

pub lighter : IsPick (9 ∷ 5 ∷ 5 ∷ []) (map pos (3 ∷ 2 ∷ 2 ∷ [])) 10 (false ∷ true ∷ true ∷ [])
unfolding least picks
lighter = (least_some (9 ∷ 5 ∷ 5 ∷ []) (map pos (3 ∷ 2 ∷ 2 ∷ [])) 10 (omega (arith, ints), (omega (arith, ints), (omega (arith, ints), tt))) refl (omega (arith, ints))).0

pub alike : IsPick (2 ∷ 2 ∷ []) (map pos (1 ∷ 1 ∷ [])) 2 (false ∷ true ∷ [])
unfolding least picks
alike = (least_some (2 ∷ 2 ∷ []) (map pos (1 ∷ 1 ∷ [])) 2 (omega (arith, ints), (omega (arith, ints), tt)) refl (omega (arith, ints))).0

pub nothing : IsPick (1 ∷ 2 ∷ []) (map pos (0 ∷ 0 ∷ [])) 0 (false ∷ false ∷ [])
unfolding least picks
nothing = (least_some (1 ∷ 2 ∷ []) (map pos (0 ∷ 0 ∷ [])) 0 (omega (arith, ints), (omega (arith, ints), tt)) refl (omega (arith, ints))).0

differ_later : (true ∷ true ∷ true ∷ []) ≡ (false ∷ true ∷ true ∷ []) → ⊥
differ_later e = absurd (cc)

pub later : IsPick (3 ∷ 4 ∷ 5 ∷ []) (map pos (0 ∷ 0 ∷ 4 ∷ [])) 9 (true ∷ true ∷ true ∷ []) → ⊥
later p = differ_later (one_pick (3 ∷ 4 ∷ 5 ∷ []) (map pos (0 ∷ 0 ∷ 4 ∷ [])) 9 (true ∷ true ∷ true ∷ []) (false ∷ true ∷ true ∷ []) p first)

differ_alike_later : (true ∷ false ∷ []) ≡ (false ∷ true ∷ []) → ⊥
differ_alike_later e = absurd (cc)

pub alike_later : IsPick (2 ∷ 2 ∷ []) (map pos (1 ∷ 1 ∷ [])) 2 (true ∷ false ∷ []) → ⊥
alike_later p = differ_alike_later (one_pick (2 ∷ 2 ∷ []) (map pos (1 ∷ 1 ∷ [])) 2 (true ∷ false ∷ []) (false ∷ true ∷ []) p alike)

differ_dear : (true ∷ false ∷ true ∷ []) ≡ (false ∷ true ∷ true ∷ []) → ⊥
differ_dear e = absurd (cc)

pub dear : IsPick (9 ∷ 5 ∷ 5 ∷ []) (map pos (3 ∷ 2 ∷ 2 ∷ [])) 10 (true ∷ false ∷ true ∷ []) → ⊥
dear p = differ_dear (one_pick (9 ∷ 5 ∷ 5 ∷ []) (map pos (3 ∷ 2 ∷ 2 ∷ [])) 10 (true ∷ false ∷ true ∷ []) (false ∷ true ∷ true ∷ []) p lighter)

differ_too_light : (true ∷ true ∷ false ∷ false ∷ []) ≡ (true ∷ true ∷ true ∷ false ∷ []) → ⊥
differ_too_light e = absurd (cc)

pub too_light : IsPick (2 ∷ 2 ∷ 2 ∷ 4 ∷ []) (map pos (1 ∷ 1 ∷ 1 ∷ 6 ∷ [])) 6 (true ∷ true ∷ false ∷ false ∷ []) → ⊥
too_light p = differ_too_light (one_pick (2 ∷ 2 ∷ 2 ∷ 4 ∷ []) (map pos (1 ∷ 1 ∷ 1 ∷ 6 ∷ [])) 6 (true ∷ true ∷ false ∷ false ∷ []) (true ∷ true ∷ true ∷ false ∷ []) p light)

pub no_pick : (pick : List Bool) → IsPick (1 ∷ 2 ∷ []) (map pos (0 ∷ 0 ∷ [])) 4 pick → ⊥
no_pick pick p = omega (arith, pick_heavy (1 ∷ 2 ∷ []) (map pos (0 ∷ 0 ∷ [])) 4 pick p)
